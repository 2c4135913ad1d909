use Rattle.std.proofs.Common.{sym, subst}
use Rattle.fix_interval.specs.Ends.{IsInside}
use Rattle.site_laws.specs.Places.{widest_place}
use Rattle.site_laws.proofs.PlaceOver.{longitude_inside}
use Rattle.leg_place.proofs.place.longitude.Goals as goal

pub returns-clause-bound : goal.returns-clause-bound
returns-clause-bound c = subst (λ e. IsInside e widest_place.lon) (sym c.from_dec_over.ensures.exact) (longitude_inside c.args.degrees.now c.requires)
