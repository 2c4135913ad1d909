use Rattle.std.proofs.Common.{sym, subst}
use Rattle.fix_interval.specs.Ends.{IsInside}
use Rattle.site_laws.specs.Places.{widest_place}
use Rattle.site_laws.proofs.PlaceOver.{latitude_inside}
use Rattle.leg_place.proofs.place.latitude.Goals as goal

pub returns-clause-bound : goal.returns-clause-bound
returns-clause-bound c = subst (λ e. IsInside e widest_place.lat) (sym c.from_dec_over.ensures.exact) (latitude_inside c.args.degrees.now c.requires)
