use Rattle.std.proofs.Common.{sym, subst}
use Rattle.fix_interval.specs.Ends.{IsInside}
use Rattle.site_laws.specs.Places.{widest_place}
use Rattle.site_laws.proofs.PlaceOver.{height_inside}
use Rattle.leg_place.proofs.place.height.Goals as goal

pub returns-clause-bound : goal.returns-clause-bound
returns-clause-bound c = subst (λ e. IsInside e widest_place.height) (sym c.from_dec_over.ensures.exact) (height_inside c.args.metres.now c.requires)
