use Rattle.std.proofs.Common.{ap, sym, subst, ◌∙◌, ◌≡◌, ◌^◌}
use Rattle.fix_interval.specs.Ends.{Ends}
use Rattle.fix_interval.specs.Intervals.{ends}
use Rattle.fix_interval.specs.Quotients.{div_int_of, scale_of}
use Rattle.trig_laws.specs.Quarter.{turn_parts}
use Rattle.orbit_laws.specs.Angles.{rate_of, IsRate}
use Rattle.almanac_orbit.proofs.Decimals.{small_rate}
use Rattle.almanac_orbit.proofs.angles.rate.Goals as goal

pub dec76-requires-clause-small : goal.dec76-requires-clause-small
dec76-requires-clause-small c = small_rate c.in-Rad.d (subst IsRate c.in-Rad.is c.requires)

pub dec76-requires-in-Semi-clause-small : goal.dec76-requires-in-Semi-clause-small
dec76-requires-in-Semi-clause-small c = small_rate c.in-Semi.d (subst IsRate c.in-Semi.is c.requires)

pub returns-in-Rad : goal.returns-in-Rad
unfolding rate_of
returns-in-Rad c = subst (λ a. ends c.scale.result ≡ rate_of a) (sym c.in-Rad.is) (c.scale.ensures ∙ ap (λ (a : Ends). scale_of a (10 ^ 10) turn_parts) c.dec76.ensures.exact)

pub returns-in-Semi : goal.returns-in-Semi
unfolding rate_of
returns-in-Semi c = subst (λ a. ends c.div_int.result ≡ rate_of a) (sym c.in-Semi.is) (c.div_int.ensures.exact ∙ ap (λ (a : Ends). div_int_of a 2000) c.dec76-in-Semi.ensures.exact)
