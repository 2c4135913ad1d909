use Rattle.std.proofs.Common.{ap, sym, subst, ◌∙◌, ◌≡◌, ◌*◌, ◌^◌}
use Rattle.fix_interval.specs.Ends.{Ends}
use Rattle.fix_interval.specs.Intervals.{ends}
use Rattle.fix_interval.specs.Quotients.{div_int_of, scale_of}
use Rattle.trig_laws.specs.Quarter.{turn_parts}
use Rattle.orbit_laws.specs.Angles.{turns_of, IsAngle}
use Rattle.almanac_orbit.proofs.Decimals.{small_decimal}
use Rattle.almanac_orbit.proofs.angles.turns.Goals as goal

pub dec76-requires-clause-small : goal.dec76-requires-clause-small
dec76-requires-clause-small c = small_decimal c.in-Rad.d (subst IsAngle c.in-Rad.is c.requires)

pub dec76-requires-in-Semi-clause-small : goal.dec76-requires-in-Semi-clause-small
dec76-requires-in-Semi-clause-small c = small_decimal c.in-Semi.d (subst IsAngle c.in-Semi.is c.requires)

pub returns-in-Rad : goal.returns-in-Rad
unfolding turns_of
returns-in-Rad c = subst (λ a. ends c.scale.result ≡ turns_of a) (sym c.in-Rad.is) (c.scale.ensures ∙ ap (λ (a : Ends). scale_of a (10 ^ 13) (turn_parts * 2 ^ 38)) c.dec76.ensures.exact)

pub returns-in-Semi : goal.returns-in-Semi
unfolding turns_of
returns-in-Semi c = subst (λ a. ends c.div_int.result ≡ turns_of a) (sym c.in-Semi.is) (c.div_int.ensures.exact ∙ ap (λ (a : Ends). div_int_of a (2 ^ 39)) c.dec76-in-Semi.ensures.exact)

pub returns-in-Semi30 : goal.returns-in-Semi30
unfolding turns_of
returns-in-Semi30 c = subst (λ a. ends c.div_int-in-Semi30.result ≡ turns_of a) (sym c.in-Semi30.is) (c.div_int-in-Semi30.ensures.exact ∙ ap (λ (a : Ends). div_int_of a (2 ^ 39)) c.above.ensures)
