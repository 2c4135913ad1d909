use Rattle.std.proofs.Common.{rules, arith, ap, ap₂, ◌∙◌, ◌≡◌, ℤ, pos, neg_ℤ, ◌+◌, ◌^◌, ◌+ℤ◌, ◌-ℤ◌, ◌*ℤ◌, ◌≤ℤ◌}
use mir.Val.{SFits}
use mir.Syntax.{w128}
use lib.Dec.{lit≤}
use Rattle.std.proofs.lemmas.Int.{ints}
use Rattle.whole_numbers.specs.Rounding.{floor_of}
use Rattle.whole_numbers.proofs.Casts.{plain}
use Rattle.whole_numbers.proofs.Divisions.{floor_of_low, floor_of_high}
use Rattle.fix_interval.specs.Ends.{Ends}
use Rattle.fix_interval.specs.Intervals.{ends}
use Rattle.fix_interval.specs.Ranges.{point}
use Rattle.fix_interval.proofs.EndSums.{same_ends}
use Rattle.kepler_laws.specs.Anomalies.{anomalies_of}
use Rattle.kepler_laws.specs.EccentricSine.{nearest_turn_of, wrapped_of}
use Rattle.time_forms.specs.Forms.{Form}
use Rattle.time_forms.specs.Operations.{fixed_of}
use Rattle.time_forms.specs.Programs.{wide, IsNumberWithin}
use Rattle.time_forms.proofs.Bits.{lower_within, upper_within, middle_within, wider_bits}
use Rattle.orbit_forms.specs.Anomalies.{bracket_at}
use Rattle.angle_forms.proofs.brackets.bracket.Goals as goal

lower_sum : (a t z : ℤ) → neg_ℤ (pos (2 ^ 40)) ≤ℤ a → IsNumberWithin t (2 ^ 59) → z ≡ a +ℤ t → neg_ℤ (pos (2 ^ 59 + 2 ^ 40)) ≤ℤ z
lower_sum a t z h p e = let l = p.low in rw e (omega (arith, ints))

upper_sum : (a t z : ℤ) → a ≤ℤ pos (2 ^ 40) → IsNumberWithin t (2 ^ 59) → z ≡ a +ℤ t → z ≤ℤ pos (2 ^ 59 + 2 ^ 40)
upper_sum a t z h p e = let u = p.high in rw e (omega (arith, ints))

narrow : (a b t y z : ℤ) → neg_ℤ (pos (2 ^ 40)) ≤ℤ a → b ≤ℤ pos (2 ^ 40) → y ≡ a +ℤ t → z ≡ b +ℤ t → (z -ℤ y) ≤ℤ pos (2 ^ 41)
narrow a b t y z h k e f = rw (e, f) (omega (arith, ints))

half_gap : (lo hi : ℤ) → lo ≤ℤ hi → (hi -ℤ lo) ≤ℤ pos (2 ^ 41) → IsNumberWithin (hi -ℤ floor_of (lo +ℤ hi) 2) (2 ^ 42)
half_gap lo hi o w =
    let a = floor_of_low (lo +ℤ hi) 2 (lit≤ tt) in
    let b = floor_of_high (lo +ℤ hi) 2 (lit≤ tt) in
    record { low = omega (arith, ints); high = omega (arith, ints) }

-- the whole turns that are put back
turned : (c : goal.After-steady) → c.whole_turns.result ≡ nearest_turn_of c.args.m.centre *ℤ pos (2 ^ 38)
turned c =
    let m : SFits w128 c.args.m.centre = search rules in
    let n : SFits w128 c.nearest_turn-turns.result = search rules in
    c.whole_turns.ensures.value ∙ ap (λ z. z *ℤ pos (2 ^ 38)) (plain n ∙ c.nearest_turn-turns.ensures.value ∙ ap nearest_turn_of (plain m))

low_is : (c : goal.After-steady) → c.further.result.lo ≡ c.anomalies-anomaly.result.lo +ℤ c.whole_turns.result
low_is c = let w : SFits w128 c.whole_turns.result = search rules in rw (plain w) at c.further.ensures.lo

high_is : (c : goal.After-steady) → c.further.result.hi ≡ c.anomalies-anomaly.result.hi +ℤ c.whole_turns.result
high_is c = let w : SFits w128 c.whole_turns.result = search rules in rw (plain w) at c.further.ensures.hi

low : (c : goal.After-steady) → neg_ℤ (pos (2 ^ 59 + 2 ^ 40)) ≤ℤ c.further.result.lo
low c = lower_sum c.anomalies-anomaly.result.lo c.whole_turns.result c.further.result.lo c.anomalies-anomaly.ensures.small.low c.whole_turns.ensures.small (low_is c)

high : (c : goal.After-steady) → c.further.result.hi ≤ℤ pos (2 ^ 59 + 2 ^ 40)
high c = upper_sum c.anomalies-anomaly.result.hi c.whole_turns.result c.further.result.hi c.anomalies-anomaly.ensures.small.high c.whole_turns.ensures.small (high_is c)

wide_low : (z : ℤ) → neg_ℤ (pos (2 ^ 59 + 2 ^ 40)) ≤ℤ z → neg_ℤ (pos (2 ^ 60)) ≤ℤ z
wide_low z h = omega (arith, ints)

wide_high : (z : ℤ) → z ≤ℤ pos (2 ^ 59 + 2 ^ 40) → z ≤ℤ pos (2 ^ 60)
wide_high z h = omega (arith, ints)

pub steady-requires : goal.steady-requires
steady-requires c =
    let w : SFits w128 c.whole_turns.result = search rules in
    let l = rw (plain w) at c.further.ensures.lo in
    let h = rw (plain w) at c.further.ensures.hi in
    record {
      low = wide_low c.further.result.lo (lower_sum c.anomalies-anomaly.result.lo c.whole_turns.result c.further.result.lo c.anomalies-anomaly.ensures.small.low c.whole_turns.ensures.small l);
      high = wide_high c.further.result.hi (upper_sum c.anomalies-anomaly.result.hi c.whole_turns.result c.further.result.hi c.anomalies-anomaly.ensures.small.high c.whole_turns.ensures.small h);
    }

-- the bracket, moved by whole turns
parts : (m : Form) (eps a f : Ends) (t : ℤ) → a ≡ anomalies_of eps (wrapped_of (point m.centre) (nearest_turn_of m.centre)) → t ≡ nearest_turn_of m.centre *ℤ pos (2 ^ 38) → f.lo ≡ a.lo +ℤ t → f.hi ≡ a.hi +ℤ t → f ≡ bracket_at m eps
parts m eps a f t ea et l h = same_ends (l ∙ ap₂ (λ (x : Ends) y. x.lo +ℤ y) ea et) (h ∙ ap₂ (λ (x : Ends) y. x.hi +ℤ y) ea et)

pub returns-clause-exact : goal.returns-clause-exact
returns-clause-exact c =
    let m : SFits w128 c.args.m.centre = search rules in
    let n : SFits w128 c.nearest_turn-turns.result = search rules in
    let w = rw (plain m) at c.wrapped.ensures.exact in
    c.steady.ensures.exact ∙ ap fixed_of (parts (wide c.args.m) (ends c.args.eps) (ends c.anomalies-anomaly.result) (ends c.further.result) c.whole_turns.result
    (c.anomalies-anomaly.ensures.exact ∙ ap (λ (a : Ends). anomalies_of (ends c.args.eps) a) (w ∙ ap (λ z. wrapped_of (point c.args.m.centre) z) (plain n ∙ c.nearest_turn-turns.ensures.value ∙ ap nearest_turn_of (plain m))))
    (turned c) (low_is c) (high_is c))

pub returns-clause-centre_small : goal.returns-clause-centre_small
unfolding fixed_of
returns-clause-centre_small c =
    let e = c.further.result in
    let l = lower_within e.lo e.hi (2 ^ 59 + 2 ^ 40) (low c) e.ordered (high c) in
    let h = upper_within e.lo e.hi (2 ^ 59 + 2 ^ 40) (low c) e.ordered (high c) in
    rw (ap (λ (f : Form). f.centre) c.steady.ensures.exact) (wider_bits (2 ^ 59 + 2 ^ 40) (2 ^ 60) (lit≤ tt) (middle_within e.lo e.hi (2 ^ 59 + 2 ^ 40) l h))

pub returns-clause-remainder_small : goal.returns-clause-remainder_small
unfolding fixed_of
returns-clause-remainder_small c =
    let e = c.further.result in
    rw (ap (λ (f : Form). f.remainder) c.steady.ensures.exact) (half_gap e.lo e.hi e.ordered
    (narrow c.anomalies-anomaly.result.lo c.anomalies-anomaly.result.hi c.whole_turns.result e.lo e.hi c.anomalies-anomaly.ensures.small.low c.anomalies-anomaly.ensures.small.high (low_is c) (high_is c)))
