use Rattle.std.proofs.Common.{arith, ap, ◌∙◌, ◌^◌, ℤ, pos, ◌+ℤ◌, ◌≡◌, to_z, of_z}
use Rattle.std.proofs.lemmas.Int.{ints}
use mir.Syntax.{w128}
use lib.Dec.{lit≤}
use Rattle.whole_numbers.specs.Rounding.{floor_of}
use Rattle.whole_numbers.proofs.Casts.{plain}
use Rattle.whole_numbers.proofs.Divisions.{floor_of_low, floor_of_high}
use Rattle.time_forms.specs.Programs.{IsNumberWithin}
use Rattle.angle_forms.proofs.anomalies.remainder_of.Goals as goal

summed : (m e b : ℤ) → IsNumberWithin m (2 ^ 60) → IsNumberWithin e (2 ^ 60) → IsNumberWithin b (2 ^ 90)
    → to_z w128 (of_z w128 (to_z w128 (of_z w128 (to_z w128 (of_z w128 (to_z w128 (of_z w128 m) +ℤ to_z w128 (of_z w128 e))) +ℤ pos 1)) +ℤ to_z w128 (of_z w128 b))) ≡ ((m +ℤ e) +ℤ pos 1) +ℤ b
summed m e b p q s = let pl = p.low in let ph = p.high in let ql = q.low in let qh = q.high in let sl = s.low in let sh = s.high in omega (arith, ints)

eighth_within : (m : ℤ) → IsNumberWithin m (2 ^ 60) → IsNumberWithin (floor_of m 8) (2 ^ 60)
eighth_within m p =
    let a = floor_of_low m 8 (lit≤ tt) in
    let b = floor_of_high m 8 (lit≤ tt) in
    let l = p.low in
    let h = p.high in
    record { low = omega (arith, ints); high = omega (arith, ints) }

eighth : (c : goal.After-floor_shift) → c.floor_shift.result ≡ floor_of c.args.missed 8
eighth c = c.floor_shift.ensures ∙ ap (λ z. floor_of z 8) (plain c.ranges.missed)

pub returns : goal.returns
returns c =
    summed c.args.missed c.floor_shift.result c.args.bend c.requires.missed_small (rw (eighth c) (eighth_within c.args.missed c.requires.missed_small)) c.requires.bend_small
    ∙ ap (λ z. ((c.args.missed +ℤ z) +ℤ pos 1) +ℤ c.args.bend) (eighth c)
