use Rattle.std.proofs.Common.{arith, rules, ap, ◌∙◌, ◌^◌, ℤ, to_z, of_z, ◌≡◌}
use Rattle.std.proofs.lemmas.Int.{ints}
use Rattle.std.proofs.lemmas.Nat.{pow_pos}
use mir.Syntax.{w128}
use mir.Val.{SFits}
use Rattle.whole_numbers.specs.Rounding.{floor_of}
use Rattle.whole_numbers.proofs.Casts.{plain}
use Rattle.whole_numbers.proofs.Divisions.{floor_of_low, floor_of_high}
use Rattle.time_forms.specs.Programs.{IsNumberWithin}
use Rattle.time_forms.proofs.shares.shifted.Goals as goal

shifted_within : (z : ℤ) → IsNumberWithin z (2 ^ 119) → IsNumberWithin (floor_of z (2 ^ 38)) (2 ^ 82)
shifted_within z p =
    let a = floor_of_low z (2 ^ 38) (pow_pos 38) in
    let b = floor_of_high z (2 ^ 38) (pow_pos 38) in
    let l = p.low in
    let h = p.high in
    record { low = omega (arith, ints); high = omega (arith, ints) }

is_shifted : (c : goal.After-floor_shift) → to_z w128 (of_z w128 c.floor_shift.result) ≡ floor_of c.args.z (2 ^ 38)
is_shifted c = let r : SFits w128 c.floor_shift.result = search rules in plain r ∙ c.floor_shift.ensures ∙ ap (λ z. floor_of z (2 ^ 38)) (plain c.ranges.z)

pub returns-clause-small : goal.returns-clause-small
returns-clause-small c = rw (is_shifted c) (shifted_within c.args.z c.requires.small)
