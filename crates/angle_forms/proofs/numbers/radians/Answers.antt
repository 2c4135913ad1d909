use Rattle.std.proofs.Common.{arith, rules, ℕ, ℤ, pos, ◌*◌, ◌^◌, ◌*ℤ◌}
use Rattle.std.proofs.lemmas.Int.{ints}
use mir.Syntax.{w128}
use mir.Val.{SFits}
use Rattle.whole_numbers.proofs.Casts.{plain}
use Rattle.time_forms.specs.Programs.{IsNumberWithin}
use Rattle.angle_forms.proofs.numbers.radians.Goals as goal

turned : (t : ℤ) (n : ℕ) → IsNumberWithin t n → IsNumberWithin (pos 1727108826179 *ℤ t) (8 * n * 2 ^ 38)
turned t n p = let l = p.low in let h = p.high in record { low = omega (arith, ints); high = omega (arith, ints) }

pub returns-clause-small : goal.returns-clause-small
returns-clause-small c n p =
    let r : SFits w128 c.scaled.result = search rules in
    rw (plain r) (c.scaled.ensures.small (8 * n) (rw (plain c.ranges.turns) (turned c.args.turns n p)))
