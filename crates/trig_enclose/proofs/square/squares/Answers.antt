use Rattle.std.proofs.Common.{ap, pos, arith, ◌≤◌, ◌*◌, ◌^◌}
use Rattle.std.proofs.Math.Nat.{mul-le-mul}
use Rattle.fix_interval.proofs.EndSums.{same_ends}
use Rattle.trig_enclose.proofs.square.squares.Goals as goal

pub invariant_of-result : goal.invariant_of-result
invariant_of-result c =
    let s : c.args.low * c.args.low ≤ c.args.high * c.args.high = mul-le-mul c.requires.order c.requires.order in
    let t : c.args.high * c.args.high ≤ 2 ^ 38 * 2 ^ 38 = mul-le-mul c.requires.small c.requires.small in
    record { ordered = omega arith; unit = omega arith }

pub returns : goal.returns
returns c = same_ends (ap pos c.square_down.ensures) (ap pos c.square_up.ensures)
