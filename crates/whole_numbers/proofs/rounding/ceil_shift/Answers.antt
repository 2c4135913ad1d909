use Rattle.std.proofs.Common.{◌≡◌, ◌∙◌, ap, sym, subst, ◌≤◌, ◌^◌, to_z, of_z, arith, rules}
use Rattle.std.specs.Int.{int_shr}
use Rattle.whole_numbers.specs.Rounding.{floor_of, ceil_of}
use mir.Val.{SFits}
use mir.Syntax.{w128}
use Rattle.whole_numbers.proofs.Casts.{plain}
use Rattle.whole_numbers.proofs.Divisions.{power_exact, shr-floor_of}
use Rattle.whole_numbers.proofs.rounding.ceil_shift.Goals as goal

pub returns-then-z-eqminus170141183460469231731687303715884105728 :
    goal.returns-then-z-eqminus170141183460469231731687303715884105728
returns-then-z-eqminus170141183460469231731687303715884105728 c =
    let fz : SFits w128 c.args.z = search rules in
    let fs : SFits w128 (int_shr (to_z w128 (of_z w128 c.args.z)) c.args.bits) = search rules in
    let least = sym (plain fz) ∙ ap (to_z w128) c.if-z-eqminus170141183460469231731687303715884105728.true in
    let small : c.args.bits ≤ 127 = omega arith in
    let exact = subst (λ z. ceil_of z (2 ^ c.args.bits) ≡ floor_of z (2 ^ c.args.bits)) (sym least) (power_exact 127 c.args.bits small) in
    plain fs ∙ ap (λ z. int_shr z c.args.bits) (plain fz) ∙ shr-floor_of c.args.z c.args.bits ∙ sym exact
