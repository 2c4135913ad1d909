use Rattle.std.proofs.Common.{◌∙◌, ap, sym, pos, ◌+ℤ◌, to_z, of_z, rules}
use mir.Val.{SFits}
use mir.Syntax.{w128}
use Rattle.whole_numbers.proofs.Casts.{plain}
use Rattle.whole_numbers.proofs.Divisions.{ceil_by_exact, ceil_by_inexact}
use Rattle.whole_numbers.proofs.rounding.ceil_by.Goals as goal

pub returns-then-rem_euclid-eq0 : goal.returns-then-rem_euclid-eq0
returns-then-rem_euclid-eq0 c =
    let fz : SFits w128 c.args.z = search rules in
    let fk : SFits w128 c.args.k = search rules in
    let fd : SFits w128 c.div_euclid-down.result = search rules in
    let fr : SFits w128 c.rem_euclid.result = search rules in
    let down = rw (plain fz, plain fk) at c.div_euclid-down.ensures in
    let remainder = rw (plain fz, plain fk) at c.rem_euclid.ensures.value in
    plain fd ∙ down ∙ sym (ceil_by_exact c.args.z c.args.k c.requires (sym remainder ∙ sym (plain fr) ∙ ap (to_z w128) c.if-rem_euclid-eq0.true))

pub returns-else-rem_euclid-eq0 : goal.returns-else-rem_euclid-eq0
returns-else-rem_euclid-eq0 c =
    let fz : SFits w128 c.args.z = search rules in
    let fk : SFits w128 c.args.k = search rules in
    let fd : SFits w128 c.div_euclid-down.result = search rules in
    let fs : SFits w128 (to_z w128 (of_z w128 c.div_euclid-down.result) +ℤ pos 1) = search rules in
    let down = rw (plain fz, plain fk) at c.div_euclid-down.ensures in
    let remainder = rw (plain fz, plain fk) at c.rem_euclid.ensures.value in
    plain fs ∙ ap (λ t. t +ℤ pos 1) (plain fd ∙ down) ∙ sym (ceil_by_inexact c.args.z c.args.k c.requires (λ e. c.if-rem_euclid-eq0.false (ap (of_z w128) (remainder ∙ e))))
