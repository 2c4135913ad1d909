use Rattle.std.specs.Prelude.{◌≡◌, IfSome}
use Rattle.std.proofs.Common.{sym, subst}
use Rattle.geometry_forms.specs.Geometry.{minor_form}
use Rattle.matrix_forms.specs.Views.{row_of, matrix_of}
use Rattle.matrix_forms.specs.Shorts.{IsShortRow}
use Rattle.matrix_forms.proofs.Rows.{short_minors, same_minors, row_up}
use Rattle.matrix_forms.proofs.cofactors.row_up.Goals as goal

pub returns-in_err-below-clause-some : goal.returns-in_err-below-clause-some
unfolding minor_form
returns-in_err-below-clause-some c p q r = let s = c.in_err-below.ensures.some (short_minors c.up.ensures c.clock-clock.ensures p) in cc

pub returns-in_err-around-clause-some : goal.returns-in_err-around-clause-some
unfolding minor_form
returns-in_err-around-clause-some c p q r = let s = c.in_err-around.ensures.some (short_minors c.north-north.ensures c.clock-clock.ensures q) in cc

pub returns-clause-exact : goal.returns-clause-exact
unfolding minor_form
returns-clause-exact c =
    let below = same_minors c.in_ok-below.ensures.exact c.up.ensures c.clock-clock.ensures in
    let around = same_minors c.in_ok-around.ensures.exact c.north-north.ensures c.clock-clock.ensures in
    subst (λ x. IfSome c.of_third.result (λ r. row_of r ≡ x)) (row_up (matrix_of c.args.h.now) c.north-north.ensures c.east.ensures below around) c.of_third.ensures.exact

pub returns-clause-some : goal.returns-clause-some
unfolding minor_form
returns-clause-some c p q r =
    let below = same_minors c.in_ok-below.ensures.exact c.up.ensures c.clock-clock.ensures in
    let around = same_minors c.in_ok-around.ensures.exact c.north-north.ensures c.clock-clock.ensures in
    c.of_third.ensures.some (subst IsShortRow (sym (row_up (matrix_of c.args.h.now) c.north-north.ensures c.east.ensures below around)) r)
