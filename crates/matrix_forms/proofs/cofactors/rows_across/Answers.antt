use Rattle.std.proofs.Common.{sym, subst, ◌∙◌}
use Rattle.geometry_forms.specs.Geometry.{minor_form}
use Rattle.matrix_forms.specs.Views.{matrix_of}
use Rattle.matrix_forms.specs.Shorts.{IsShortRow}
use Rattle.matrix_forms.proofs.Rows.{short_minors, same_minors, row_east, row_north}
use Rattle.matrix_forms.proofs.cofactors.rows_across.Goals as goal

pub returns-in_err-below-clause-some : goal.returns-in_err-below-clause-some
unfolding minor_form
returns-in_err-below-clause-some c p q r = let s = c.in_err-below.ensures.some (short_minors c.up.ensures c.clock.ensures p) in cc

pub returns-in_err-of_first-clause-some : goal.returns-in_err-of_first-clause-some
unfolding minor_form
returns-in_err-of_first-clause-some c p q r =
    let below = same_minors c.in_ok-below.ensures.exact c.up.ensures c.clock.ensures in
    let s = c.in_err-of_first.ensures.some (subst IsShortRow (sym (row_east (matrix_of c.args.h.now) c.north-north.ensures below)) q) in cc

pub returns-in_err-of_second-clause-some : goal.returns-in_err-of_second-clause-some
unfolding minor_form
returns-in_err-of_second-clause-some c p q r =
    let below = same_minors c.in_ok-below.ensures.exact c.up.ensures c.clock.ensures in
    let s = c.in_err-of_second.ensures.some (subst IsShortRow (sym (row_north (matrix_of c.args.h.now) c.north-north.ensures c.east-east.ensures below)) r) in cc

pub returns-clause-exact : goal.returns-clause-exact
unfolding minor_form
returns-clause-exact c =
    let below = same_minors c.in_ok-below.ensures.exact c.up.ensures c.clock.ensures in
    (c.in_ok-of_first.ensures.exact ∙ row_east (matrix_of c.args.h.now) c.north-north.ensures below, c.in_ok-of_second.ensures.exact ∙ row_north (matrix_of c.args.h.now) c.north-north.ensures c.east-east.ensures below)
