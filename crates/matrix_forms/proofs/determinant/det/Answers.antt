use Rattle.std.proofs.Common.{sym}
use Rattle.geom_laws.specs.Determinant.{det_of}
use Rattle.time_forms.specs.Forms.{Holds}
use Rattle.geometry_forms.specs.Geometry.{minor_form, det_form}
use Rattle.geometry_forms.proofs.Adjugates.{det_held}
use Rattle.matrix_forms.specs.Views.{matrix_of}
use Rattle.matrix_forms.proofs.Shorts.{if_same}
use Rattle.matrix_forms.proofs.Rows.{short_minors, same_minors}
use Rattle.matrix_forms.proofs.determinant.det.Goals as goal

pub returns-in_err-above-clause-some : goal.returns-in_err-above-clause-some
unfolding minor_form
returns-in_err-above-clause-some c p q r = let s = c.in_err-above.ensures.some (short_minors c.east.ensures c.north.ensures p) in cc

pub returns-in_err-below-clause-some : goal.returns-in_err-below-clause-some
unfolding minor_form
returns-in_err-below-clause-some c p q r = let s = c.in_err-below.ensures.some (short_minors c.up.ensures c.clock.ensures q) in cc

pub returns-clause-exact : goal.returns-clause-exact
unfolding det_form minor_form
returns-clause-exact c =
    rw (sym (same_minors c.in_ok-above.ensures.exact c.east.ensures c.north.ensures), sym (same_minors c.in_ok-below.ensures.exact c.up.ensures c.clock.ensures)) c.laplace.ensures.exact

pub returns-clause-some : goal.returns-clause-some
unfolding det_form minor_form
returns-clause-some c =
    rw (sym (same_minors c.in_ok-above.ensures.exact c.east.ensures c.north.ensures), sym (same_minors c.in_ok-below.ensures.exact c.up.ensures c.clock.ensures)) (λ p q r. c.laplace.ensures.some r)

pub returns-clause-holds : goal.returns-clause-holds
returns-clause-holds c half d x t v = if_same c.laplace.result (det_form (matrix_of c.args.h.now)) (λ f. Holds half d f (det_of x)) (returns-clause-exact c) (det_held (matrix_of c.args.h.now) x t v)
