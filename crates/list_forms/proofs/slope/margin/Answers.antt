use Rattle.std.proofs.Common.{arith, ap₂, sym, ◌∙◌, ◌+◌, ◌^◌}
use Rattle.time_forms.specs.Operations.{sub_form, mul_form}
use Rattle.time_forms.specs.Programs.{form}
use Rattle.time_forms.proofs.Shorts.{short_same}
use Rattle.slope_forms.specs.Slopes.{margin_form}
use Rattle.matrix_forms.proofs.Bounds.{weaken}
use Rattle.list_forms.proofs.slope.margin.Goals as goal

pub returns-clause-exact : goal.returns-clause-exact
unfolding margin_form
returns-clause-exact c =
    let d = short_same (mul_form (form c.args.all) (form c.args.less)) (form c.in_ok-determinants.determinants) (sym c.in_ok-determinants.ensures.exact) in
    let w = short_same (mul_form (form c.args.kappa) (form c.args.shifted)) (form c.in_ok-weighed.weighed) (sym c.in_ok-weighed.ensures.exact) in
    c.sub.ensures.exact ∙ ap₂ sub_form d w

pub returns-clause-small : goal.returns-clause-small
returns-clause-small c =
    let s = c.sub.ensures.small (2 ^ 58) (2 ^ 58) c.in_ok-determinants.ensures.small c.in_ok-weighed.ensures.small in
    weaken (form c.sub.result) (2 ^ 58 + 2 ^ 58) (2 ^ 60) (omega arith) s
