use Rattle.std.proofs.Common.{arith, ap, sym, ◌∙◌, ◌+◌, ◌^◌}
use Rattle.time_forms.specs.Forms.{Form}
use Rattle.time_forms.specs.Operations.{sub_form, mul_form}
use Rattle.time_forms.specs.Programs.{form}
use Rattle.time_forms.proofs.Shorts.{short_same}
use Rattle.matrix_forms.proofs.Bounds.{weaken}
use Rattle.sight_forms.proofs.decision.beyond.Goals as goal

pub returns-clause-exact : goal.returns-clause-exact
returns-clause-exact c =
    let m = short_same (mul_form (form c.args.mask) (form c.args.range)) (form c.in_ok-masked.masked) (sym c.in_ok-masked.ensures.exact) in
    c.sub.ensures.exact ∙ ap (λ (f : Form). sub_form (form c.args.upward) f) m

pub returns-clause-small : goal.returns-clause-small
returns-clause-small c =
    let s = c.sub.ensures.small (2 ^ 58) (2 ^ 58) c.requires.upward_small c.in_ok-masked.ensures.small in
    weaken (form c.sub.result) (2 ^ 58 + 2 ^ 58) (2 ^ 60) (omega arith) s
