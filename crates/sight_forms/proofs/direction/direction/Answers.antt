use Rattle.std.proofs.Common.{ap, ap₂, ◌∙◌}
use Rattle.time_forms.specs.Forms.{Form}
use Rattle.time_forms.specs.QuotientForms.{div_form}
use Rattle.time_forms.specs.Programs.{form}
use Rattle.angle_forms.specs.Vectors.{vector_form}
use Rattle.look_forms.specs.Looks.{dot_form, direction_form}
use Rattle.sight_forms.specs.Views.{component_form}
use Rattle.sight_forms.proofs.Steps.{quotient_same}
use Rattle.sight_forms.proofs.Vectors.{same_direction}
use Rattle.sight_forms.proofs.direction.direction.Goals as goal

pub returns : goal.returns
unfolding direction_form
returns c =
    let d = component_form c.args.line in
    let f = c.args.frame.now in
    same_direction (c.in_ok-east.ensures.exact ∙ ap (λ (r : Form). div_form (dot_form (vector_form f.east) d) r) c.requires.range)
    (c.in_ok-north.ensures.exact ∙ ap (λ (r : Form). div_form (dot_form (vector_form f.north) d) r) c.requires.range)
    (quotient_same (form c.args.upward) (form c.args.range) (form c.in_ok-up.up) c.in_ok-up.ensures.exact ∙ ap₂ div_form c.requires.upward c.requires.range)
