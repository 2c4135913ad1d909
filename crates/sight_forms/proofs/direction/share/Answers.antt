use Rattle.std.proofs.Common.{ap, ◌∙◌}
use Rattle.time_forms.specs.Programs.{form}
use Rattle.orbit_forms.specs.Positions.{VectorForm}
use Rattle.look_forms.specs.Looks.{dot_form}
use Rattle.sight_forms.specs.Views.{component_form}
use Rattle.sight_forms.proofs.Steps.{quotient_is}
use Rattle.sight_forms.proofs.direction.share.Goals as goal

pub returns-clause-exact : goal.returns-clause-exact
returns-clause-exact c =
    let part = c.in_ok-part.ensures.exact ∙ ap (λ (v : VectorForm). dot_form v (component_form c.args.line)) c.named.ensures in
    quotient_is c.div.result (form c.in_ok-part.part) (form c.args.range) _ c.div.ensures.exact part
