use Rattle.std.proofs.Common.{ap, ◌∙◌}
use Rattle.std.specs.Option.{option_map}
use Rattle.time_forms.specs.Forms.{Form}
use Rattle.time_forms.specs.RootForms.{checked_sqrt_form}
use Rattle.time_forms.specs.Programs.{form}
use Rattle.site_forms.proofs.FoundFrames.{bulge_none, bulge_some}
use Rattle.site_forms.proofs.ellipsoid.bulge.Goals as goal

pub returns-in_err-square-clause-exact : goal.returns-in_err-square-clause-exact
returns-in_err-square-clause-exact c = ap (option_map form) c.from_residual.ensures ∙ bulge_none (form c.args.sine) c.in_err-square.ensures.exact

pub returns-clause-exact : goal.returns-clause-exact
returns-clause-exact c = c.sqrt.ensures.exact ∙ ap (λ (f : Form). checked_sqrt_form f) c.radicand.ensures.exact ∙ bulge_some (form c.args.sine) (form c.in_ok-square.square) c.in_ok-square.ensures.exact
