use Rattle.std.proofs.Common.{ap, ◌∙◌, ◌*◌, ◌^◌}
use Rattle.std.specs.Option.{option_map}
use lib.Dec.{lit≤}
use Rattle.time_forms.specs.Forms.{Form}
use Rattle.time_forms.specs.Operations.{fixed_of}
use Rattle.time_forms.specs.QuotientForms.{checked_div_form}
use Rattle.time_forms.specs.Programs.{form}
use Rattle.site_forms.proofs.Bounds.{wider_form}
use Rattle.site_forms.proofs.Constants.{axis-is}
use Rattle.site_forms.proofs.FoundFrames.{radius_none, radius_some}
use Rattle.site_forms.proofs.ellipsoid.radius.Goals as goal

pub returns-in_err-bulge-clause-exact : goal.returns-in_err-bulge-clause-exact
returns-in_err-bulge-clause-exact c = ap (option_map form) c.from_residual.ensures ∙ radius_none (form c.args.sine) c.in_err-bulge.ensures.exact

pub div-requires-clause-a_small : goal.div-requires-clause-a_small
div-requires-clause-a_small c = wider_form (2 * 2 ^ 41) (2 ^ 58) (lit≤ tt) (c.steady.ensures.small (2 ^ 41) record { low = record { le = tt }; high = record { le = tt } })

pub returns-clause-exact : goal.returns-clause-exact
returns-clause-exact c =
    c.div.ensures.exact ∙ ap (λ (f : Form). checked_div_form f (form c.in_ok-bulge.bulge)) (c.steady.ensures.exact ∙ ap fixed_of axis-is)
    ∙ radius_some (form c.args.sine) (form c.in_ok-bulge.bulge) c.in_ok-bulge.ensures.exact
