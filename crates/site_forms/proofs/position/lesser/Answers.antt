use Rattle.std.proofs.Common.{ap, ◌∙◌, ◌*◌, ◌^◌}
use lib.Dec.{lit≤}
use Rattle.time_forms.specs.Forms.{Form}
use Rattle.time_forms.specs.Operations.{fixed_of, mul_form}
use Rattle.time_forms.specs.Programs.{form, short_of}
use Rattle.site_forms.proofs.Bounds.{wider_form}
use Rattle.site_forms.proofs.Constants.{rest-is}
use Rattle.site_forms.proofs.position.lesser.Goals as goal

pub mul-requires-clause-b_small : goal.mul-requires-clause-b_small
mul-requires-clause-b_small c = wider_form (2 * 2 ^ 38) (2 ^ 60) (lit≤ tt) (c.steady.ensures.small (2 ^ 38) record { low = record { le = tt }; high = record { le = tt } })

pub returns-clause-exact : goal.returns-clause-exact
returns-clause-exact c = c.mul.ensures.exact ∙ ap (λ (f : Form). short_of (mul_form (form c.args.radius) f)) (c.steady.ensures.exact ∙ ap fixed_of rest-is)
