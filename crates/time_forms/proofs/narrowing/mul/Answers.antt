use Rattle.std.proofs.Common.{◌∙◌, ap}
use Rattle.fix_interval.specs.Products.{mul_of}
use Rattle.time_forms.specs.Forms.{Holds}
use Rattle.time_forms.specs.Operations.{narrow_form, mul_form}
use Rattle.time_forms.specs.Programs.{form, short_of}
use Rattle.time_forms.proofs.Coarser.{mul_holds}
use Rattle.time_forms.proofs.Shorts.{if_short, if_short_within}
use Rattle.time_forms.proofs.narrowing.mul.Goals as goal

pub returns-clause-exact : goal.returns-clause-exact
unfolding mul_form
returns-clause-exact c = c.narrow.ensures.exact ∙ ap (λ f. short_of (narrow_form f)) c.wide_product.ensures.exact

pub returns-clause-holds : goal.returns-clause-holds
returns-clause-holds c h d x y t p q = if_short _ (mul_form (form c.args.a) (form c.args.b)) (returns-clause-exact c) (λ f. Holds h d f (mul_of x y)) (mul_holds (form c.args.a) (form c.args.b) x y t p q)

pub returns-clause-small : goal.returns-clause-small
returns-clause-small c = if_short_within _ (mul_form (form c.args.a) (form c.args.b)) (returns-clause-exact c)
