use Rattle.std.proofs.Common.{sym, subst}
use Rattle.fix_interval.specs.Products.{sqr_wide_of}
use Rattle.time_forms.specs.Forms.{Holds}
use Rattle.time_forms.specs.Programs.{form}
use Rattle.time_forms.proofs.FormProducts.{sqr_wide_holds}
use Rattle.time_forms.proofs.products.square.Goals as goal

pub returns-clause-exact : goal.returns-clause-exact
returns-clause-exact c = c.wide_product.ensures.exact

pub returns-clause-holds : goal.returns-clause-holds
returns-clause-holds c h d x t p = subst (λ f. Holds h d f (sqr_wide_of x)) (sym (returns-clause-exact c)) (sqr_wide_holds (form c.args.a) x t p)

pub returns-clause-small : goal.returns-clause-small
returns-clause-small c m p = c.wide_product.ensures.small m m p p
