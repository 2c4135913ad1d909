use Rattle.std.proofs.Common.{arith, sym, ◌∙◌, inr}
use Rattle.time_forms.specs.Programs.{form}
use Rattle.list_forms.specs.Views.{told}
use Rattle.list_forms.proofs.Lists.{exclude_few, exclude_whole, exclude_lists}
use Rattle.list_forms.proofs.exclusion.excluded.Goals as goal

pub returns-then-rows-lt6-clause-exact : goal.returns-then-rows-lt6-clause-exact
returns-then-rows-lt6-clause-exact c = inr (exclude_few c.args.shift c.args.rows.now (form c.args.kappa) (form c.args.kappa_less) (omega arith))

pub returns-then-not-passes-clause-exact : goal.returns-then-not-passes-clause-exact
returns-then-not-passes-clause-exact c = exclude_whole c.args.shift c.args.rows.now (form c.args.kappa) (form c.args.kappa_less) (told c.detect_from-whole.result) (omega arith) c.detect_from-whole.ensures.exact (sym c.passes.ensures ∙ c.if-not-passes.true)

pub returns-clause-exact : goal.returns-clause-exact
returns-clause-exact c =
    exclude_lists c.args.shift c.args.rows.now (form c.args.kappa) (form c.args.kappa_less) (told c.detect_from-whole.result) (told c.told_without_each.result) (omega arith) c.detect_from-whole.ensures.exact (sym c.passes.ensures ∙ c.if-not-passes.false) c.told_without_each.ensures
