use Rattle.std.proofs.Common.{arith, sym, ◌∙◌}
use Rattle.fix_interval.specs.Intervals.{ends}
use Rattle.geom_inverse.specs.Views.{rows_ends}
use Rattle.slope_test.proofs.Detections.{exclude_few, exclude_whole, exclude_subsets}
use Rattle.exclusion_subsets.proofs.exclusion.excluded.Goals as goal

pub returns-then-rows-lt6-clause-exact : goal.returns-then-rows-lt6-clause-exact
returns-then-rows-lt6-clause-exact c = exclude_few c.args.shift c.args.rows.now (ends c.args.kappa) (ends c.args.kappa_less) (omega arith)

pub detect_by_sums-whole-requires-clause-dets : goal.detect_by_sums-whole-requires-clause-dets
detect_by_sums-whole-requires-clause-dets c = c.none-dets.ensures (rows_ends c.args.rows.now)

pub returns-then-not-passes-clause-exact : goal.returns-then-not-passes-clause-exact
returns-then-not-passes-clause-exact c = exclude_whole c.args.shift c.args.rows.now (ends c.args.kappa) (ends c.args.kappa_less) c.detect_by_sums-whole.result (omega arith) c.detect_by_sums-whole.ensures.exact (sym c.passes.ensures ∙ c.if-not-passes.true)

pub returns-clause-exact : goal.returns-clause-exact
returns-clause-exact c = exclude_subsets c.args.shift c.args.rows.now (ends c.args.kappa) (ends c.args.kappa_less) c.detect_by_sums-whole.result c.subsets_told.result (omega arith) c.detect_by_sums-whole.ensures.exact (sym c.passes.ensures ∙ c.if-not-passes.false) c.subsets_told.ensures.value
