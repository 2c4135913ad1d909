use Rattle.std.proofs.Common.{sym, ◌∙◌}
use Rattle.fix_interval.specs.Intervals.{ends, ends_64}
use Rattle.geom_inverse.specs.Views.{sym_ends}
use Rattle.slope_test.proofs.MarkLemmas.{marked_passes, worked_out, marks_more}
use Rattle.slope_test.proofs.detection.slope_told.Goals as goal

pub returns-then-holds-clause-outcome : goal.returns-then-holds-clause-outcome
returns-then-holds-clause-outcome c = λ row.
    marked_passes c.args.shift c.args.rows.now (ends c.args.kappa) c.args.known.now.places c.args.i row (sym_ends c.args.adj.now) (ends_64 c.args.determinant) c.requires.known c.requires.place (sym c.holds.ensures ∙ c.if-holds.true) c.requires.adj c.requires.determinant

pub returns-then-passes-clause-outcome : goal.returns-then-passes-clause-outcome
returns-then-passes-clause-outcome c = λ row.
    worked_out c.args.shift c.args.rows.now (ends c.args.kappa) c.args.i c.index-rows-i.result row (sym_ends c.args.adj.now) (ends_64 c.args.determinant) (ends_64 c.of_all_but-less.result) c.slope_at-outcome.result c.slope_at-outcome.ensures c.of_all_but-less.ensures.value c.index-rows-i.is c.requires.place

pub returns-then-passes-clause-known : goal.returns-then-passes-clause-known
returns-then-passes-clause-known c =
    marks_more c.args.shift c.args.rows.now (ends c.args.kappa) c.args.known.now.places c.add.new.self.places c.args.i c.index-rows-i.result (sym_ends c.args.adj.now) (ends_64 c.args.determinant) c.requires.known c.requires.place c.requires.adj c.requires.determinant
    (sym (worked_out c.args.shift c.args.rows.now (ends c.args.kappa) c.args.i c.index-rows-i.result c.index-rows-i.result (sym_ends c.args.adj.now) (ends_64 c.args.determinant) (ends_64 c.of_all_but-less.result) c.slope_at-outcome.result c.slope_at-outcome.ensures c.of_all_but-less.ensures.value c.index-rows-i.is c.requires.place) ∙ c.passes.ensures c.if-passes.true) c.add.ensures

pub returns-else-passes-clause-outcome : goal.returns-else-passes-clause-outcome
returns-else-passes-clause-outcome c = λ row.
    worked_out c.args.shift c.args.rows.now (ends c.args.kappa) c.args.i c.index-rows-i.result row (sym_ends c.args.adj.now) (ends_64 c.args.determinant) (ends_64 c.of_all_but-less.result) c.slope_at-outcome.result c.slope_at-outcome.ensures c.of_all_but-less.ensures.value c.index-rows-i.is c.requires.place
