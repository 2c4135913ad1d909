use Rattle.std.proofs.Common.{refl}
use Rattle.fix_interval.specs.Intervals.{ends, ends_64}
use Rattle.slope_laws.specs.Rows.{removals}
use Rattle.geom_inverse.specs.declared.Row.{Row}
use Rattle.geom_inverse.specs.Views.{sym_ends}
use Rattle.slope_test.specs.Named.{named, slopes_over}
use Rattle.slope_test.proofs.Loops.{tally_more, tally_all}
use Rattle.slope_test.proofs.detection.slopes_told.Goals as goal

pub loop-i-init : goal.loop-i-init
loop-i-init c = record {
  tally = c.new-tally.ensures (slopes_over c.args.shift c.args.rows.now (ends c.args.kappa));
  known = c.requires.known;
  dets = c.requires.dets;
}

pub loop-i-preserved : goal.loop-i-preserved
loop-i-preserved c =
    let r : Row = c.index-rows-i.result in
    record {
      tally = tally_more c.args.shift c.args.rows.now (ends c.args.kappa) c.loop-i.i r c.loop-i.tally c.with-tally.result _ c.slope_told-outcome.result (sym_ends c.args.adj.now) (ends_64 c.args.determinant)
          c.loop-i-test.true c.with-tally.ensures refl c.requires.adj c.requires.determinant (c.slope_told-outcome.ensures.outcome r) c.loop-i.invariant.tally;
      known = c.slope_told-outcome.ensures.known;
      dets = c.slope_told-outcome.ensures.dets;
    }

pub returns-clause-value : goal.returns-clause-value
returns-clause-value c = c.verdict.ensures (slopes_over c.args.shift c.args.rows.now (ends c.args.kappa)) (removals (named c.args.rows.now)) (tally_all c.args.shift c.args.rows.now (ends c.args.kappa) c.loop-i.i c.loop-i.tally c.loop-i-test.false c.loop-i.invariant.tally)
