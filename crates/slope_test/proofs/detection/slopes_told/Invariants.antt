use Rattle.std.proofs.Common.{take}
use Rattle.fix_interval.specs.Intervals.{ends}
use Rattle.slope_laws.specs.Rows.{removals}
use Rattle.geom_inverse.specs.Views.{rows_ends}
use Rattle.slope_test.specs.Determinants.{AreDeterminants}
use Rattle.slope_test.specs.Marks.{SlopesPass}
use Rattle.slope_test.specs.Named.{named, slopes_over}
use Rattle.slope_test.specs.Tallies.{IsTally}
use Rattle.slope_test.proofs.detection.slopes_told.Given as goal

abbrev pub invariant-loop-i : goal.invariant-loop-i
invariant-loop-i l = record {
  tally : IsTally l.tally (slopes_over l.shift l.rows (ends l.kappa)) (take l.i (removals (named l.rows)));
  known : SlopesPass l.shift (named l.rows) (ends l.kappa) l.known.places;
  dets : AreDeterminants l.dets (rows_ends l.rows);
}
