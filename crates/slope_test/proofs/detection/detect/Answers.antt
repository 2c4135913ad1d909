use Rattle.std.proofs.Common.{sym, subst, ◌∙◌}
use Rattle.std.specs.Prelude.{false}
use Rattle.raim_model.specs.PointVerdict.{reason_of}
use Rattle.fix_interval.specs.Intervals.{ends}
use Rattle.geom_inverse.specs.Views.{rows_ends}
use Rattle.slope_laws.specs.ShiftSlopes.{squared_shift, slopes_for, detect_of}
use Rattle.slope_laws.specs.Hold.{Tells, LeavesVerdict}
use Rattle.slope_laws.proofs.ShiftSlopes.{shift_holds}
use Rattle.slope_laws.proofs.Kept.{detect_left}
use Rattle.slope_laws.proofs.Told.{detect_reason}
use Rattle.slope_test.specs.Named.{named}
use Rattle.slope_test.proofs.Detections.{detect_few, few_below}
use Rattle.slope_test.proofs.detection.detect.Goals as goal

pub detect_by_sums-requires-clause-dets : goal.detect_by_sums-requires-clause-dets
detect_by_sums-requires-clause-dets c = c.none-dets.ensures (rows_ends c.args.rows.now)

pub returns-clause-right : goal.returns-clause-right
returns-clause-right c = λ gs k k_less l m.
    subst (λ v. Tells v (reason_of (squared_shift c.args.shift) false k k_less gs)) (sym c.detect_by_sums.ensures.exact)
    (detect_reason (squared_shift c.args.shift) (slopes_for c.args.shift) (shift_holds c.args.shift) (named c.args.rows.now) (ends c.args.kappa) gs k k_less l m)

pub returns-clause-isotone : goal.returns-clause-isotone
returns-clause-isotone c = λ wide wide_kappa i k.
    subst (λ v. LeavesVerdict (detect_of c.args.shift wide wide_kappa) v) (sym c.detect_by_sums.ensures.exact)
    (detect_left (slopes_for c.args.shift) (shift_holds c.args.shift) (named c.args.rows.now) wide (ends c.args.kappa) wide_kappa i k)

pub returns-clause-few : goal.returns-clause-few
returns-clause-few c = (
  λ e. few_below c.args.shift c.args.rows.now (ends c.args.kappa) (sym c.detect_by_sums.ensures.exact ∙ e),
  λ p. c.detect_by_sums.ensures.exact ∙ sym (detect_few c.args.shift c.args.rows.now (ends c.args.kappa) p),
)
