use Rattle.std.proofs.Common.{sym, subst, ◌∙◌}
use Rattle.std.specs.Prelude.{true}
use Rattle.raim_model.specs.PointVerdict.{reason_of}
use Rattle.fix_interval.specs.Intervals.{ends}
use Rattle.slope_laws.specs.ShiftSlopes.{squared_shift, slopes_for, exclude_of}
use Rattle.slope_laws.specs.Hold.{Tells, LeavesVerdict}
use Rattle.slope_laws.proofs.ShiftSlopes.{shift_holds}
use Rattle.slope_laws.proofs.Kept.{exclude_left}
use Rattle.slope_laws.proofs.Told.{exclude_reason}
use Rattle.slope_test.specs.Named.{named}
use Rattle.slope_test.proofs.Detections.{exclude_few, few_below_six}
use Rattle.exclusion_subsets.proofs.exclusion.exclude.Goals as goal

pub returns-clause-right : goal.returns-clause-right
returns-clause-right c = λ gs k k_less l m n.
    subst (λ v. Tells v (reason_of (squared_shift c.args.shift) true k k_less gs)) (sym c.excluded.ensures.exact)
    (exclude_reason (squared_shift c.args.shift) (slopes_for c.args.shift) (shift_holds c.args.shift) (named c.args.rows.now) (ends c.args.kappa) (ends c.args.kappa_less) gs k k_less l m n)

pub returns-clause-isotone : goal.returns-clause-isotone
returns-clause-isotone c = λ wide wide_kappa wide_less i k l.
    subst (λ v. LeavesVerdict (exclude_of c.args.shift wide wide_kappa wide_less) v) (sym c.excluded.ensures.exact)
    (exclude_left (slopes_for c.args.shift) (shift_holds c.args.shift) (named c.args.rows.now) wide (ends c.args.kappa) wide_kappa (ends c.args.kappa_less) wide_less i k l)

pub returns-clause-few : goal.returns-clause-few
returns-clause-few c = (
  λ e. few_below_six c.args.shift c.args.rows.now (ends c.args.kappa) (ends c.args.kappa_less) (sym c.excluded.ensures.exact ∙ e),
  λ p. c.excluded.ensures.exact ∙ sym (exclude_few c.args.shift c.args.rows.now (ends c.args.kappa) (ends c.args.kappa_less) p),
)
