use Rattle.slope_laws.specs.declared.shift.Shift.TheVariants.{Horizontal, Vertical}
use Rattle.slope_laws.specs.ShiftSlopes.{slopes_for}
use Rattle.slope_laws.proofs.ShiftSlopes.{shift_holds}
use Rattle.verdict_laws.proofs.Pieces.{piece_settles}
use Rattle.case_laws.specs.SightOver.{sight_over}
use Rattle.case_laws.proofs.Looks.{sights_hold}
use Rattle.case_laws.proofs.laws.certain_verdicts_settle.Goals as goal

pub returns-clause-horizontal : goal.returns-clause-horizontal
returns-clause-horizontal c k first last a b p certain low ordered high =
    piece_settles (slopes_for Horizontal) (shift_holds Horizontal) k k.limits.alert_mm p.case.limits.alert.0 (sight_over k) (sights_hold k p.case) first last a b p.piece certain low ordered high

pub returns-clause-vertical : goal.returns-clause-vertical
returns-clause-vertical c alert_mm k first last a b m p certain low ordered high =
    piece_settles (slopes_for Vertical) (shift_holds Vertical) k alert_mm m (sight_over k) (sights_hold k p.case) first last a b p.piece certain low ordered high
