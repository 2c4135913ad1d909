use Rattle.raim_model.specs.Geometry.{horizontal, vertical}
use Rattle.slope_laws.specs.declared.shift.Shift.TheVariants.{Horizontal, Vertical}
use Rattle.slope_laws.specs.ShiftSlopes.{slopes_for}
use Rattle.slope_laws.proofs.ShiftSlopes.{shift_holds}
use Rattle.verdict_laws.proofs.Pieces.{piece_is_right}
use Rattle.case_laws.specs.SightOver.{sight_over}
use Rattle.case_laws.proofs.Looks.{sights_hold}
use Rattle.case_laws.proofs.laws.certain_verdicts_are_right.Goals as goal

pub returns-clause-horizontal : goal.returns-clause-horizontal
returns-clause-horizontal c k first last t p certain low high =
    piece_is_right horizontal (slopes_for Horizontal) (shift_holds Horizontal) k k.limits.alert_mm p.case.limits.alert.0 (sight_over k) (sights_hold k p.case) first last t p.piece certain low high

pub returns-clause-vertical : goal.returns-clause-vertical
returns-clause-vertical c alert_mm k first last t m p certain low high =
    piece_is_right vertical (slopes_for Vertical) (shift_holds Vertical) k alert_mm m (sight_over k) (sights_hold k p.case) first last t p.piece certain low high
