use Rattle.slope_laws.specs.declared.shift.Shift.TheVariants.{Horizontal, Vertical}
use Rattle.slope_laws.specs.ShiftSlopes.{slopes_for}
use Rattle.verdict_laws.proofs.Masks.{undecided_is_near}
use Rattle.case_laws.specs.SightOver.{sight_over}
use Rattle.case_laws.proofs.Looks.{sights_hold}
use Rattle.case_laws.proofs.laws.undecided_masks_are_near.Goals as goal

pub returns-clause-horizontal : goal.returns-clause-horizontal
returns-clause-horizontal c k t prn p h = undecided_is_near (slopes_for Horizontal) k.limits.alert_mm k p.case (sight_over k) (sights_hold k p.case) t p.piece prn h

pub returns-clause-vertical : goal.returns-clause-vertical
returns-clause-vertical c alert_mm k t prn p h = undecided_is_near (slopes_for Vertical) alert_mm k p.case (sight_over k) (sights_hold k p.case) t p.piece prn h
