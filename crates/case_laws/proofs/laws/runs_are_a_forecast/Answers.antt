use Rattle.raim_model.specs.Geometry.{horizontal, vertical}
use Rattle.slope_laws.specs.declared.shift.Shift.TheVariants.{Horizontal, Vertical}
use Rattle.slope_laws.specs.ShiftSlopes.{slopes_for}
use Rattle.slope_laws.proofs.ShiftSlopes.{shift_holds}
use Rattle.case_laws.proofs.Forecasts.{forecast}
use Rattle.case_laws.proofs.laws.runs_are_a_forecast.Goals as goal

pub returns-clause-horizontal : goal.returns-clause-horizontal
returns-clause-horizontal c k runs i h = forecast horizontal (slopes_for Horizontal) (shift_holds Horizontal) k.limits.alert_mm i.limits.alert.0 k i runs h

pub returns-clause-vertical : goal.returns-clause-vertical
returns-clause-vertical c alert_mm k runs m i h = forecast vertical (slopes_for Vertical) (shift_holds Vertical) alert_mm m k i runs h
