-- The verdict on a piece of time of a case's flight, horizontal and vertical.
use Rattle.std.specs.Prelude.{ℕ, ℤ, List}
use Rattle.raim_model.specs.declared.verdict.Verdict.{Verdict}
use Rattle.raim_model.specs.Solution.{Case}
use Rattle.slope_laws.specs.declared.shift.Shift.TheVariants.{Horizontal, Vertical}
use Rattle.slope_laws.specs.Slopes.{SlopeTest}
use Rattle.slope_laws.specs.ShiftSlopes.{slopes_for}
use Rattle.verdict_laws.specs.Sights.{Sighted}
use Rattle.verdict_laws.specs.PieceVerdict.{seen_over, piece_verdict_by}
use Rattle.case_laws.specs.SightOver.{sight_over}

-- what is seen over a piece of the satellites that are usable at its first millisecond
abbrev pub seen_of : Case → (first last : ℤ) → List Sighted
seen_of c first last = seen_over (sight_over c) c first last

-- the verdict on a piece inside one root piece, by any test of slopes and alert limit in millimetres
abbrev pub verdict_by_test : SlopeTest → (alert_mm : ℕ) → Case → (first last : ℤ) → Verdict
verdict_by_test test alert_mm c first last = piece_verdict_by test alert_mm (sight_over c) c first last

-- the horizontal one, held against the alert limit of the limits
abbrev pub piece_verdict_of : Case → (first last : ℤ) → Verdict
piece_verdict_of c first last = verdict_by_test (slopes_for Horizontal) c.limits.alert_mm c first last

-- the vertical one, held against one of its own
abbrev pub vertical_piece_verdict_of : (alert_mm : ℕ) → Case → (first last : ℤ) → Verdict
vertical_piece_verdict_of alert_mm c first last = verdict_by_test (slopes_for Vertical) alert_mm c first last
