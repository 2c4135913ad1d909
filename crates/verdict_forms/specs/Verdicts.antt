-- The verdict of a piece of time by what forms tell of the satellites.
use Rattle.std.specs.Prelude.{◌≡◌, ℕ, ◌-◌, true, if◌then◌else◌, nat_lt, List, length}
use Rattle.raim_model.specs.declared.limits.Limits.{Limits}
use Rattle.raim_model.specs.declared.verdict.Why.TheVariants.{Few}
use Rattle.raim_model.specs.PointVerdict.{least_count}
use Rattle.fix_interval.specs.Ends.{IsInside}
use Rattle.slope_laws.specs.declared.shift.Shift.{Shift}
use Rattle.verdict_laws.specs.PieceVerdict.{kappa_over}
use Rattle.time_forms.specs.Forms.{Form}
use Rattle.time_forms.specs.Operations.{fixed_of}
use Rattle.geometry_forms.specs.Rows.{RowForm}
use Rattle.slope_forms.specs.Told.{Told, passing, failing, unknown}
use Rattle.slope_forms.specs.Slopes.{detect_told, exclude_told, safe_factors}
use Rattle.verdict_forms.specs.Sights.{SightTold, told_possible, some_unsure, form_rows}

-- the test of the rows as the mode has it
abbrev pub test_told : Shift → Limits → (alert_mm : ℕ) → List RowForm → Told
test_told shift limits alert_mm rows =
    if limits.exclude then exclude_told shift rows (fixed_of (kappa_over limits alert_mm (length rows))) (fixed_of (kappa_over limits alert_mm (length rows - 1)))
    else detect_told shift rows (fixed_of (kappa_over limits alert_mm (length rows)))

-- too few that may be visible; else nothing while one is not known; else what the test of the visible rows tells
unfoldable pub verdict_told : Shift → Limits → (alert_mm : ℕ) → List SightTold → Told
verdict_told shift limits alert_mm seen =
    if nat_lt (told_possible seen) (least_count limits.exclude) then failing Few
    else if some_unsure seen then unknown else test_told shift limits alert_mm (form_rows seen)

-- the factors of the test of n rows are at most 2^47 units: no product leaves 128 bits
pub record AreSafe (limits : Limits) (alert_mm n : ℕ) : Type 0 where
  pub all : IsInside (kappa_over limits alert_mm n) safe_factors
  pub fewer : limits.exclude ≡ true → IsInside (kappa_over limits alert_mm (n - 1)) safe_factors
