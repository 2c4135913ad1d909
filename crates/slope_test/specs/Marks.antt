-- What is known of the slopes of a list of rows, and of the lists without one of them, by the places of the rows.
use Rattle.std.specs.Prelude.{◌≡◌, ℕ, ◌<◌, Bool, true, false, List, length, slice_index_or}
use Rattle.fix_interval.specs.Ends.{Ends}
use Rattle.geometry_laws.specs.Without.{without}
use Rattle.slope_laws.specs.declared.Outcome.TheVariants.{Passes}
use Rattle.raim_model.specs.declared.Verdict.TheVariants.{Available}
use Rattle.slope_laws.specs.declared.Shift.{Shift}
use Rattle.slope_laws.specs.Rows.{NamedRow, Removal}
use Rattle.slope_laws.specs.ShiftSlopes.{slopes_for, detect_of}

-- the row at a place, and the others
abbrev pub removed : List NamedRow → ℕ → NamedRow → Removal
removed rows i row = record { row = slice_index_or rows i row; rest = without i rows }

-- the slopes of the rows at the marked places pass
abbrev pub SlopesPass : Shift → List NamedRow → (kappa : Ends) → (marks : List Bool) → Type 0
SlopesPass shift rows kappa marks = (i : ℕ) (row : NamedRow) → i < length rows → slice_index_or marks i false ≡ true → (slopes_for shift).outcome rows (removed rows i row) kappa ≡ Passes

-- the lists without the row at a marked place pass
abbrev pub ListsPass : Shift → List NamedRow → (kappa_less : Ends) → (marks : List Bool) → Type 0
ListsPass shift rows kappa_less marks = (i : ℕ) → i < length rows → slice_index_or marks i false ≡ true → detect_of shift (without i rows) kappa_less ≡ Available
