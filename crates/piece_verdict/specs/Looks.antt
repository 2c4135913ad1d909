-- What is seen of the usable satellites over a piece of time, as a test of rows takes it.
use Rattle.std.specs.Prelude.{◌≡◌, ℕ, ◌≤◌, ◌<◌, ℤ, if◌then◌else◌, List, [], ◌∷◌, Some, None}
use Rattle.raim_model.specs.declared.almanac.AlmRecord.{AlmRecord}
use Rattle.raim_model.specs.Level.{Level}
use Rattle.raim_model.specs.Receiver.{Site, site}
use Rattle.raim_model.specs.Solution.{Case, Sightings, Solution, is_seen, usable}
use Rattle.slope_laws.specs.Rows.{NamedRowsInside}
use Rattle.slope_test.specs.Named.{named}
use Rattle.verdict_laws.specs.Sights.{Sighted, count_possible, first_straddling, rows_seen}
use Rattle.piece_verdict.specs.declared.looks.Looks.{Looks}
use Rattle.piece_verdict.specs.declared.looks.Looks.TheVariants.{Few, Straddle, Rows}

-- what a test that needs so many satellites makes of what is seen: too few may be visible; else the first that straddles; else
-- the rows of the visible ones
abbrev pub AreLooks : (needed : ℕ) → List Sighted → Looks → Type 0
AreLooks needed seen Few = count_possible seen < needed
AreLooks needed seen (Straddle prn) = (needed ≤ count_possible seen) × (first_straddling seen ≡ Some prn)
AreLooks needed seen (Rows rows) = (needed ≤ count_possible seen) × (first_straddling seen ≡ None) × (named rows.items ≡ rows_seen seen)

-- what the looks over a wider piece leave to those over a piece inside: too few stay too few, and rows are rows of the same
-- satellites inside them
abbrev pub LeavesLooks : (wide inside : Looks) → Type 0
LeavesLooks Few inside = inside ≡ Few
LeavesLooks (Straddle prn) inside = Unit {0}
LeavesLooks (Rows wide) (Rows rows) = NamedRowsInside (named rows.items) (named wide.items)
LeavesLooks (Rows wide) inside = ⊥

-- the visible ones of the satellites of a list of records
unfoldable pub visible_prns : (N : Level) (c : Case) (t : ℤ) (from : Site) (recs : List AlmRecord) → Sightings N c t from recs → List ℕ
visible_prns N c t from [] s = []
visible_prns N c t from (rec ∷ recs) s = if is_seen s.0 then rec.prn ∷ visible_prns N c t from recs s.1 else visible_prns N c t from recs s.1

-- the satellites that a solution sees, by rising PRN
abbrev pub prns_of : {N : Level} {c : Case} {t : ℤ} → Solution N c t → List ℕ
prns_of {N} {c} {t} s = visible_prns N c t (site s.receiver) (usable c t) s.sightings
