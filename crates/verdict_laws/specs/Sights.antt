-- What is seen of the satellites over a piece of time.
use Rattle.std.specs.Prelude.{ℕ, ◌+◌, List, [], ◌∷◌, map, Some, None}
use Rattle.std.specs.declared.option.Option.{Option}
use Rattle.raim_model.specs.declared.almanac.AlmRecord.{AlmRecord}
use Rattle.geom_laws.specs.Rows.{RowEnds}
use Rattle.slope_laws.specs.Rows.{NamedRow}

-- what is seen of one satellite: it is visible throughout, and in what row; or hidden throughout; or neither is known
pub data Sight : Type 0 where
  Visible : RowEnds → Sight
  Hidden : Sight
  Straddles : Sight

-- a satellite's number, and what is seen of it
pub record Sighted : Type 0 where
  pub prn : ℕ
  pub sight : Sight

-- what is seen of each record's satellite
abbrev pub sighted_over : (AlmRecord → Sight) → List AlmRecord → List Sighted
sighted_over sight recs = map (λ rec. record { prn = rec.prn; sight = sight rec }) recs

-- 1 for a satellite that may be visible, also where that is not known
abbrev pub one_if_possible : Sight → ℕ
one_if_possible Hidden = 0
one_if_possible sight = 1

-- how many satellites may be visible
abbrev pub count_possible : List Sighted → ℕ
count_possible [] = 0
count_possible (s ∷ ss) = one_if_possible s.sight + count_possible ss

abbrev pub or_straddling : ℕ → Sight → Option ℕ → Option ℕ
or_straddling prn Straddles next = Some prn
or_straddling prn sight next = next

-- the first satellite of which it is not known whether it is visible
abbrev pub first_straddling : List Sighted → Option ℕ
first_straddling [] = None
first_straddling (s ∷ ss) = or_straddling s.prn s.sight (first_straddling ss)

abbrev pub with_row : ℕ → Sight → List NamedRow → List NamedRow
with_row prn (Visible row) rows = record { prn = prn; ends = row } ∷ rows
with_row prn sight rows = rows

-- the rows of the visible satellites
abbrev pub rows_seen : List Sighted → List NamedRow
rows_seen [] = []
rows_seen (s ∷ ss) = with_row s.prn s.sight (rows_seen ss)
