-- What is known of a piece of a case's flight: its leg and the almanac in force; which satellites are hidden at each of its milliseconds;
-- and, where these are hidden, which slopes of all rows, and which lists without one row, pass over the piece, by the places of the visible
-- satellites.
use Rattle.std.specs.Prelude.{◌≡◌, ℕ, ◌-◌, ℤ, Bool, true, false, List, length, slice_index_or, None}
use Rattle.raim_model.specs.Solution.{Case}
use Rattle.fix_interval.specs.Ends.{Ends}
use Rattle.slope_laws.specs.Rows.{NamedRow}
use Rattle.slope_test.specs.Marks.{SlopesPass, ListsPass}
use Rattle.verdict_laws.specs.Sights.{first_straddling, rows_seen}
use Rattle.verdict_laws.specs.PieceVerdict.{kappa_over}
use Rattle.piece_verdict.specs.declared.alert.Alert.{Alert}
use Rattle.piece_verdict.specs.declared.known.Known.{Known}
use Rattle.piece_verdict.specs.Alerts.{shift_of, limit_of}
use Rattle.piece_verdict.specs.Here.{KnowsHere}
use Rattle.piece_verdict.specs.Hidden.{KnowsHidden, seen_knowing}

-- where anything is marked, each usable satellite is visible or hidden throughout
abbrev pub IsSure : Case → (hidden marks : List Bool) → (first last : ℤ) → Type 0
IsSure c hidden marks first last = (i : ℕ) → slice_index_or marks i false ≡ true → first_straddling (seen_knowing c hidden first last) ≡ None

-- the rows of the visible ones
abbrev pub rows_over : Case → (hidden : List Bool) → (first last : ℤ) → List NamedRow
rows_over c hidden first last = rows_seen (seen_knowing c hidden first last)

-- the factor for n rows
abbrev pub factor_for : Alert → Case → (n : ℕ) → Ends
factor_for alert c n = kappa_over c.limits (limit_of alert c) n

-- the slopes at the marked places pass
pub record KnowsSlopes (alert : Alert) (c : Case) (hidden marks : List Bool) (first last : ℤ) : Type 0 where
  pub sure : IsSure c hidden marks first last
  pub pass : SlopesPass (shift_of alert) (rows_over c hidden first last) (factor_for alert c (length (rows_over c hidden first last))) marks

-- the lists without the row at a marked place pass
pub record KnowsLists (alert : Alert) (c : Case) (hidden marks : List Bool) (first last : ℤ) : Type 0 where
  pub sure : IsSure c hidden marks first last
  pub pass : ListsPass (shift_of alert) (rows_over c hidden first last) (factor_for alert c (length (rows_over c hidden first last) - 1)) marks

pub record Knows (alert : Alert) (c : Case) (known : Known) (first last : ℤ) : Type 0 where
  pub here : KnowsHere c known.here first
  pub hidden : KnowsHidden c known.hidden.places first last
  pub slopes : KnowsSlopes alert c known.hidden.places known.slopes.places first last
  pub lists : KnowsLists alert c known.hidden.places known.lists.places first last
