-- What is seen of some satellites, as the program keeps it.
use Rattle.std.specs.Prelude.{◌≡◌, ℕ, List, Some, None}
use Rattle.std.specs.declared.option.Option.{Option}
use Rattle.slope_test.specs.Named.{named}
use Rattle.verdict_laws.specs.Sights.{Sighted, count_possible, first_straddling, rows_seen}
use Rattle.piece_verdict.specs.declared.found.Found.{Found}
use Rattle.piece_verdict.specs.declared.found.Found.TheVariants as found
use Rattle.piece_verdict.specs.declared.looks.Looks.{Looks}
use Rattle.piece_verdict.specs.declared.looks.Looks.TheVariants as looks
use Rattle.piece_verdict.specs.declared.seen.Seen.{Seen}

-- the satellite kept before, and else this one
abbrev pub first_kept : Option ℕ → ℕ → Option ℕ
first_kept (Some first) prn = Some first
first_kept None prn = Some prn

-- it is what is seen of these
pub record IsSeen (kept : Seen) (seen : List Sighted) : Type 0 where
  pub rows : named kept.rows.items ≡ rows_seen seen
  pub possible : kept.possible ≡ count_possible seen
  pub straddling : kept.straddling ≡ first_straddling seen

-- what is found, with the rows that are kept
abbrev pub looks_with : Found → Seen → Looks
looks_with found.Few kept = looks.Few
looks_with (found.Straddle prn) kept = looks.Straddle prn
looks_with found.Rows kept = looks.Rows kept.rows
