-- The first satellites whose slopes come out in each way.
use Rattle.std.specs.Prelude.{◌≡◌, ℕ, Bool, if◌then◌else◌, List, Some, None}
use Rattle.std.specs.declared.option.Option.{Option}
use Rattle.slope_laws.specs.declared.Outcome.{Outcome}
use Rattle.slope_laws.specs.Rows.{Removal}
use Rattle.slope_laws.specs.Slopes.{is_fails, is_straddles, is_overflows, first_such}
use Rattle.slope_test.specs.declared.tally.Tally.{Tally}

-- the satellite kept before, and else this one where it is such
abbrev pub kept_first : Option ℕ → Bool → ℕ → Option ℕ
kept_first (Some first) is prn = Some first
kept_first None is prn = if is then Some prn else None

-- the tally is that of the rows xs
pub record IsTally (tally : Tally) (outcome : Removal → Outcome) (xs : List Removal) : Type 0 where
  pub overflows : tally.overflows ≡ first_such is_overflows outcome xs
  pub fails : tally.fails ≡ first_such is_fails outcome xs
  pub straddles : tally.straddles ≡ first_such is_straddles outcome xs
