-- The line that a demonstration prints.
use Rattle.std.specs.Prelude.{◌≤◌, ◌≤ℤ◌, ◌+ℤ◌, ◌-ℤ◌, pos, unsigned_abs, ℕ, Bool, true, false, List, ◌++◌, codes, decimal, length, All, if◌then◌else◌}
use Rattle.std.specs.List.{sum_by}
use Rattle.raim_model.specs.Constants.{day_ms}
use Rattle.raim_model.specs.Runs.{most_runs}
use Rattle.raim_model.specs.declared.verdict.Run.{Run}
use Rattle.raim_model.specs.declared.verdict.Verdict.{Verdict}
use Rattle.raim_model.specs.declared.verdict.Verdict.TheVariants.{Available, Unavailable, Undecided, Overflow}
use Rattle.text_lines.specs.Lines.{Text}
use Rattle.demo_texts.specs.Demo.{line}

abbrev pub is_available : Verdict → Bool
is_available Available = true
is_available (Unavailable why) = false
is_available (Undecided cmp) = false
is_available (Overflow prn) = false

-- for whatever reason
abbrev pub is_unavailable : Verdict → Bool
is_unavailable Available = false
is_unavailable (Unavailable why) = true
is_unavailable (Undecided cmp) = false
is_unavailable (Overflow prn) = false

-- for whatever comparison
abbrev pub is_undecided : Verdict → Bool
is_undecided Available = false
is_undecided (Unavailable why) = false
is_undecided (Undecided cmp) = true
is_undecided (Overflow prn) = false

-- how many milliseconds a run has
abbrev pub ms_of_run : Run → ℕ
ms_of_run run = unsigned_abs (run.end -ℤ run.first)

-- how many milliseconds a run adds to those of a kind of verdict
abbrev pub ms_added : (Verdict → Bool) → Run → ℕ
ms_added is_kind run = if is_kind run.verdict then ms_of_run run else 0

-- how many milliseconds of the runs have a kind of verdict
abbrev pub ms_of : (Verdict → Bool) → List Run → ℕ
ms_of is_kind runs = sum_by (ms_added is_kind) runs

-- The line of a demonstration: its number, its satellites, the count of its runs, and how many milliseconds
-- are available, unavailable and undecided.
abbrev pub summary_line : ℕ → ℕ → ℕ → ℕ → ℕ → Text
summary_line number intervals available unavailable undecided =
    line (
    codes "demo " ++ decimal number ++ codes " satellites 24 intervals " ++ decimal intervals ++ codes " available " ++ decimal available
    ++ codes " unavailable " ++ decimal unavailable ++ codes " undecided " ++ decimal undecided
    )

-- the line of a demonstration that found these runs
abbrev pub summary_text : ℕ → List Run → Text
summary_text number runs = summary_line number (length runs) (ms_of is_available runs) (ms_of is_unavailable runs) (ms_of is_undecided runs)

-- A run of at most a day, whose end is not before its start.
pub record IsWithinDay (run : Run) : Type 0 where
  pub forward : run.first ≤ℤ run.end
  pub short : run.end ≤ℤ (run.first +ℤ pos day_ms)

-- Runs of one flight: no more of them, and none longer, than a flight may have.
pub record AreCountable (runs : List Run) : Type 0 where
  pub few : length runs ≤ most_runs
  pub short : All IsWithinDay runs
