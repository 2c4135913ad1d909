-- What is promised of the line of a demonstration as such.
use Rattle.std.specs.Prelude.{◌≡◌, ◌+◌, ◌≤ℤ◌, ◌+ℤ◌, ◌-ℤ◌, pos, ℤ, List}
use Rattle.raim_model.specs.Constants.{day_ms}
use Rattle.raim_model.specs.Runs.{HasRuns}
use Rattle.raim_model.specs.declared.verdict.Run.{Run}
use Rattle.raim_model.specs.declared.verdict.Verdict.{Verdict}
use Rattle.demo_texts.specs.Summary.{AreCountable, is_available, is_unavailable, is_undecided, ms_of}

-- the runs of a flight of a day at most can be counted
abbrev pub AreCountableWithinDay : Type 0
AreCountableWithinDay = (w : ℤ → ℤ → Verdict) (first end : ℤ) (runs : List Run) → HasRuns w first end runs → end ≤ℤ (first +ℤ pos day_ms) → AreCountable runs

-- the milliseconds of the three kinds add up to those of the flight
abbrev pub AddUp : Type 0
AddUp = (w : ℤ → ℤ → Verdict) (first end : ℤ) (runs : List Run) → HasRuns w first end runs →
    pos (ms_of is_available runs + ms_of is_unavailable runs + ms_of is_undecided runs) ≡ end -ℤ first
