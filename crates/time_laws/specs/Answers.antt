-- What a range of milliseconds can have.
use Rattle.std.specs.Prelude.{ℕ, ℤ, ◌⊎◌, List}
use Rattle.raim_model.specs.declared.Run.{Run}
use Rattle.raim_model.specs.declared.Verdict.{Verdict}
use Rattle.raim_model.specs.Runs.{HasRuns, HasTooManyRuns, OverflowsFirst}

-- its runs, or too many of them, or a first millisecond that overflows
abbrev pub HasAnswer : (ℤ → ℤ → Verdict) → ℤ → ℤ → Type 0
HasAnswer w first end =
    ((runs : List Run) × HasRuns w first end runs) ⊎ (HasTooManyRuns w first end ⊎ ((at : ℤ) × (prn : ℕ) × OverflowsFirst w first end at prn))
