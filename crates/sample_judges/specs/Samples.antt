-- Verdicts for judges in memory.
use Rattle.std.specs.Prelude.{◌==◌, ◌%◌, ℤ, int_lt, unsigned_abs, Bool, if◌then◌else◌, ◌||◌}
use Rattle.raim_model.specs.declared.Cmp.TheVariants.{Det}
use Rattle.raim_model.specs.declared.Why.TheVariants.{Few, Slope}
use Rattle.raim_model.specs.declared.Verdict.{Verdict}
use Rattle.raim_model.specs.declared.Verdict.TheVariants.{Available, Unavailable, Undecided, Overflow}

-- open where the piece holds the millisecond at, and otherwise available
abbrev pub island : ℤ → Bool → ℤ → ℤ → Verdict
island at overflows first last =
    if int_lt last at || int_lt at first then Available else (if overflows then Overflow 7 else Undecided Det)

-- one reason at even milliseconds and another at odd ones, up to the millisecond over; longer pieces are undecided
abbrev pub alternating : ℤ → ℤ → ℤ → Verdict
alternating over first last =
    if int_lt first last then Undecided Det else (if int_lt first over then (if unsigned_abs first % 2 == 0 then Unavailable Few else Unavailable Slope) else Overflow 7)
