-- What a notice says by itself.
use Rattle.std.specs.Prelude.{ℕ, ◌≤◌, ℤ, pos, ◌≤ℤ◌, ◌<ℤ◌, Option, Some, None, IfSome}
use Rattle.notice_model.specs.declared.notice.Notice.{Notice}
use Rattle.notice_model.specs.declared.notice.Notice.TheVariants.{Add, Reschedule, Cancel}

abbrev pub number_in : Notice → ℕ
number_in (Add number prn start end) = number
number_in (Reschedule number target start end) = number
number_in (Cancel number target) = number

-- the number of the earlier notice that this one is about
abbrev pub target_in : Notice → Option ℕ
target_in (Add number prn start end) = None
target_in (Reschedule number target start end) = Some target
target_in (Cancel number target) = Some target

-- the first millisecond after the year 9999, in UTC since the GPS epoch
abbrev pub end_of_utc : ℤ
end_of_utc = pos 253086336000000

-- a time of UTC from the GPS epoch to the end of the year 9999, in milliseconds since the epoch
abbrev pub IsUtc : ℤ → Type 0
IsUtc ms = (pos 0 ≤ℤ ms) × (ms <ℤ end_of_utc)

-- an end, where there is one, is after the start
pub record IsSpan (start : ℤ) (end : Option ℤ) : Type 0 where
  pub starts : IsUtc start
  pub ends : IfSome end (λ e. (start <ℤ e) × IsUtc e)

abbrev pub IsSatellite : ℕ → Type 0
IsSatellite prn = (1 ≤ prn) × (prn ≤ 32)

abbrev pub IsWellFormed : Notice → Type 0
IsWellFormed (Add number prn start end) = (1 ≤ number) × IsSatellite prn × IsSpan start end
IsWellFormed (Reschedule number target start end) = (1 ≤ number) × (1 ≤ target) × IsSpan start end
IsWellFormed (Cancel number target) = (1 ≤ number) × (1 ≤ target)
