-- What the tests of the lines so far have made sure of.
use Rattle.std.specs.Prelude.{ℕ, ◌≤◌}
use Rattle.gps_week.specs.GpsTime.{IsInstant}
use Rattle.notice_model.specs.Notices.{IsSatellite, IsWellFormed}
use Rattle.nanu_text.specs.declared.stage.Kind.{Kind}
use Rattle.nanu_text.specs.declared.stage.Kind.TheVariants.{Add, Reschedule, Cancel}
use Rattle.nanu_text.specs.declared.stage.Stage.{Stage}
use Rattle.nanu_text.specs.declared.stage.Stage.TheVariants.{Nothing, Between, Typed, Numbered, Referred, Placed, Started}
use Rattle.nanu_text.specs.declared.stage.Entry.{Entry}
use Rattle.nanu_text.specs.declared.stage.Entry.TheVariants as entry

-- a target is a number of a notice, but for an Add, which has none
abbrev pub IsTarget : Kind → ℕ → Type 0
IsTarget Add target = Unit {0}
IsTarget Reschedule target = 1 ≤ target
IsTarget Cancel target = 1 ≤ target

abbrev pub IsStage : Stage → Type 0
IsStage Nothing = Unit {0}
IsStage Between = Unit {0}
IsStage (Typed kind) = Unit {0}
IsStage (Numbered kind number) = 1 ≤ number
IsStage (Referred kind number target) = (1 ≤ number) × IsTarget kind target
IsStage (Placed kind number target prn) = (1 ≤ number) × IsTarget kind target × IsSatellite prn
IsStage (Started kind number target prn start) = (1 ≤ number) × IsTarget kind target × IsSatellite prn × IsInstant 0 start

abbrev pub Fits : Entry → Type 0
Fits entry.Blank = Unit {0}
Fits (entry.Goes stage) = IsStage stage
Fits (entry.Ends said) = IsWellFormed said
