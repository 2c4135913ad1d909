-- The file of a report, and the calls that read it.
use Rattle.std.specs.Prelude.{◌≡◌, ◌<◌, ◌⊎◌, ℕ, List, length, IfSome, Result, Ok, Err}
use Rattle.std.specs.declared.option.Option.{Option}
use Rattle.raim_model.specs.declared.FileNo.TheVariants.{Route}
use Rattle.raim_model.specs.declared.TextWhy.TheVariants.{FileTooLong}
use Rattle.raim_base.specs.Calls.{Call, ReadsToEnd, ReadsAFront, FailsLast}
use Rattle.raim_base.specs.Causes.{Rose}
use Rattle.text_lines.specs.Lines.{Text}
use Rattle.chart_run.specs.declared.status.ChartStatus.{ChartStatus}
use Rattle.chart_run.specs.declared.status.ChartStatus.TheVariants.{Done, Usage, Refused, ReadFault, WriteFault, Memory}

-- the most bytes of a file: eight mebibytes
abbrev pub longest_report : ℕ
longest_report = 8388608

-- a file has more; of bytes that are not told nothing is said
abbrev pub IsTooLong : Option Text → Type 0
IsTooLong told = IfSome told (λ bytes. longest_report < length bytes)

-- why the file was not read: what its path holds where it is told, and the count of its faults before and now
abbrev pub FileStops : Option Text → (before now : ℕ) → ChartStatus → Type 0
FileStops told before now (Refused line why) = (line ≡ 0) × (why ≡ FileTooLong) × IsTooLong told
FileStops told before now ReadFault = Rose before now
FileStops told before now Memory = Unit {0}
FileStops told before now status = ⊥

-- the file was named to the path once, and read to its end or up to some byte
abbrev pub IsRead : Text → List Call → Type 0
IsRead path made = ReadsToEnd Route path made ⊎ ReadsAFront Route path made

-- the calls by which a run came to its status: the last of them failed where that is a read fault, and no other
abbrev pub MakesReads : Text → ChartStatus → List Call → Type 0
MakesReads path ReadFault made = FailsLast Route path made
MakesReads path Done made = ReadsToEnd Route path made
MakesReads path WriteFault made = ReadsToEnd Route path made
MakesReads path (Refused line why) made = IsRead path made
MakesReads path Memory made = IsRead path made
MakesReads path Usage made = ⊥

-- those by which the file was read or was not
abbrev pub IsReadAs : {A : Type 0} → Text → Result A ChartStatus → List Call → Type 0
IsReadAs path (Ok bytes) made = ReadsToEnd Route path made
IsReadAs path (Err status) made = MakesReads path status made
