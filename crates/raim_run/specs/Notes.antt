-- The line that each status but Done writes to the note.
use Rattle.std.specs.Prelude.{◌≡◌, ℕ, ℤ, [], ◌∷◌, ◌++◌, codes}
use Rattle.std.specs.declared.option.Option.{Option}
use Rattle.std.specs.declared.option.Option.TheVariants.{Some, None}
use Rattle.std.specs.Io.KnownBytes.{Appends}
use Rattle.raim_model.specs.declared.FileNo.{FileNo}
use Rattle.raim_model.specs.declared.TextWhy.{TextWhy}
use Rattle.raim_model.specs.Solution.{Case}
use Rattle.raim_base.specs.CauseWords.{file_name, refusal_line}
use Rattle.raim_base.specs.Causes.{GrowsByFront}
use Rattle.text_lines.specs.Lines.{Text}
use Rattle.gps_week.specs.GpsTime.{SpellsInstant}
use Rattle.report_text.specs.Report.{prn_text}
use Rattle.command_words.specs.declared.Program.{Program}
use Rattle.command_words.specs.declared.Program.TheVariants.{Raim, RaimVert}
use Rattle.command_words.specs.Asked.{Asked}
use Rattle.raim_run.specs.declared.status.Status.{Status}
use Rattle.raim_run.specs.declared.status.Status.TheVariants.{Done, Usage, Refused, ReadFault, WriteFault, Overflow, TooManyRuns, Memory}
use Rattle.raim_run.specs.Cases.{IsCaseOf}

abbrev pub refusal_text : FileNo → ℕ → TextWhy → Text
refusal_text file line why = codes "raim: " ++ refusal_line file line why

abbrev pub read_fault_text : FileNo → Text
read_fault_text file = codes "raim: " ++ file_name file ++ codes ": read fault" ++ 10 ∷ []

-- the line that says how a program is called
abbrev pub usage_of : Program → Text
usage_of Raim = codes "raim: usage: raim predict LIMITS ALMANAC OUTAGES ROUTE or raim demo NUMBER" ++ 10 ∷ []
usage_of RaimVert = codes "raim: usage: raim_vert LIMITS ALMANAC OUTAGES ROUTE VERTICAL" ++ 10 ∷ []

-- the line that a status of a program writes, with its line feed; that of an overflow has a time, and is below
abbrev pub note_of : Program → Status → Text
note_of program Done = []
note_of program Usage = usage_of program
note_of program (Refused file line why) = refusal_text file line why
note_of program (ReadFault file) = read_fault_text file
note_of program WriteFault = codes "raim: write fault" ++ 10 ∷ []
note_of program (Overflow at prn) = []
note_of program TooManyRuns = codes "raim: more than 65536 intervals" ++ 10 ∷ []
note_of program Memory = codes "raim: out of memory" ++ 10 ∷ []

-- the line of an overflow, whose time is of UTC, which GPS time is ahead of by `leap` seconds
pub record IsOverflowNote (leap : ℕ) (at : ℤ) (prn : ℕ) (note : Text) : Type 0 where
  pub time : Text
  pub spells : SpellsInstant time leap at
  pub spelled : note ≡ codes "raim: overflow at " ++ time ++ codes " PRN " ++ prn_text prn ++ 10 ∷ []

-- the line that a status writes to the note, under these leap seconds
abbrev pub IsNoteUnder : Program → (leap : ℕ) → Status → Text → Type 0
IsNoteUnder program leap (Overflow at prn) note = IsOverflowNote leap at prn note
IsNoteUnder program leap status note = note ≡ note_of program status

-- The line that a status writes to the note; the leap seconds are those of the limits.
abbrev pub IsNote : Program → Asked → (Text → Option Text) → Status → Text → Type 0
IsNote program asked holds (Overflow at prn) note = (c : Case) × IsCaseOf asked holds c × IsOverflowNote c.limits.leap at prn note
IsNote program asked holds status note = note ≡ note_of program status

-- where nothing is asked
abbrev pub IsNoteOf : Program → Option Asked → (Text → Option Text) → Status → Text → Type 0
IsNoteOf program None holds status note = note ≡ note_of program status
IsNoteOf program (Some asked) holds status note = IsNote program asked holds status note

-- the note grew by a front of its line
abbrev pub IsNoted : Program → Option Asked → (Text → Option Text) → Status → (old new : Option Text) → Type 0
IsNoted program asked holds status old new = (note : Text) × IsNoteOf program asked holds status note × GrowsByFront old new note

-- or by all of it
abbrev pub IsNotedWhole : Program → Option Asked → (Text → Option Text) → Status → (old new : Option Text) → Type 0
IsNotedWhole program asked holds status old new = (note : Text) × IsNoteOf program asked holds status note × Appends old new note
