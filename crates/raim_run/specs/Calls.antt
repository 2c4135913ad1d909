-- The calls that a run makes on the desk, by its status.
use Rattle.std.specs.Prelude.{◌≡◌, ◌⊎◌, List, [], Option, Some, None, Result, Ok, Err}
use Rattle.raim_model.specs.declared.FileNo.TheVariants.{Almanac}
use Rattle.raim_model.specs.declared.TextWhy.TheVariants.{FileTooLong}
use Rattle.raim_base.specs.Calls.{Call, ReadsToEnd}
use Rattle.raim_base.specs.MemDeskState.{Each}
use Rattle.text_lines.specs.Lines.{Text}
use Rattle.flight_files.specs.Calls.{ReadsUpTo, StopCalls, FilesCalls}
use Rattle.flight_files.specs.declared.FlightFiles.{FlightFiles}
use Rattle.flight_files.specs.declared.Stop.{Stop}
use Rattle.flight_files.specs.declared.Stop.TheVariants as stop
use Rattle.command_words.specs.Asked.{Asked}
use Rattle.command_words.specs.Asked.Asked.{Prediction, Demonstration, PredictionUp}
use Rattle.raim_run.specs.declared.ending.Ending.{Ending}
use Rattle.raim_run.specs.declared.status.Status.{Status}
use Rattle.raim_run.specs.declared.status.Status.TheVariants.{Done, Usage, Refused, ReadFault, WriteFault, Overflow, TooManyRuns, Memory}

-- all four files were named once, each under its own path, and read to its end before the next
abbrev pub AreAllRead : Each Text → List Call → Type 0
AreAllRead paths made = ReadsUpTo paths Almanac ReadsToEnd made

-- Of a prediction from the files under these paths: those up to the one that stops the reading are named once, in their order, and read
-- to their end, but the last up to some byte where it is too long or there is no memory. Where a call fails it is the last.
abbrev pub PredictionCalls : Each Text → Status → List Call → Type 0
PredictionCalls paths Done made = AreAllRead paths made
PredictionCalls paths Usage made = ⊥
PredictionCalls paths (Refused file line why) made = StopCalls paths (stop.Refused file line why) made ⊎ ((why ≡ FileTooLong) × StopCalls paths (stop.TooLong file) made)
PredictionCalls paths (ReadFault file) made = StopCalls paths (stop.Fault file) made
PredictionCalls paths WriteFault made = AreAllRead paths made
PredictionCalls paths (Overflow at prn) made = AreAllRead paths made
PredictionCalls paths TooManyRuns made = AreAllRead paths made
PredictionCalls paths Memory made = AreAllRead paths made ⊎ StopCalls paths stop.Memory made

-- Of reading the files of what is asked: a demonstration makes none.
abbrev pub FilesOfCalls : Asked → Result FlightFiles Stop → List Call → Type 0
FilesOfCalls (Prediction paths) result made = FilesCalls paths result made
FilesOfCalls (Demonstration number) result made = made ≡ []
FilesOfCalls (PredictionUp paths vertical_mm) result made = FilesCalls paths result made

-- Of what is asked, by the status.
abbrev pub AskedCalls : Asked → Status → List Call → Type 0
AskedCalls (Prediction paths) status made = PredictionCalls paths status made
AskedCalls (Demonstration number) status made = made ≡ []
AskedCalls (PredictionUp paths vertical_mm) status made = PredictionCalls paths status made

-- Of finding the runs of what is asked.
abbrev pub RunsCalls : {A : Type 0} → Asked → Result A Ending → List Call → Type 0
RunsCalls asked (Ok runs) made = AskedCalls asked Done made
RunsCalls asked (Err ending) made = AskedCalls asked ending.status made

-- Of a run: where nothing is asked there is no call.
abbrev pub RunCalls : Option Asked → Status → List Call → Type 0
RunCalls None status made = made ≡ []
RunCalls (Some asked) status made = AskedCalls asked status made
