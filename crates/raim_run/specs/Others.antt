-- What a run leaves alone on the desk.
use Rattle.std.specs.Prelude.{◌≡◌, ◌<◌, ℕ, List, Option, Some, None, Result, Ok, Err, IfErr}
use Rattle.raim_model.specs.declared.FileNo.{FileNo}
use Rattle.flight_files.specs.declared.FlightFiles.{FlightFiles}
use Rattle.flight_files.specs.declared.Stop.{Stop}
use Rattle.flight_files.specs.Order.{place_of, Names}
use Rattle.command_words.specs.Asked.{Asked}
use Rattle.command_words.specs.Asked.Asked.{Prediction, Demonstration, PredictionUp}
use Rattle.raim_run.specs.declared.ending.Ending.{Ending}
use Rattle.raim_run.specs.declared.status.Status.{Status}
use Rattle.raim_run.specs.declared.status.Status.TheVariants.{Done, Refused, ReadFault}

-- the bytes left and the counts of the files, before and after
module _ (left left' : FileNo → Option (List ℕ)) (faults faults' : FileNo → ℕ) where
  abbrev pub IsUntouched : FileNo → Type 0
  IsUntouched file = (left' file ≡ left file) × (faults' file ≡ faults file)

  -- the files that are read after this one are left alone
  abbrev pub IsLast : FileNo → Type 0
  IsLast file = (other : FileNo) → place_of file < place_of other → IsUntouched other

  -- where reading stopped at a file it is the last that was touched; a demonstration touches none
  abbrev pub StopsAtLast : Asked → Result FlightFiles Stop → Type 0
  StopsAtLast (Prediction paths) result = IfErr result (λ stop. (file : FileNo) → Names stop file → IsLast file)
  StopsAtLast (Demonstration number) result = (file : FileNo) → IsUntouched file
  StopsAtLast (PredictionUp paths vertical_mm) result = IfErr result (λ stop. (file : FileNo) → Names stop file → IsLast file)

  -- a file that was refused, or a call on which failed, is the last that was touched
  abbrev pub EndsAtLast : Status → Type 0
  EndsAtLast (Refused file line why) = IsLast file
  EndsAtLast (ReadFault file) = IsLast file
  EndsAtLast status = Unit {0}

  -- a demonstration touches no file, and no file is touched where nothing is asked
  abbrev pub AskedOthers : Asked → Status → Type 0
  AskedOthers (Prediction paths) status = EndsAtLast status
  AskedOthers (Demonstration number) status = (file : FileNo) → IsUntouched file
  AskedOthers (PredictionUp paths vertical_mm) status = EndsAtLast status

  -- and so where runs are found, or the ending says why not
  abbrev pub RunsOthers : {A : Type 0} → Asked → Result A Ending → Type 0
  RunsOthers asked (Ok runs) = AskedOthers asked Done
  RunsOthers asked (Err ending) = AskedOthers asked ending.status

  abbrev pub RunOthers : Option Asked → Status → Type 0
  RunOthers None status = (file : FileNo) → IsUntouched file
  RunOthers (Some asked) status = AskedOthers asked status
