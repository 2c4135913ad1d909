-- The files of what is asked.
use Rattle.std.proofs.Common.{◌≡◌, ◌<◌, ℕ, List, Ok, Err, Result, IfOk, IfErr, refl, subst, inl, inr, arith}
use Rattle.std.specs.declared.option.Option.{Option}
use Rattle.std.specs.declared.option.Option.TheVariants.{Some}
use Rattle.raim_model.specs.declared.FileNo.{FileNo}
use Rattle.raim_model.specs.declared.TextWhy.{TextWhy}
use Rattle.raim_model.specs.AlmanacRanges.{AreAlmanacs}
use Rattle.raim_model.specs.Ranges.{IsLimits, AreOutages, IsRoute}
use Rattle.raim_model.specs.Route.{flight_of}
use Rattle.raim_base.specs.Causes.{Rose}
use Rattle.raim_base.specs.MemDeskState.{Each, text_of}
use Rattle.raim_base.specs.Paths.{file_named}
use Rattle.text_lines.specs.Lines.{Text}
use Rattle.flight_files.specs.declared.FlightFiles.{FlightFiles}
use Rattle.flight_files.specs.declared.Stop.{Stop}
use Rattle.flight_files.specs.declared.Stop.TheVariants as stop
use Rattle.flight_files.specs.Files.{AreAcceptedFiles, IsRefusedFirst, IsTooLongFirst}
use Rattle.flight_files.specs.Order.{place_of, Names}
use Rattle.flight_files.specs.Stops.{IsFaultyFirst}
use Rattle.flight_forecast.specs.Words.{case_of}
use Rattle.demo_texts.specs.Demo.{demo_limits, demo_almanac, demo_outages, demo_route}
use Rattle.command_words.specs.Asked.{Asked}
use Rattle.command_words.specs.Asked.Asked.{Demonstration}
use Rattle.raim_run.specs.Cases.{IsCaseOf}
use Rattle.raim_run.specs.Others.{IsLast}
use Rattle.raim_run.specs.Sources.{demo_texts, demo_names, paths_of, told_of}
use Rattle.raim_run.specs.Stopped.{StopOf, IsFaulty, IsFromFiles}

-- what stopped the reading, from what is said of each stop
module _ (asked : Asked) (holds : Text → Option Text) (before now : FileNo → ℕ) where
  pub stopped : (result : Result FlightFiles Stop)
      → ((file : FileNo) (line : ℕ) (why : TextWhy) → result ≡ Err (stop.Refused file line why) → IsRefusedFirst (told_of asked holds) (paths_of asked) file line why)
      → ((file : FileNo) → result ≡ Err (stop.TooLong file) → IsTooLongFirst (told_of asked holds) (paths_of asked) file)
      → ((file : FileNo) → result ≡ Err (stop.Fault file) → IsFromFiles asked × IsFaulty asked holds before now file)
      → IfErr result (StopOf asked holds before now)
  stopped (Ok files) refused long fault = tt
  stopped (Err stop.Memory) refused long fault = tt
  stopped (Err (stop.Fault file)) refused long fault = fault file refl
  stopped (Err (stop.TooLong file)) refused long fault = inr (refl, refl, long file refl)
  stopped (Err (stop.Refused file line why)) refused long fault = inl (refused file line why refl)

-- texts in memory, under their names
abbrev pub held : Each Text → Text → Option Text
held texts path = Some (text_of texts (file_named path))

module _ (number : ℕ) (texts : Each Text) (same : texts ≡ demo_texts number) (holds : Text → Option Text) where
  pub demo_case : (result : Result FlightFiles Stop)
      → IfOk result (λ files. AreAcceptedFiles (held texts) demo_names files.limits files.route files.outages.items files.almanacs.items)
      → IfOk result (λ files. IsLimits files.limits × IsRoute files.route × AreOutages files.outages.items × AreAlmanacs (flight_of files.route) files.almanacs.items)
      → IfOk result (λ files. IsCaseOf (Demonstration number) holds (case_of files.limits files.almanacs.items files.outages.items files.route))
  demo_case (Ok files) ok ranges = record {
    accepted = subst (λ (ts : Each Text). AreAcceptedFiles (held ts) demo_names files.limits files.route files.outages.items files.almanacs.items) same ok;
    ranges = record { limits = ranges.0; almanacs = ranges.3; outages = ranges.2; route = ranges.1 };
  }
  demo_case (Err halt) ok ranges = tt

  pub demo_stopped : (before now : FileNo → ℕ) (result : Result FlightFiles Stop)
      → ((file : FileNo) (line : ℕ) (why : TextWhy) → result ≡ Err (stop.Refused file line why) → IsRefusedFirst (held texts) demo_names file line why)
      → ((file : FileNo) → result ≡ Err (stop.TooLong file) → IsTooLongFirst (held texts) demo_names file)
      → ((file : FileNo) → result ≡ Err (stop.Fault file) → IsFaultyFirst (held texts) demo_names (λ f. 0) (λ f. 0) file)
      → IfErr result (StopOf (Demonstration number) holds before now)
  demo_stopped before now result refused long fault = stopped (Demonstration number) holds before now result
      (λ file line why e. subst (λ (ts : Each Text). IsRefusedFirst (held ts) demo_names file line why) same (refused file line why e))
      (λ file e. subst (λ (ts : Each Text). IsTooLongFirst (held ts) demo_names file) same (long file e))
      (λ file e. absurd (none_rose (fault file e).rose))
    where
      none_rose : Rose 0 0 → ⊥
      none_rose rose = omega (arith, rose)

-- the four texts of a demonstration
pub same_texts : (number : ℕ) (texts : Each Text) → texts.limits ≡ demo_limits → texts.almanac ≡ demo_almanac number → texts.outages ≡ demo_outages → texts.route ≡ demo_route → texts ≡ demo_texts number
same_texts number texts p q r s = λ i. record { limits = p i; almanac = q i; outages = r i; route = s i }

-- of a prediction, the file that stopped the reading is the last that was touched
pub last : (left left' : FileNo → Option (List ℕ)) (faults faults' : FileNo → ℕ) (result : Result FlightFiles Stop)
    → IfErr result (λ halt. (file other : FileNo) → Names halt file → place_of file < place_of other → (left' other ≡ left other) × (faults' other ≡ faults other))
    → IfErr result (λ halt. (file : FileNo) → Names halt file → IsLast left left' faults faults' file)
last left left' faults faults' (Ok files) h = tt
last left left' faults faults' (Err halt) h = λ file names other lt. h file other names lt
