-- The status of a fleet, from its cause.
use Rattle.std.specs.Option.{MatchOption}
use Rattle.std.proofs.Common.{◌≡◌, ◌≢◌, ◌≤◌, ◌<◌, ◌⊎◌, ◌↔◌, ℕ, ℤ, length, IfSome, refl, sym, ap, ◌∙◌, subst, inl, inr, arith}
use Rattle.std.specs.declared.option.Option.{Option}
use Rattle.std.specs.declared.option.Option.TheVariants.{Some, None}
use Rattle.raim_model.specs.declared.FileNo.{FileNo}
use Rattle.raim_model.specs.declared.FileNo.TheVariants.{Almanac, Route}
use Rattle.raim_model.specs.declared.TextWhy.TheVariants.{FileTooLong, TooMany}
use Rattle.raim_base.specs.MemDeskState.{Each, of_file}
use Rattle.raim_base.specs.Sizes.{longest_file}
use Rattle.text_lines.specs.Lines.{Text}
use Rattle.flight_files.specs.Files.{IsTooLong}
use Rattle.flight_files.specs.Order.{place_of}
use Rattle.flight_files.proofs.FileLemmas.{before_or_after, at_most_last}
use Rattle.fleet_text.specs.Routes.{excess_line}
use Rattle.raim_run.specs.declared.Status.{Status}
use Rattle.raim_run.specs.declared.Status.TheVariants.{Done, Usage, Refused, ReadFault, WriteFault, Overflow, TooManyRuns, Memory}
use Rattle.fleet_run.specs.Causes.{BlocksEnd, FleetCause, ReadingStops}
use Rattle.fleet_run.specs.Files.{IsShort, AreRead, IsLongFirst, IsFaulty}
use Rattle.fleet_run.specs.Settled.{AreTold, AreShort, IsFaultlessUpTo, Settles, Completes}

module _ (holds : Text → Option Text) (paths : Each Text) (before now : FileNo → ℕ) (old new : Option Text) (failed fails : ℕ) where
  abbrev Cause : Status → Type 0
  Cause status = FleetCause holds paths before now old new failed fails status

  -- what stops the reading leaves the output as it was
  pub by_reading : (status : Status) → ReadingStops holds paths before now status → new ≡ old → Cause status
  by_reading (Refused file line why) stops same = stops
  by_reading (ReadFault file) stops same = stops
  by_reading Memory stops same = inl same
  by_reading Done stops same = absurd stops
  by_reading Usage stops same = absurd stops
  by_reading WriteFault stops same = absurd stops
  by_reading (Overflow at prn) stops same = absurd stops
  by_reading TooManyRuns stops same = absurd stops

  -- how the blocks were written
  pub by_blocks : (texts : Each Text) → AreRead holds paths texts → excess_line texts.route ≡ None → (status : Status) → BlocksEnd texts old new failed fails status → Cause status
  by_blocks texts read few Done ends = record { texts = texts; read = read; few = few; is = ends }
  by_blocks texts read few WriteFault ends = record { texts = texts; read = read; few = few; is = ends }
  by_blocks texts read few Memory ends = inr (record { texts = texts; read = read; few = few; is = ends })
  by_blocks texts read few Usage ends = absurd ends
  by_blocks texts read few (Refused file line why) ends = absurd ends
  by_blocks texts read few (ReadFault file) ends = absurd ends
  by_blocks texts read few (Overflow at prn) ends = absurd ends
  by_blocks texts read few TooManyRuns ends = absurd ends

  -- so written, a fleet ends as one of three
  pub ends_so : (texts : Each Text) (status : Status) → BlocksEnd texts old new failed fails status → status ≢ Done → status ≢ WriteFault → status ≢ Memory → ⊥
  ends_so texts Done ends d w m = d refl
  ends_so texts WriteFault ends d w m = w refl
  ends_so texts Memory ends d w m = m refl
  ends_so texts Usage ends d w m = ends
  ends_so texts (Refused file line why) ends d w m = ends
  ends_so texts (ReadFault file) ends d w m = ends
  ends_so texts (Overflow at prn) ends d w m = ends
  ends_so texts TooManyRuns ends d w m = ends

  -- no flight's own end is a cause
  pub is_no_overflow : (status : Status) → Cause status → (at : ℤ) (prn : ℕ) → status ≢ Overflow at prn
  is_no_overflow status cause at prn e = subst Cause e cause

  pub is_not_too_many : (status : Status) → Cause status → status ≢ TooManyRuns
  is_not_too_many status cause e = subst Cause e cause

  module _ (texts : Each Text) (told : AreTold holds paths texts) where
    -- a file is short enough or too long
    short_told : (file : FileNo) → IsShort (holds (of_file paths file)) → length (of_file texts file) ≤ longest_file
    short_told file short = subst IsShort (told file) short

    long_told : (file : FileNo) → IsTooLong (holds (of_file paths file)) → longest_file < length (of_file texts file)
    long_told file long = subst IsTooLong (told file) long

    read_told : (read : Each Text) → AreRead holds paths read → (file : FileNo) → of_file texts file ≡ of_file read file
    read_told read are file = subst (λ (t : Option Text). IfSome t (λ bytes. bytes ≡ of_file read file)) (told file) (are.told file)

    read_short : (read : Each Text) → AreRead holds paths read → (file : FileNo) → length (of_file texts file) ≤ longest_file
    read_short read are file = let same = ap length (read_told read are file) in let short = are.short file in omega arith

    read_route : (read : Each Text) → AreRead holds paths read → excess_line texts.route ≡ excess_line read.route
    read_route read are = ap excess_line (read_told read are Route)

    -- a file that is too long was not read
    not_read : (read : Each Text) → AreRead holds paths read → (file : FileNo) → IsLongFirst holds paths file → ⊥
    not_read read are file is = let short = read_short read are file in let long = long_told file is.long in absurd (omega arith)

    -- nor is there another that is the first
    same_long : (a b : FileNo) → IsLongFirst holds paths a → IsLongFirst holds paths b → a ≡ b
    same_long a b p q = elim (before_or_after a b) [
      | inl same ↦ same
      | inr (inl lt) ↦ (let short = short_told a (q.before a lt) in let long = long_told a p.long in absurd (omega arith))
      | inr (inr lt) ↦ (let short = short_told b (p.before b lt) in let long = long_told b q.long in absurd (omega arith))
    ]

    -- a fault before it, or none at all
    faulty_before : (file faulty : FileNo) → IsLongFirst holds paths file → IsFaulty holds paths before now faulty → place_of faulty ≤ place_of file
    faulty_before file faulty is fault = elim (before_or_after file faulty) [
      | inl same ↦ (let at = ap place_of same in omega arith)
      | inr (inl lt) ↦ (let short = short_told file (fault.before file lt) in let long = long_told file is.long in absurd (omega arith))
      | inr (inr lt) ↦ omega arith
    ]

    by_length : (status : Status) → Cause status → status ≢ Memory → (file : FileNo) → IsLongFirst holds paths file → IsFaultlessUpTo file status → status ≡ Refused file 0 FileTooLong
    by_length Done cause m file is faultless = absurd (not_read cause.texts cause.read file is)
    by_length Usage cause m file is faultless = absurd cause
    by_length (Refused other line why) (inl (zero, long, first)) m file is faultless = let same = same_long other file first is in cc
    by_length (Refused other line why) (inr (route, many, has)) m file is faultless = absurd (not_read has.texts has.read file is)
    by_length (ReadFault faulty) cause m file is faultless = absurd (faultless faulty (faulty_before file faulty is cause) refl)
    by_length WriteFault cause m file is faultless = absurd (not_read cause.texts cause.read file is)
    by_length (Overflow at prn) cause m file is faultless = absurd cause
    by_length TooManyRuns cause m file is faultless = absurd cause
    by_length Memory cause m file is faultless = absurd (m refl)

    -- no file is too long
    none_long : AreShort texts → (file : FileNo) → IsLongFirst holds paths file → ⊥
    none_long short file is = let long = long_told file is.long in let few = short file in absurd (omega arith)

    by_excess : (status : Status) → Cause status → status ≢ Memory → (line : ℕ) → AreShort texts → excess_line texts.route ≡ Some line → IsFaultlessUpTo Almanac status → status ≡ Refused Route line TooMany
    by_excess Done cause m line short excess faultless = absurd (let none = sym excess ∙ read_route cause.texts cause.read ∙ cause.few in cc)
    by_excess Usage cause m line short excess faultless = absurd cause
    by_excess (Refused other number why) (inl (zero, long, first)) m line short excess faultless = absurd (none_long short other first)
    by_excess (Refused other number why) (inr (route, many, has)) m line short excess faultless = let same = sym has.excess ∙ sym (read_route has.texts has.read) ∙ excess in cc
    by_excess (ReadFault faulty) cause m line short excess faultless = absurd (faultless faulty (at_most_last faulty) refl)
    by_excess WriteFault cause m line short excess faultless = absurd (let none = sym excess ∙ read_route cause.texts cause.read ∙ cause.few in cc)
    by_excess (Overflow at prn) cause m line short excess faultless = absurd cause
    by_excess TooManyRuns cause m line short excess faultless = absurd cause
    by_excess Memory cause m line short excess faultless = absurd (m refl)

    by_texts : (status : Status) → Cause status → status ≢ Memory → AreShort texts → excess_line texts.route ≡ None → IsFaultlessUpTo Almanac status → (status ≡ Done) ⊎ (status ≡ WriteFault)
    by_texts Done cause m short few faultless = inl refl
    by_texts Usage cause m short few faultless = absurd cause
    by_texts (Refused other number why) (inl (zero, long, first)) m short few faultless = absurd (none_long short other first)
    by_texts (Refused other number why) (inr (route, many, has)) m short few faultless = absurd (let some = sym few ∙ read_route has.texts has.read ∙ has.excess in cc)
    by_texts (ReadFault faulty) cause m short few faultless = absurd (faultless faulty (at_most_last faulty) refl)
    by_texts WriteFault cause m short few faultless = inr refl
    by_texts (Overflow at prn) cause m short few faultless = absurd cause
    by_texts TooManyRuns cause m short few faultless = absurd cause
    by_texts Memory cause m short few faultless = absurd (m refl)

  pub settled_by : (status : Status) → Cause status → Settles holds paths status
  settled_by status cause texts told m = record {
    too_long = by_length texts told status cause m;
    too_many = by_excess texts told status cause m;
    answered = by_texts texts told status cause m;
  }

  pub completed_by : (status : Status) → Cause status → Completes holds paths before now failed fails status
  completed_by Done cause texts told short few quiet whole = inl refl
  completed_by Usage cause texts told short few quiet whole = absurd cause
  completed_by (Refused other number why) (inl (zero, long, first)) texts told short few quiet whole = absurd (none_long texts told short other first)
  completed_by (Refused other number why) (inr (route, many, has)) texts told short few quiet whole = absurd (let some = sym few ∙ read_route texts told has.texts has.read ∙ has.excess in cc)
  completed_by (ReadFault faulty) cause texts told short few quiet whole = absurd (quiet faulty cause.rose)
  completed_by WriteFault cause texts told short few quiet whole = absurd (whole cause.is.3)
  completed_by (Overflow at prn) cause texts told short few quiet whole = absurd cause
  completed_by TooManyRuns cause texts told short few quiet whole = absurd cause
  completed_by Memory cause texts told short few quiet whole = inr refl

-- where the words name no paths the status is Usage, and only there
module _ (paths : Option (Each Text)) (Cause : Each Text → Status → Type 0) (no_usage : (ps : Each Text) (status : Status) → Cause ps status → status ≢ Usage) where
  pub usage_exactly : (status : Status) → MatchOption paths (status ≡ Usage) (λ ps. Cause ps status) → (status ≡ Usage) ↔ (paths ≡ None)
  usage_exactly status cause = go paths cause
    where
      go : (o : Option (Each Text)) → MatchOption o (status ≡ Usage) (λ ps. Cause ps status) → (status ≡ Usage) ↔ (o ≡ None)
      go None usage = (λ e. refl, λ e. usage)
      go (Some ps) cause = (λ e. absurd (no_usage ps status cause e), λ e. cc)
