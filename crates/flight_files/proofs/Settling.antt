-- The bytes settle the answer of reading four files.
use Rattle.std.proofs.Common.{◌≡◌, ◌≢◌, ◌⊎◌, ◌<◌, ◌≤◌, ℕ, List, Option, Result, Ok, Err, IfOk, IfErr, refl, sym, inl, inr, subst, arith}
use Rattle.std.specs.Prelude.{IsOkAnd}
use Rattle.raim_model.specs.declared.AlmRecord.{AlmRecord}
use Rattle.raim_model.specs.declared.FileNo.{FileNo}
use Rattle.raim_model.specs.declared.FileNo.TheVariants.{Almanac}
use Rattle.raim_model.specs.declared.Limits.{Limits}
use Rattle.raim_model.specs.declared.Outage.{Outage}
use Rattle.raim_model.specs.declared.TextWhy.{TextWhy}
use Rattle.raim_model.specs.declared.Waypoint.{Waypoint}
use Rattle.raim_model.specs.Ranges.{IsLimits, AreOutages, IsRoute}
use Rattle.raim_model.specs.AlmanacRanges.{AreAlmanacs}
use Rattle.raim_model.specs.Route.{flight_of}
use Rattle.raim_base.specs.MemDeskState.{Each}
use Rattle.text_lines.specs.Lines.{Text}
use Rattle.flight_files.specs.declared.stop.Stop.{Stop}
use Rattle.flight_files.specs.declared.stop.Stop.TheVariants.{Memory, Fault, TooLong, Refused}
use Rattle.flight_files.specs.declared.files.FlightFiles.{FlightFiles}
use Rattle.flight_files.specs.Order.{place_of}
use Rattle.flight_files.specs.Files.{AreAcceptedFiles, IsRefusedFirst, IsTooLongFirst}
use Rattle.flight_files.specs.Stops.{StopCause}
use Rattle.flight_files.specs.Settled.{IsFaultlessUpTo, AreTold, AreTheFiles, Settles, Completes}
use Rattle.flight_files.proofs.FileLemmas.{before_or_after, at_most_last}
use Rattle.flight_files.proofs.OneReading.{files_once}
use Rattle.flight_files.proofs.Clashes.{Hinders, refused_hinders, long_hinders, not_beyond, none_hinders, refused_once_first, refused_or_long}

pub limits_ranged : (result : Result FlightFiles Stop)
    → IfOk result (λ files. IsLimits files.limits × IsRoute files.route × AreOutages files.outages.items × AreAlmanacs (flight_of files.route) files.almanacs.items)
    → IfOk result (λ files. IsLimits files.limits)
limits_ranged (Ok files) ranges = ranges.0
limits_ranged (Err stop) ranges = tt

module _ (holds : Text → Option Text) (paths : Each Text) (before now : FileNo → ℕ) where
  -- the files that an answer gives are accepted
  abbrev AreFiles : FlightFiles → Type 0
  AreFiles files = AreAcceptedFiles holds paths files.limits files.route files.outages.items files.almanacs.items

  -- the answer is this stop
  abbrev Gives : Result FlightFiles Stop → Stop → Type 0
  Gives result stop = result ≡ Err stop

  module _ (told : AreTold holds paths) where
    -- a file that stands in the way is the one that stopped the reading, or the reading met a fault before
    the_one : (file other : FileNo) → Hinders holds paths told file → Hinders holds paths told other → file ≡ other
    the_one file other h k = go (before_or_after file other)
      where
        go : (file ≡ other) ⊎ ((place_of file < place_of other) ⊎ (place_of other < place_of file)) → file ≡ other
        go (inl same) = same
        go (inr (inl lt)) = absurd (not_beyond holds paths told file other k.leap k.flight h lt k.before)
        go (inr (inr lt)) = absurd (not_beyond holds paths told other file h.leap h.flight k lt h.before)

    by_refusal : (result : Result FlightFiles Stop) → IfOk result AreFiles → IfErr result (StopCause holds paths before now) → result ≢ Err Memory
        → (file : FileNo) (line : ℕ) (why : TextWhy) → IsRefusedFirst holds paths file line why → IsFaultlessUpTo file result → result ≡ Err (Refused file line why)
    by_refusal (Ok files) ok cause m file line why r faultless =
        absurd (none_hinders holds paths told file files.limits files.route files.outages.items files.almanacs.items ok (refused_hinders holds paths told file line why r))
    by_refusal (Err Memory) ok cause m file line why r faultless = absurd (m refl)
    by_refusal (Err (Fault f)) ok cause m file line why r faultless = go (before_or_after file f)
      where
        go : (file ≡ f) ⊎ ((place_of file < place_of f) ⊎ (place_of f < place_of file)) → Gives (Err (Fault f)) (Refused file line why)
        go (inl same) = absurd (faultless f (subst (λ (x : FileNo). place_of f ≤ place_of x) (sym same) (omega arith)) refl)
        go (inr (inl lt)) = absurd (not_beyond holds paths told file f cause.leap cause.flight (refused_hinders holds paths told file line why r) lt cause.accepted)
        go (inr (inr lt)) = absurd (faultless f (omega arith) refl)
    by_refusal (Err (TooLong f)) ok cause m file line why r faultless =
        let same = the_one file f (refused_hinders holds paths told file line why r) (long_hinders holds paths told f cause) in
        absurd (refused_or_long holds paths told f line why (subst (λ (x : FileNo). IsRefusedFirst holds paths x line why) same r) cause)
    by_refusal (Err (Refused f n w)) ok cause m file line why r faultless =
        let same = the_one file f (refused_hinders holds paths told file line why r) (refused_hinders holds paths told f n w cause) in
        let one = refused_once_first holds paths told f line n why w (subst (λ (x : FileNo). IsRefusedFirst holds paths x line why) same r) cause in
        let same_line = one.0 in
        let same_cause = one.1 in
        cc

    by_length : (result : Result FlightFiles Stop) → IfOk result AreFiles → IfErr result (StopCause holds paths before now) → result ≢ Err Memory
        → (file : FileNo) → IsTooLongFirst holds paths file → IsFaultlessUpTo file result → result ≡ Err (TooLong file)
    by_length (Ok files) ok cause m file l faultless =
        absurd (none_hinders holds paths told file files.limits files.route files.outages.items files.almanacs.items ok (long_hinders holds paths told file l))
    by_length (Err Memory) ok cause m file l faultless = absurd (m refl)
    by_length (Err (Fault f)) ok cause m file l faultless = go (before_or_after file f)
      where
        go : (file ≡ f) ⊎ ((place_of file < place_of f) ⊎ (place_of f < place_of file)) → Gives (Err (Fault f)) (TooLong file)
        go (inl same) = absurd (faultless f (subst (λ (x : FileNo). place_of f ≤ place_of x) (sym same) (omega arith)) refl)
        go (inr (inl lt)) = absurd (not_beyond holds paths told file f cause.leap cause.flight (long_hinders holds paths told file l) lt cause.accepted)
        go (inr (inr lt)) = absurd (faultless f (omega arith) refl)
    by_length (Err (TooLong f)) ok cause m file l faultless =
        let same = the_one file f (long_hinders holds paths told file l) (long_hinders holds paths told f cause) in
        cc
    by_length (Err (Refused f n w)) ok cause m file l faultless =
        let same = the_one file f (long_hinders holds paths told file l) (refused_hinders holds paths told f n w cause) in
        absurd (refused_or_long holds paths told f n w cause (subst (λ (x : FileNo). IsTooLongFirst holds paths x) same l))

    by_acceptance : (result : Result FlightFiles Stop) → IfOk result AreFiles → IfOk result (λ files. IsLimits files.limits) → IfErr result (StopCause holds paths before now) → result ≢ Err Memory
        → (limits : Limits) (route : List Waypoint) (outages : List Outage) (almanacs : List (List AlmRecord))
        → AreAcceptedFiles holds paths limits route outages almanacs → IsFaultlessUpTo Almanac result → IsOkAnd result (AreTheFiles limits route outages almanacs)
    by_acceptance (Ok files) ok ranged cause m limits route outages almanacs a faultless = files_once holds paths told limits route outages almanacs files a ok ranged
    by_acceptance (Err Memory) ok ranged cause m limits route outages almanacs a faultless = absurd (m refl)
    by_acceptance (Err (Fault f)) ok ranged cause m limits route outages almanacs a faultless = absurd (faultless f (at_most_last f) refl)
    by_acceptance (Err (TooLong f)) ok ranged cause m limits route outages almanacs a faultless =
        absurd (none_hinders holds paths told f limits route outages almanacs a (long_hinders holds paths told f cause))
    by_acceptance (Err (Refused f n w)) ok ranged cause m limits route outages almanacs a faultless =
        absurd (none_hinders holds paths told f limits route outages almanacs a (refused_hinders holds paths told f n w cause))

  pub settled_by : (result : Result FlightFiles Stop) → IfOk result AreFiles → IfOk result (λ files. IsLimits files.limits) → IfErr result (StopCause holds paths before now) → Settles holds paths result
  settled_by result ok ranged cause told m = record {
    accepted = by_acceptance told result ok ranged cause m;
    refused = by_refusal told result ok cause m;
    too_long = by_length told result ok cause m;
  }

  pub completed_by : (result : Result FlightFiles Stop) → IfErr result (StopCause holds paths before now) → Completes holds paths before now result
  completed_by (Ok files) cause limits route outages almanacs told a quiet = inl refl
  completed_by (Err Memory) cause limits route outages almanacs told a quiet = inr refl
  completed_by (Err (Fault f)) cause limits route outages almanacs told a quiet = absurd (quiet f cause.rose)
  completed_by (Err (TooLong f)) cause limits route outages almanacs told a quiet =
      absurd (none_hinders holds paths told f limits route outages almanacs a (long_hinders holds paths told f cause))
  completed_by (Err (Refused f n w)) cause limits route outages almanacs told a quiet =
      absurd (none_hinders holds paths told f limits route outages almanacs a (refused_hinders holds paths told f n w cause))
