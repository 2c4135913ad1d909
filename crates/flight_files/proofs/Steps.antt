-- What reading one file after another does to a desk.
use Rattle.std.proofs.Common.{◌≡◌, ◌≢◌, ◌⊎◌, ◌<◌, ◌≤◌, ◌++◌, ℕ, pos, List, [], Option, Some, None, refl, sym, ap, ◌∙◌, inl, inr, subst, arith, append-nil}
use Rattle.raim_model.specs.declared.FileNo.{FileNo}
use Rattle.raim_model.specs.declared.FileNo.TheVariants.{Limits, Route, Outages, Almanac}
use Rattle.raim_model.specs.declared.Span.{Span}
use Rattle.raim_base.specs.Calls.{Call, Makes, MakesCalls, ReadsToEnd, ReadsAFront, FailsLast}
use Rattle.raim_base.specs.Causes.{Rose}
use Rattle.raim_base.specs.Desks.{KeepsOthers}
use Rattle.raim_base.specs.MemDeskState.{Each, of_file}
use Rattle.raim_base.proofs.Calls.{makes-trans}
use Rattle.text_lines.specs.Lines.{Text}
use Rattle.flight_files.specs.declared.stop.Stop.{Stop}
use Rattle.flight_files.specs.declared.stop.Stop.TheVariants.{Memory, Fault, TooLong, Refused}
use Rattle.flight_files.specs.Order.{place_of, Names}
use Rattle.flight_files.specs.Files.{HasLines, IsTooLong, RefusesFile, AreAcceptedBefore, IsRefusedFirst, IsTooLongFirst}
use Rattle.flight_files.specs.Stops.{FileCause, StopCause, IsFaultyFirst}
use Rattle.flight_files.specs.Calls.{IsCutShort, FileStopCalls, StopCalls, InTurn, AreReadBefore, ReadsUpTo}
use Rattle.flight_files.proofs.FileLemmas.{is_or_not, differs}

-- where a file is read before the route there is no flight yet
abbrev pub no_flight : Span
no_flight = record { first = pos 0; end = pos 0 }

-- what a desk tells and counts
pub record Seen : Type 0 where
  pub holds : Text → Option Text
  pub left : FileNo → Option Text
  pub faults : FileNo → ℕ
  pub calls : Option (List Call)

-- one file was read: the calls that were made on the desk are such
pub record Reads (file : FileNo) (a b : Seen) (Made : List Call → Type 0) : Type 0 where
  pub holds : (p : Text) → b.holds p ≡ a.holds p
  pub later : a.faults file ≤ b.faults file
  pub others : KeepsOthers a.left b.left a.faults b.faults file
  pub calls : MakesCalls a.calls b.calls Made

-- another file's bytes left and count of faults stay
abbrev pub IsKept : Seen → Seen → FileNo → Type 0
IsKept a b file = (b.left file ≡ a.left file) × (b.faults file ≡ a.faults file)

-- the files before this one were read, from the first desk to the other
pub record IsAt (paths : Each Text) (file : FileNo) (a b : Seen) : Type 0 where
  pub holds : (p : Text) → b.holds p ≡ a.holds p
  pub later : (f : FileNo) → a.faults f ≤ b.faults f
  pub kept : (f : FileNo) → place_of file ≤ place_of f → IsKept a b f
  pub calls : MakesCalls a.calls b.calls (AreReadBefore paths file)

-- the reading stopped
pub record HasStopped (paths : Each Text) (stop : Stop) (a b : Seen) : Type 0 where
  pub cause : StopCause a.holds paths a.faults b.faults stop
  pub later : (f : FileNo) → a.faults f ≤ b.faults f
  pub others : (file other : FileNo) → Names stop file → place_of file < place_of other → IsKept a b other
  pub calls : MakesCalls a.calls b.calls (StopCalls paths stop)

in_turn : (a b c : Option (List Call)) (P Q : List Call → Type 0) → MakesCalls a b P → MakesCalls b c Q → MakesCalls a c (InTurn P Q)
in_turn a b c P Q (made, m, p) (more, n, q) = (made ++ more, makes-trans a b c made more m n, (made, more, p, q, refl))

makes_none : (a : Option (List Call)) → Makes a a []
makes_none None = tt
makes_none (Some calls) = ap (λ l. Some l) (sym (append-nil calls))

no_calls : (a : Option (List Call)) → MakesCalls a a (λ made. made ≡ [])
no_calls a = ([], makes_none a, refl)

later_by : (file : FileNo) (a b c : Seen) → ((f : FileNo) → a.faults f ≤ b.faults f) → b.faults file ≤ c.faults file
    → KeepsOthers b.left c.left b.faults c.faults file → (f : FileNo) → a.faults f ≤ c.faults f
later_by file a b c before here others f = go (is_or_not f file)
  where
    go : (f ≡ file) ⊎ (f ≢ file) → a.faults f ≤ c.faults f
    go (inl same) =
        let risen : b.faults f ≤ c.faults f = subst (λ (x : FileNo). b.faults x ≤ c.faults x) (sym same) here in
        let so_far = before f in
        omega arith
    go (inr other) =
        let same = (others f other).1 in
        let so_far = before f in
        omega (arith, same, so_far)

kept_by : (file other : FileNo) (a b c : Seen) → IsKept a b other → KeepsOthers b.left c.left b.faults c.faults file → place_of file < place_of other → IsKept a c other
kept_by file other a b c kept others after =
    let more = others other (differs file other after) in
    (more.0 ∙ kept.0, more.1 ∙ kept.1)

-- no file was read yet
pub at_limits : (paths : Each Text) (a : Seen) → IsAt paths Limits a a
at_limits paths a = record { holds = λ p. refl; later = λ f. omega arith; kept = λ f at. (refl, refl); calls = no_calls a.calls }

-- one file more was read
next_by : (paths : Each Text) (file next : FileNo) (a b c : Seen) (Made : List Call → Type 0) → place_of file < place_of next
    → IsAt paths file a b → Reads file b c Made → MakesCalls a.calls c.calls (AreReadBefore paths next) → IsAt paths next a c
next_by paths file next a b c Made after at reads calls = record {
  holds = λ p. reads.holds p ∙ at.holds p;
  later = later_by file a b c at.later reads.later reads.others;
  kept = λ f behind. kept_by file f a b c (at.kept f (omega arith)) reads.others (omega arith);
  calls = calls;
}

module _ (paths : Each Text) (a b c : Seen) where
  pub at_route : IsAt paths Limits a b → Reads Limits b c (ReadsToEnd Limits paths.limits) → IsAt paths Route a c
  at_route at reads = next_by paths Limits Route a b c (ReadsToEnd Limits paths.limits) (omega arith) at reads
      (in_turn a.calls b.calls c.calls (AreReadBefore paths Limits) (ReadsToEnd Limits paths.limits) at.calls reads.calls)

  pub at_outages : IsAt paths Route a b → Reads Route b c (ReadsToEnd Route paths.route) → IsAt paths Outages a c
  at_outages at reads = next_by paths Route Outages a b c (ReadsToEnd Route paths.route) (omega arith) at reads
      (in_turn a.calls b.calls c.calls (AreReadBefore paths Route) (ReadsToEnd Route paths.route) at.calls reads.calls)

  pub at_almanac : IsAt paths Outages a b → Reads Outages b c (ReadsToEnd Outages paths.outages) → IsAt paths Almanac a c
  at_almanac at reads = next_by paths Outages Almanac a b c (ReadsToEnd Outages paths.outages) (omega arith) at reads
      (in_turn a.calls b.calls c.calls (AreReadBefore paths Outages) (ReadsToEnd Outages paths.outages) at.calls reads.calls)

  -- the last file was read
  pub later_at_end : IsAt paths Almanac a b → Reads Almanac b c (ReadsToEnd Almanac paths.almanac) → (f : FileNo) → a.faults f ≤ c.faults f
  later_at_end at reads = later_by Almanac a b c at.later reads.later reads.others

  pub calls_at_end : IsAt paths Almanac a b → Reads Almanac b c (ReadsToEnd Almanac paths.almanac) → MakesCalls a.calls c.calls (ReadsUpTo paths Almanac ReadsToEnd)
  calls_at_end at reads = in_turn a.calls b.calls c.calls (AreReadBefore paths Almanac) (ReadsToEnd Almanac paths.almanac) at.calls reads.calls

  -- a file was not read
  module _ (file : FileNo) (leap : ℕ) (flight : Span) (at : IsAt paths file a b) (accepted : AreAcceptedBefore a.holds paths file leap flight) where
    cause_of : (stop : Stop) → FileCause file (b.holds (of_file paths file)) (b.faults file) (c.faults file) (RefusesFile file leap flight) stop → StopCause a.holds paths a.faults c.faults stop
    cause_of Memory cause = tt
    cause_of (Fault named) (same, rose) =
        let before : b.faults file ≡ a.faults file = (at.kept file (omega arith)).1 in
        subst (λ (x : FileNo). IsFaultyFirst a.holds paths a.faults c.faults x) (sym same)
        (record { leap = leap; flight = flight; accepted = accepted; rose = subst (λ (n : ℕ). Rose n (c.faults file)) before rose })
    cause_of (TooLong named) (same, long) =
        subst (λ (x : FileNo). IsTooLongFirst a.holds paths x) (sym same)
        (record { leap = leap; flight = flight; accepted = accepted; here = subst (λ (told : Option Text). IsTooLong told) (at.holds (of_file paths file)) long })
    cause_of (Refused named line why) (same, refuses) =
        subst (λ (x : FileNo). IsRefusedFirst a.holds paths x line why) (sym same)
        (record { leap = leap; flight = flight; accepted = accepted; here = subst (λ (told : Option Text). HasLines told (λ lines. RefusesFile file leap flight lines line why)) (at.holds (of_file paths file)) refuses })

    named_is : (told : Option Text) (before now : ℕ) (stop : Stop) (named : FileNo) → FileCause file told before now (RefusesFile file leap flight) stop → Names stop named → file ≡ named
    named_is told before now Memory named cause names = absurd names
    named_is told before now (Fault f) named (same, rose) names = sym same ∙ names
    named_is told before now (TooLong f) named (same, long) names = sym same ∙ names
    named_is told before now (Refused f line why) named (same, refuses) names = sym same ∙ names

    turn : (Made : List Call → Type 0) → MakesCalls b.calls c.calls Made → MakesCalls a.calls c.calls (InTurn (AreReadBefore paths file) Made)
    turn Made calls = in_turn a.calls b.calls c.calls (AreReadBefore paths file) Made at.calls calls

    calls_of : (told : Option Text) (before now : ℕ) (stop : Stop) → FileCause file told before now (RefusesFile file leap flight) stop
        → MakesCalls b.calls c.calls (FileStopCalls file (of_file paths file) stop) → MakesCalls a.calls c.calls (StopCalls paths stop)
    calls_of told before now Memory cause calls =
        let all = turn (IsCutShort file (of_file paths file)) calls in
        (all.0, all.1, (file, all.2))
    calls_of told before now (Fault named) (same, rose) calls =
        subst (λ (x : FileNo). MakesCalls a.calls c.calls (ReadsUpTo paths x FailsLast)) (sym same) (turn (FailsLast file (of_file paths file)) calls)
    calls_of told before now (TooLong named) (same, long) calls =
        subst (λ (x : FileNo). MakesCalls a.calls c.calls (ReadsUpTo paths x ReadsAFront)) (sym same) (turn (ReadsAFront file (of_file paths file)) calls)
    calls_of told before now (Refused named line why) (same, refuses) calls =
        subst (λ (x : FileNo). MakesCalls a.calls c.calls (ReadsUpTo paths x ReadsToEnd)) (sym same) (turn (ReadsToEnd file (of_file paths file)) calls)

    pub stopped : (stop : Stop) → Reads file b c (FileStopCalls file (of_file paths file) stop)
        → FileCause file (b.holds (of_file paths file)) (b.faults file) (c.faults file) (RefusesFile file leap flight) stop → HasStopped paths stop a c
    stopped stop reads cause = record {
      cause = cause_of stop cause;
      later = later_by file a b c at.later reads.later reads.others;
      others = λ named other names after.
          let same = named_is (b.holds (of_file paths file)) (b.faults file) (c.faults file) stop named cause names in
          let behind : place_of file < place_of other = subst (λ (x : FileNo). place_of x < place_of other) (sym same) after in
          kept_by file other a b c (at.kept other (omega arith)) reads.others behind;
      calls = calls_of (b.holds (of_file paths file)) (b.faults file) (c.faults file) stop cause reads.calls;
    }
