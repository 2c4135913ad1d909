-- The runs of a flight: where they lie, how many they are and how long they last.
use Rattle.std.proofs.Common.{◌≡◌, sym, subst, ℕ, ◌≤◌, ℤ, pos, ◌≤ℤ◌, ◌<ℤ◌, ◌+ℤ◌, ◌-ℤ◌, List, [], ◌∷◌, length, Some, arith}
use Rattle.std.specs.Prelude.{All}
use Rattle.std.proofs.lemmas.List.Elements.{All-nil, All-cons, All-head, All-tail, All-weaker}
use Rattle.jiff_core.proofs.SignedLemmas.{signed_arith}
use Rattle.gps_week.specs.GpsTime.{IsInstant}
use Rattle.gps_week.proofs.CastLemmas.{unsigned_abs-not_negative}
use Rattle.raim_model.specs.Constants.{day_ms}
use Rattle.raim_model.specs.declared.verdict.Run.{Run}
use Rattle.raim_model.specs.declared.span.Span.{Span}
use Rattle.report_text.specs.Report.{IsPrintable}
use Rattle.report_chart.specs.Band.{ms_of_run, IsWithin}
use Rattle.report_chart.specs.Chart.{end_after, span_of, Follow, AreRunsOf}
use Rattle.report_chart.specs.Hours.{IsFlightSpan}
use Rattle.report_chart.specs.Totals.{IsShort, AreCountable}

-- runs that follow one another do not go back
pub rises : (first end : ℤ) (runs : List Run) → Follow first end runs → first ≤ℤ end
rises first end [] follow = omega (arith, signed_arith, follow)
rises first end (run ∷ more) follow = omega (arith, signed_arith, follow.1, rises run.end end more follow.2)

-- and lie within their flight
within : (span : Span) (first : ℤ) (runs : List Run) → span.first ≤ℤ first → span.end ≤ℤ (span.first +ℤ pos day_ms) → Follow first span.end runs → All (IsWithin span) runs
within span first [] from short follow = All-nil (IsWithin span)
within span first (run ∷ more) from short follow =
    let later : run.end ≤ℤ span.end = rises run.end span.end more follow.2 in
    All-cons (IsWithin span) run more
    (record { after = omega (arith, signed_arith, follow.0, from); forward = omega (arith, signed_arith, follow.0, follow.1); before = later; short = short })
    (within span run.end more (omega (arith, signed_arith, follow.1, from)) short follow.2)

pub all_within : (span : Span) (runs : List Run) → AreRunsOf span runs → All (IsWithin span) runs
all_within span runs flight = within span span.first runs (omega (arith, signed_arith)) flight.short flight.follow

-- each of them lasts a millisecond or more
few : (first end : ℤ) (runs : List Run) → Follow first end runs → (first +ℤ pos (length runs)) ≤ℤ end
few first end [] follow = omega (arith, signed_arith, follow)
few first end (run ∷ more) follow = omega (arith, signed_arith, follow.1, few run.end end more follow.2)

-- a run within a flight of a day at most lasts no longer
short_within : (span : Span) (run : Run) → IsWithin span run → IsShort run
short_within span run is =
    let ms : pos (ms_of_run run) ≡ run.end -ℤ run.first = unsigned_abs-not_negative (run.end -ℤ run.first) (omega (arith, signed_arith, is.forward)) in
    fits (ms_of_run run) run.first run.end span.first span.end ms is.after is.before is.short
  where
    fits : (n : ℕ) (first end start stop : ℤ) → pos n ≡ end -ℤ first → start ≤ℤ first → end ≤ℤ stop → stop ≤ℤ (start +ℤ pos day_ms) → n ≤ day_ms
    fits n first end start stop e p q r = omega (arith, signed_arith, e, p, q, r)

pub countable : (span : Span) (runs : List Run) → AreRunsOf span runs → AreCountable runs
countable span runs flight = record {
  few = fits (length runs) span.first span.end (few span.first span.end runs flight.follow) flight.short;
  short = All-weaker (IsWithin span) IsShort (short_within span) runs (all_within span runs flight);
}
  where
    fits : (n : ℕ) (first end : ℤ) → (first +ℤ pos n) ≤ℤ end → end ≤ℤ (first +ℤ pos day_ms) → n ≤ day_ms
    fits n first end p q = omega (arith, signed_arith, p, q)

-- the end of the last run is an instant
end_instant : (t : ℤ) (runs : List Run) → IsInstant 0 t → All (IsPrintable 0) runs → IsInstant 0 (end_after t runs)
end_instant t [] instant printable = instant
end_instant t (run ∷ more) instant printable = end_instant run.end more (All-head (IsPrintable 0) run more printable).end (All-tail (IsPrintable 0) run more printable)

-- the two ends of a flight that has runs
instants : (span : Span) (runs : List Run) → span_of runs ≡ Some span → All (IsPrintable 0) runs → IsInstant 0 span.first × IsInstant 0 span.end
instants span [] is printable = let none = is in cc
instants span (run ∷ more) is printable =
    let head = All-head (IsPrintable 0) run more printable in
    let same : span ≡ record { first = run.first; end = end_after run.end more } = cc in
    subst (λ (s : Span). IsInstant 0 s.first × IsInstant 0 s.end) (sym same) (head.first, end_instant run.end more head.end (All-tail (IsPrintable 0) run more printable))

pub first_instant : (span : Span) (runs : List Run) → span_of runs ≡ Some span → AreRunsOf span runs → IsInstant 0 span.first
first_instant span runs is flight = (instants span runs is flight.printable).0

pub last_instant : (span : Span) (runs : List Run) → span_of runs ≡ Some span → AreRunsOf span runs → IsInstant 0 span.end
last_instant span runs is flight = (instants span runs is flight.printable).1

-- a flight that has runs takes some time
pub forward : (span : Span) (runs : List Run) → span_of runs ≡ Some span → Follow span.first span.end runs → span.first <ℤ span.end
forward span [] is follow = let none = is in cc
forward span (run ∷ more) is follow = omega (arith, signed_arith, follow.1, rises run.end span.end more follow.2)

pub flight_span : (span : Span) (runs : List Run) → span_of runs ≡ Some span → AreRunsOf span runs → IsFlightSpan span
flight_span span runs is flight = record {
  epoch = omega (arith, signed_arith, (first_instant span runs is flight).0);
  forward = forward span runs is flight.follow;
  short = flight.short;
}
