-- Runs within a flight whose times are instants of UTC can be printed.
use Rattle.std.specs.Prelude.{ℕ, ◌-◌, ◌<◌, ℤ, List, [], ◌∷◌, length, All, slice_index_or}
use Rattle.std.proofs.Common.{arith, subst}
use Rattle.std.proofs.lemmas.Int.{ints}
use Rattle.raim_model.specs.declared.span.Span.{Span}
use Rattle.raim_model.specs.declared.verdict.Run.{Run}
use Rattle.raim_model.specs.declared.waypoint.Waypoint.{Waypoint}
use Rattle.raim_model.specs.Ranges.{IsRoute}
use Rattle.raim_model.specs.Route.{flight_of, time_at}
use Rattle.gps_week.specs.GpsTime.{IsInstant}
use Rattle.route_interp.specs.Answers.{AreInstants}
use Rattle.route_interp.proofs.Times.{time_at_place}
use Rattle.report_text.specs.Report.{IsPrintable}
use Rattle.flight_forecast.specs.InOrder.{IsWithin}

-- the time of each waypoint
at_place : (leap : ℕ) (w : Waypoint) (ws : List Waypoint) → AreInstants leap ws → (k : ℕ) → k < length ws → IsInstant leap (time_at ws k)
at_place leap w ws a k below = subst (λ (t : ℤ). IsInstant leap t) (time_at_place ws k w below) (a k w below)

-- the first millisecond of a flight, and its end
pub flight_instants : (leap : ℕ) (ws : List Waypoint) → IsRoute ws → AreInstants leap ws → IsInstant leap (flight_of ws).first × IsInstant leap (flight_of ws).end
flight_instants leap [] r a = absurd (let some = r.some in omega arith)
flight_instants leap (w ∷ ws) r a = (at_place leap w (w ∷ ws) a 0 (omega arith), at_place leap w (w ∷ ws) a (length (w ∷ ws) - 1) (omega arith))

-- a run between two instants
run_printable : (leap : ℕ) (span : Span) (run : Run) → IsInstant leap span.first → IsInstant leap span.end → IsWithin span run → IsPrintable leap run
run_printable leap span run first end w =
    let started = w.started in
    let some = w.some in
    let not_over = w.not_over in
    let low = first.0 in
    let high = end.1 in
    record {
      first = (omega (arith, ints), omega (arith, ints));
      end = (omega (arith, ints), omega (arith, ints));
      written = w.written;
    }

pub printable : (leap : ℕ) (ws : List Waypoint) (runs : List Run) → IsRoute ws → All (IsWithin (flight_of ws)) runs → AreInstants leap ws → All (IsPrintable leap) runs
printable leap ws runs r within a k d below =
    let ends = flight_instants leap ws r a in
    run_printable leap (flight_of ws) (slice_index_or runs k d) ends.0 ends.1 (within k d below)
