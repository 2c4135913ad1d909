-- The times of a route that is read are instants of UTC.
use Rattle.std.proofs.Common.{◌≡◌, ◌∷◌, [], List, Bool, true, false, ℤ, ℕ, ◌-◌, ◌<◌, ◌==◌, Ok, Result, arith, sym, ap, ◌∙◌, subst, All, length, int_le, nat_le, cond, take, slice_index_or}
use Rattle.std.proofs.lemmas.List.Elements.{All-head, All-tail, All-cons}
use Rattle.raim_model.specs.declared.TextWhy.{TextWhy}
use Rattle.raim_model.specs.declared.TextWhy.TheVariants.{Word, TooMany, NotRising, TooLong}
use Rattle.raim_model.specs.declared.Waypoint.{Waypoint}
use Rattle.raim_model.specs.Decimal.{decimal}
use Rattle.raim_model.specs.Route.{time_at}
use Rattle.text_lines.specs.Lines.{Text}
use Rattle.text_lines.specs.Words.{words_of, quadruple_of}
use Rattle.text_lines.specs.Fields.{or_else}
use Rattle.text_lines.proofs.FieldLemmas.{bind_then, ok_is, unless_then}
use Rattle.dec_text.specs.DecimalFields.{any_decimal, in_bounds}
use Rattle.gps_week.specs.GpsTime.{IsInstant}
use Rattle.gps_week.specs.TimeReading.{time_in}
use Rattle.gps_week.proofs.InstantLemmas.{instant_in_range}
use Rattle.gps_week.proofs.TimeReadingLemmas.{says_instant}
use Rattle.route_interp.specs.declared.entry.Entry.{Entry}
use Rattle.route_interp.specs.declared.entry.Entry.TheVariants as entry
use Rattle.route_interp.specs.Routes.{points_in, follow_times, follow_of, place_of, waypoint_of, words_entry_of}
use Rattle.route_interp.specs.Answers.{SayWaypoints, AreInstants}

-- a time that follows those before it is the one that was read
follow_same : (before : List Waypoint) (time at : ℤ) → follow_of before time ≡ Ok at → at ≡ time
follow_same before time at h = go (length before == 0) h
  where
    go : (t : Bool) → ◌≡◌ {A = Result ℤ TextWhy} (cond t (Ok time) (follow_times (time_at before 0) (time_at before (length before - 1)) time)) (Ok at) → at ≡ time
    go true k = sym (ok_is time at k)
    go false k =
        let a = unless_then (int_le time (time_at before (length before - 1))) NotRising _ at k in
        let b = unless_then _ TooLong (Ok time) at a.1 in
        sym (ok_is time at b.1)

-- a place that is read has the time that it is given
place_time : (at : ℤ) (ws : Text × Text × Text) (w : Waypoint) → place_of at ws ≡ Ok w → w.at ≡ at
place_time at ws w h =
    let a = bind_then (any_decimal ws.0) _ w h in
    let b = bind_then (any_decimal ws.1) _ w a.2 in
    let c = bind_then (any_decimal ws.2) _ w b.2 in
    let d = bind_then (in_bounds (decimal true 90 0) (decimal false 90 0) a.0) _ w c.2 in
    let e = bind_then (in_bounds (decimal true 360 0) (decimal false 360 0) b.0) _ w d.2 in
    let f = bind_then (in_bounds (decimal true 1000 0) (decimal false 30000 0) c.0) _ w e.2 in
    sym (ap (λ (x : Waypoint). x.at) (ok_is _ w f.2))

-- a waypoint that is read has the time of an instant
waypoint_instant : (leap : ℕ) (before : List Waypoint) (ws : Text × Text × Text × Text) (w : Waypoint) → waypoint_of leap before ws ≡ Ok w → IsInstant leap w.at
waypoint_instant leap before ws w h =
    let t = bind_then (time_in leap ws.0) _ w h in
    let a = bind_then (follow_of before t.0) _ w t.2 in
    let same : w.at ≡ t.0 = place_time a.0 (ws.1, ws.2, ws.3) w a.2 ∙ follow_same before t.0 a.0 a.1 in
    subst (λ (ms : ℤ). IsInstant leap ms) (sym same) (instant_in_range ws.0 leap t.0 (says_instant ws.0 leap t.0 t.1))

-- where a line is a waypoint, this has the time of an instant
abbrev HasInstant : ℕ → Entry → Type 0
HasInstant leap entry.Blank = Unit {0}
HasInstant leap (entry.Point w) = IsInstant leap w.at

line_instant : (leap : ℕ) (before : List Waypoint) (words : List Text) (e : Entry) → words_entry_of leap before words ≡ Ok e → HasInstant leap e
line_instant leap before [] e h = subst (HasInstant leap) (ok_is entry.Blank e h) tt
line_instant leap before (word ∷ words) e h =
    let four = bind_then (or_else Word (quadruple_of (word ∷ words))) _ e h in
    let few = unless_then (nat_le 200 (length before)) TooMany _ e four.2 in
    let point = bind_then (waypoint_of leap before four.0) _ e few.1 in
    subst (HasInstant leap) (ok_is (entry.Point point.0) e point.2) (waypoint_instant leap before four.0 point.0 point.1)

points_instants : (leap : ℕ) (entries : List Entry) → All (HasInstant leap) entries → AreInstants leap (points_in entries)
points_instants leap [] h = λ k d below. absurd (omega arith)
points_instants leap (entry.Blank ∷ es) h = points_instants leap es (All-tail (HasInstant leap) entry.Blank es h)
points_instants leap (entry.Point w ∷ es) h =
    All-cons (λ (x : Waypoint). IsInstant leap x.at) w (points_in es) (All-head (HasInstant leap) (entry.Point w) es h) (points_instants leap es (All-tail (HasInstant leap) (entry.Point w) es h))

-- what the lines of a route say has times of instants
pub say_instants : (leap : ℕ) (lines : List Text) (waypoints : List Waypoint) → SayWaypoints leap lines waypoints → AreInstants leap waypoints
say_instants leap lines waypoints s = subst (AreInstants leap) (sym s.same) (points_instants leap s.entries each)
  where
    each : All (HasInstant leap) s.entries
    each k d below =
        let line : Text = slice_index_or lines k [] in
        let said = s.accepted.reads.each k d (subst (λ (n : ℕ). k < n) s.accepted.reads.count below) in
        line_instant leap (points_in (take k s.entries)) (words_of line) (slice_index_or s.entries k d) said
