-- Days by their place in a year.
use Rattle.std.proofs.Common.{◌≡◌, ◌∙◌, refl, sym, ap, subst, ℕ, ◌+◌, ◌*◌, ◌<◌, ◌≤◌, ◌&&◌, true, false, cond, arith, ℤ, pos, negsuc, neg_ℤ, ◌+ℤ◌, ◌*ℤ◌, ◌≤ℤ◌, ◌<ℤ◌, Ok, Err, nat_le, nat_lt, to_z, of_z, w64}
use Rattle.std.specs.Prelude.{int_lt}
use Rattle.gps_week.proofs.CastLemmas.{kept_small}
use Rattle.jiff_core.specs.Calendar.{IsYear, days_in_year, day_of_year}
use Rattle.jiff_core.proofs.SignedLemmas.{signed_arith}
use Rattle.jiff_core.proofs.CalendarLemmas.{days_from_civil-day_count, day_count-year_bounds, day_count-day_of_year, day_of_year_bound}
use Rattle.gps_week.specs.declared.civil_time.CivilDate.{CivilDate}
use Rattle.gps_week.specs.declared.civil_time.CivilTime.{CivilTime}
use Rattle.gps_week.specs.declared.gps_time.TimeFault.TheVariants.{BadDate, BeforeEpoch}
use Rattle.gps_week.specs.GpsTime.{gps_day, IsInCalendar, ms_of_day, ms_since_epoch}
use Rattle.gps_week.specs.TimeReading.{gps_ms_of}
use Rattle.gps_week.specs.YearDays.{new_year, gps_year_day, is_minute, ms_of_minute, day_ms_of, year_day, IsWholeMinute}
use Rattle.gps_week.proofs.DayLemmas.{epoch_day_number}

year_of : (y : ℕ) → y ≤ 9999 → IsYear (pos y)
year_of y few = (omega (arith, signed_arith, few), omega (arith, signed_arith, few))

pub new_year_there : (y : ℕ) → y ≤ 9999 → IsInCalendar (new_year y)
new_year_there y few = (year_of y few, (omega arith, omega arith), (omega arith, omega arith))

-- a day of the year 9999 at the latest
pub year_day_high : (y day : ℕ) → y ≤ 9999 → 1 ≤ day → day ≤ days_in_year (pos y) → gps_year_day y day <ℤ pos 2929240
year_day_high y day few first last =
    let count = days_from_civil-day_count (pos y) 1 1 in
    let bounds = day_count-year_bounds (pos y) (year_of y few) in
    omega (arith, signed_arith, count, bounds.1, epoch_day_number, first, last)

minute_there : (y d h m : ℕ) → 1 ≤ d → d ≤ days_in_year (pos y) → h < 24 → m < 60 → is_minute y d h m ≡ true
minute_there y d h m a b e f = by_tests (days_in_year (pos y)) b
  where
    by_tests : (most : ℕ) → d ≤ most → (nat_le 1 d && nat_le d most && nat_lt h 24 && nat_lt m 60) ≡ true
    by_tests most l = grind arith

late : (ms : ℤ) → pos 0 ≤ℤ ms → gps_ms_of 0 ms ≡ Ok ms
late (pos n) l = let same : n + 0 ≡ n = omega arith in ap (λ k. Ok (pos k)) same
late (negsuc n) l = absurd (omega (arith, signed_arith, l))

early : (ms : ℤ) → ms <ℤ pos 0 → gps_ms_of 0 ms ≡ Err BeforeEpoch
early (pos n) l = absurd (omega (arith, signed_arith, l))
early (negsuc n) l = refl

at_minute : (y d h m : ℕ) (ms : ℤ) → 1 ≤ d → d ≤ days_in_year (pos y) → h < 24 → m < 60 → ms ≡ ms_of_minute y d h m → day_ms_of y d h m ≡ gps_ms_of 0 ms
at_minute y d h m ms a b e f is =
    let there : is_minute y d h m ≡ true = minute_there y d h m a b e f in
    ap (λ t. cond t (gps_ms_of 0 (ms_of_minute y d h m)) (Err BadDate)) there ∙ ap (gps_ms_of 0) (sym is)

pub day_late : (y d h m : ℕ) (ms : ℤ) → 1 ≤ d → d ≤ days_in_year (pos y) → h < 24 → m < 60 → ms ≡ ms_of_minute y d h m → pos 0 ≤ℤ ms → Ok ms ≡ day_ms_of y d h m
day_late y d h m ms a b e f is l = sym (at_minute y d h m ms a b e f is ∙ late ms l)

pub day_early : (y d h m : ℕ) (ms : ℤ) → 1 ≤ d → d ≤ days_in_year (pos y) → h < 24 → m < 60 → ms ≡ ms_of_minute y d h m → ms <ℤ pos 0 → Err BeforeEpoch ≡ day_ms_of y d h m
day_early y d h m ms a b e f is l = sym (at_minute y d h m ms a b e f is ∙ early ms l)

-- the same of the numbers as the code keeps them
pub day_kept : (day : ℤ) (d : ℤ) → day ≡ d → neg_ℤ (pos 4375244) ≤ℤ day → d <ℤ pos 2929240 → to_z w64 (of_z w64 day) <ℤ pos 2929240
day_kept day d is low high =
    let h : day <ℤ pos 2929240 = subst (λ (n : ℤ). n <ℤ pos 2929240) (sym is) high in
    let kept : to_z w64 (of_z w64 day) ≡ day = kept_small day (omega (arith, signed_arith, low)) (omega (arith, signed_arith, h)) in
    subst (λ (n : ℤ). n <ℤ pos 2929240) (sym kept) h

ms_is : (y d h m : ℕ) (day ms : ℤ) → day ≡ gps_year_day y d → neg_ℤ (pos 4375244) ≤ℤ day → day <ℤ pos 2929240
    → ms ≡ pos 86400000 *ℤ to_z w64 (of_z w64 day) +ℤ pos ((h * 60 + m) * 60000) → ms ≡ ms_of_minute y d h m
ms_is y d h m day ms is low high value =
    let kept : to_z w64 (of_z w64 day) ≡ day = kept_small day (omega (arith, signed_arith, low)) (omega (arith, signed_arith, high)) in
    value ∙ ap (λ (k : ℤ). pos 86400000 *ℤ k +ℤ pos ((h * 60 + m) * 60000)) (kept ∙ is)

ms_kept : (ms : ℤ) → neg_ℤ (pos 378021081600000) ≤ℤ ms → ms <ℤ pos 253086336000000 → to_z w64 (of_z w64 ms) ≡ ms
ms_kept ms low high = kept_small ms (omega (arith, signed_arith, low)) (omega (arith, signed_arith, high))

pub ms_late : (y d h m : ℕ) (day ms : ℤ) → 1 ≤ d → d ≤ days_in_year (pos y) → h ≤ 23 → m ≤ 59 → day ≡ gps_year_day y d → neg_ℤ (pos 4375244) ≤ℤ day → day <ℤ pos 2929240
    → ms ≡ pos 86400000 *ℤ to_z w64 (of_z w64 day) +ℤ pos ((h * 60 + m) * 60000) → neg_ℤ (pos 378021081600000) ≤ℤ ms → ms <ℤ pos 253086336000000
    → int_lt (to_z w64 (of_z w64 ms)) (pos 0) ≡ false → Ok (to_z w64 (of_z w64 ms)) ≡ day_ms_of y d h m
ms_late y d h m day ms a b e f is low high value ms_low ms_high test =
    let kept : to_z w64 (of_z w64 ms) ≡ ms = ms_kept ms ms_low ms_high in
    let t : int_lt ms (pos 0) ≡ false = subst (λ (z : ℤ). int_lt z (pos 0) ≡ false) kept test in
    let l : pos 0 ≤ℤ ms = omega (arith, signed_arith, t) in
    ap (λ (z : ℤ). Ok z) kept ∙ day_late y d h m ms a b (omega (arith, e)) (omega (arith, f)) (ms_is y d h m day ms is low high value) l

pub ms_early : (y d h m : ℕ) (day ms : ℤ) → 1 ≤ d → d ≤ days_in_year (pos y) → h ≤ 23 → m ≤ 59 → day ≡ gps_year_day y d → neg_ℤ (pos 4375244) ≤ℤ day → day <ℤ pos 2929240
    → ms ≡ pos 86400000 *ℤ to_z w64 (of_z w64 day) +ℤ pos ((h * 60 + m) * 60000) → neg_ℤ (pos 378021081600000) ≤ℤ ms → ms <ℤ pos 253086336000000
    → int_lt (to_z w64 (of_z w64 ms)) (pos 0) ≡ true → Err BeforeEpoch ≡ day_ms_of y d h m
ms_early y d h m day ms a b e f is low high value ms_low ms_high test =
    let kept : to_z w64 (of_z w64 ms) ≡ ms = ms_kept ms ms_low ms_high in
    let t : int_lt ms (pos 0) ≡ true = subst (λ (z : ℤ). int_lt z (pos 0) ≡ true) kept test in
    let l : ms <ℤ pos 0 = omega (arith, signed_arith, t) in
    day_early y d h m ms a b (omega (arith, e)) (omega (arith, f)) (ms_is y d h m day ms is low high value) l

-- a date by its place in its year
first_day : (y : ℤ) (m d : ℕ) → 1 ≤ d → 1 ≤ day_of_year y m d
first_day y m d first = omega (arith, first)

days_are_of_their_date : (d : CivilDate) → IsInCalendar d → gps_year_day d.year (year_day d) ≡ gps_day d
days_are_of_their_date d there =
    let new = days_from_civil-day_count (pos d.year) 1 1 in
    let own = days_from_civil-day_count (pos d.year) d.month d.day in
    let place = day_count-day_of_year (pos d.year) d.month d.day there.2.0 in
    let first = first_day (pos d.year) d.month d.day there.2.0 in
    omega (arith, signed_arith, new, own, place, first)

pub minutes_of_year : (c : CivilTime) → IsWholeMinute c → is_minute c.date.year (year_day c.date) c.time.hour c.time.minute ≡ true
minutes_of_year c whole =
    let there = whole.exists.date in
    minute_there c.date.year (year_day c.date) c.time.hour c.time.minute
    (first_day (pos c.date.year) c.date.month c.date.day there.2.0)
    (day_of_year_bound (pos c.date.year) c.date.month c.date.day there)
    whole.exists.time.hour whole.exists.time.minute

pub minutes_of_date : (c : CivilTime) → IsWholeMinute c → ms_of_minute c.date.year (year_day c.date) c.time.hour c.time.minute ≡ ms_since_epoch c
minutes_of_date c whole =
    let time : (c.time.hour * 60 + c.time.minute) * 60000 ≡ ms_of_day c.time = omega (arith, whole.second, whole.millisecond) in
    ap (λ (k : ℤ). pos 86400000 *ℤ k +ℤ pos ((c.time.hour * 60 + c.time.minute) * 60000)) (days_are_of_their_date c.date whole.exists.date)
    ∙ ap (λ n. pos 86400000 *ℤ gps_day c.date +ℤ pos n) time
