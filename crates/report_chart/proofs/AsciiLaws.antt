-- A page is ASCII.
use Rattle.std.proofs.Common.{◌≡◌, refl, sym, subst, ℕ, zero, suc, ◌+◌, ◌*◌, ◌/◌, ◌%◌, ◌-◌, ◌^◌, ◌≤◌, ◌<◌, ℤ, pos, ◌≤ℤ◌, ◌<ℤ◌, ◌+ℤ◌, ◌-ℤ◌, List, [], ◌∷◌, ◌++◌, length, Option, Some, None, Bool, true, false, arith}
use Rattle.std.specs.Prelude.{All, codes, decimal, nat_lt, ◌==◌, ◌&&◌, max, MatchOption, IfSome, unsigned_abs, if◌then◌else◌}
use Rattle.std.specs.List.{flat_map, list_any, fold}
use Rattle.std.specs.Str.{IsAscii}
use Rattle.std.proofs.lemmas.Str.{IsAscii-append}
use Rattle.std.proofs.lemmas.Str.Ascii.{IsAscii-nil}
use Rattle.std.proofs.lemmas.Fmt.{IsAscii-decimal}
use Rattle.std.proofs.lemmas.Bool.Decides.{nat_tests}
use Rattle.std.proofs.lemmas.List.Elements.{All-nil, All-cons, All-head, All-tail, All-weaker, All-filter}
use Rattle.std.proofs.lemmas.List.Sums.{count_by-le-length, length-filter}
use Rattle.gps_week.specs.TimeText.{two_digits, three_digits}
use Rattle.gps_week.specs.GpsTime.{SpellsInstant}
use Rattle.gps_week.proofs.TextLemmas.{text_of-IsAscii}
use Rattle.raim_model.specs.Constants.{day_ms}
use Rattle.raim_model.specs.declared.verdict.Why.{Why}
use Rattle.raim_model.specs.declared.verdict.Why.TheVariants as why
use Rattle.raim_model.specs.declared.verdict.Cmp.{Cmp}
use Rattle.raim_model.specs.declared.verdict.Cmp.TheVariants as cmp
use Rattle.raim_model.specs.declared.verdict.Verdict.{Verdict}
use Rattle.raim_model.specs.declared.verdict.Verdict.TheVariants as verdict
use Rattle.raim_model.specs.declared.verdict.Run.{Run}
use Rattle.raim_model.specs.declared.span.Span.{Span}
use Rattle.text_lines.specs.Lines.{Text}
use Rattle.report_text.specs.Report.{prn_text, prns_of, IsPrn, IsReadable}
use Rattle.report_chart.specs.declared.kind.Kind.{Kind}
use Rattle.report_chart.specs.declared.kind.Kind.TheVariants.{Available, Unavailable, Undecided}
use Rattle.report_chart.specs.declared.chart.Chart.{Chart}
use Rattle.report_chart.specs.declared.chart.Chart.TheVariants as chart
use Rattle.report_chart.specs.declared.chart.Row.{Row}
use Rattle.report_chart.specs.declared.chart.Row.TheVariants as row
use Rattle.report_chart.specs.Chart.{span_of, AreRunsOf, IsRow, IsChart}
use Rattle.report_chart.specs.Clock.{hour_ms, in_hour_text, clock_text, lasting_text}
use Rattle.report_chart.specs.Kinds.{kind_of, has_kind, word_of, class_of}
use Rattle.report_chart.specs.Band.{band_units, ms_between, ms_of_run, place, width, bar, band, IsWithin}
use Rattle.report_chart.specs.Hours.{hour_from, hour_until, hour_marks, hours, IsFlightSpan}
use Rattle.report_chart.specs.Totals.{runs_of, ms_of, total_row, totals, IsShort, AreCountable}
use Rattle.report_chart.specs.Reasons.{why_words, slope_words, without, cmp_words, reason_words}
use Rattle.report_chart.specs.Gaps.{is_gap, gaps_of, longest_of, length_cell, gap_row, advice, gaps_text}
use Rattle.report_chart.specs.Refused.{escaped_byte}
use Rattle.report_chart.specs.Laws.{IsPlain, HasFewRoutes, PagesAreAscii}
use Rattle.report_chart.proofs.BarLaws.{between, place_end, place_rises}
use Rattle.report_chart.proofs.FlightLemmas.{rises, all_within, countable, flight_span}
use Rattle.report_chart.proofs.PageLaws.{whole_hours}
use Rattle.report_chart.proofs.ReasonLaws.{plain}
use Rattle.report_chart.proofs.TotalLaws.{times_add_up}
use Rattle.jiff_core.proofs.SignedLemmas.{signed_arith}
use Rattle.report_chart.specs.Head.{page_head}
use Rattle.report_chart.specs.Page.{IsSentence, details, ShowsRuns, ShowsRow, ShowsRows, ShowsChart}

-- a text that is ASCII
record Ascii (text : Text) : Type 0 where
  each : IsAscii text

plus : {a b : Text} → Ascii a → Ascii b → Ascii (a ++ b)
plus {a} {b} p q = record { each = IsAscii-append a b p.each q.each }

none : Ascii []
none = record { each = IsAscii-nil }

more : (b : ℕ) (bs : Text) → b < 128 → Ascii bs → Ascii (b ∷ bs)
more b bs low rest = record { each = each }
  where
    each : IsAscii (b ∷ bs)
    each zero = low
    each (suc i) = rest.each i

-- as a test
abbrev are_ascii : Text → Bool
are_ascii [] = true
are_ascii (b ∷ bs) = nat_lt b 128 && are_ascii bs

both : (p q : Bool) → (p && q) ≡ true → (p ≡ true) × (q ≡ true)
both true true e = (refl, refl)
both true false e = let no = e in cc
both false q e = let no = e in cc

low_byte : (b : ℕ) → nat_lt b 128 ≡ true → b < 128
low_byte b e = grind (arith, nat_tests)

lit : (text : Text) → are_ascii text ≡ true → Ascii text
lit [] e = none
lit (b ∷ bs) e = let parts = both (nat_lt b 128) (are_ascii bs) e in more b bs (low_byte b parts.0) (lit bs parts.1)

flat : {X : Type 0} (f : X → Text) (xs : List X) → All (λ x. Ascii (f x)) xs → Ascii (flat_map f xs)
flat f [] all = none
flat f (x ∷ xs) all = plus (All-head (λ x. Ascii (f x)) x xs all) (flat f xs (All-tail (λ x. Ascii (f x)) x xs all))

-- numbers
number : (n : ℕ) → n < 2 ^ 64 → Ascii (decimal n)
number n few = record { each = IsAscii-decimal n few }

two : (n : ℕ) → n < 100 → Ascii (two_digits n)
two n low = more (48 + n / 10) _ (omega arith) (more (48 + n % 10) [] (omega arith) none)

three : (n : ℕ) → n < 1000 → Ascii (three_digits n)
three n low = more (48 + n / 100) _ (omega arith) (two (n % 100) (omega arith))

in_hour : (ms : ℕ) → Ascii (in_hour_text ms)
unfolding in_hour_text
in_hour ms =
    plus (plus (plus (plus (plus (lit (codes ":") refl) (two (ms / 60000 % 60) (omega arith))) (lit (codes ":") refl)) (two (ms / 1000 % 60) (omega arith))) (lit (codes ".") refl)) (three (ms % 1000) (omega arith))

clock : (t : ℤ) → Ascii (clock_text t)
unfolding clock_text
clock t = plus (two (unsigned_abs t / hour_ms % 24) (omega arith)) (in_hour (unsigned_abs t))

lasting : (ms : ℕ) → ms < 2 ^ 64 → Ascii (lasting_text ms)
unfolding lasting_text
lasting ms few = plus (number (ms / hour_ms) (omega (arith, few))) (in_hour ms)

word : (kind : Kind) → Ascii (word_of kind)
word Available = lit (codes "Available") refl
word Unavailable = lit (codes "Unavailable") refl
word Undecided = lit (codes "Undecided") refl

class : (kind : Kind) → Ascii (class_of kind)
class Available = lit (codes "a") refl
class Unavailable = lit (codes "u") refl
class Undecided = lit (codes "d") refl

-- the band
places : (span : Span) (run : Run) → IsWithin span run → (place span run.first ≤ band_units) × (width span run ≤ band_units)
places span run is =
    let forward : span.first <ℤ span.end = omega (arith, signed_arith, is.after, is.forward, is.before) in
    let end = place_rises span run.end span.end forward (omega (arith, signed_arith, is.after, is.forward)) is.before in
    let first = place_rises span run.first run.end forward is.after (omega (arith, signed_arith, is.forward)) in
    (omega (arith, first, end, place_end span forward), omega (arith, end, place_end span forward))

one_bar : (span : Span) (run : Run) → IsWithin span run → Ascii (bar span run)
one_bar span run is =
    let kind = kind_of run.verdict in
    let small = places span run is in
    plus (plus (plus (plus (plus (plus (lit (codes "<li class=") refl) (class kind)) (lit (codes " style=--x:") refl)) (number (place span run.first) (omega (arith, small.0)))) (lit (codes ";--w:") refl)) (number (width span run) (omega (arith, small.1))))
    (plus (plus (plus (plus (plus (plus (lit (codes " title=\"") refl) (clock run.first)) (lit (codes " to ") refl)) (clock run.end)) (lit (codes " ") refl)) (word kind)) (lit (codes "\">\n") refl))

bars : (span : Span) (runs : List Run) → All (IsWithin span) runs → Ascii (band span runs)
bars span runs within =
    plus (plus (lit (codes "<ul class=band>\n") refl) (flat (bar span) runs (All-weaker (IsWithin span) (λ run. Ascii (bar span run)) (one_bar span) runs within))) (lit (codes "</ul>\n") refl)

-- the hours
marks : (span : Span) (hour n : ℕ) → ((k : ℕ) → k < n → place span (pos (hour_ms * (hour + k))) ≤ band_units) → Ascii (hour_marks span hour n)
marks span hour zero small = none
marks span hour (suc n) small =
    plus (marks span hour n (λ k below. small k (omega (arith, below))))
    (plus (plus (plus (plus (lit (codes "<li style=--x:") refl) (number (place span (pos (hour_ms * (hour + n)))) (omega (arith, small n (omega arith))))) (lit (codes ">") refl)) (two ((hour + n) % 24) (omega arith))) (lit (codes "\n") refl))

hour_text : (span : Span) → IsFlightSpan span → Ascii (hours span)
hour_text span is =
    plus (plus (lit (codes "<ol class=hours>\n") refl) (marks span (hour_from span.first) (hour_until span.end + 1 - hour_from span.first) small)) (lit (codes "</ol>\n<p class=utc>hours of UTC\n") refl)
  where
    small : (k : ℕ) → k < hour_until span.end + 1 - hour_from span.first → place span (pos (hour_ms * (hour_from span.first + k))) ≤ band_units
    small k below =
        let h : ℕ = hour_from span.first + k in
        let within = (whole_hours span h is).0 (omega arith, omega (arith, below)) in
        subst (λ (n : ℕ). place span (pos (hour_ms * h)) ≤ n) (place_end span is.forward) (place_rises span (pos (hour_ms * h)) span.end is.forward within.0 within.1)

-- the totals
row_text : (name : Text) (runs ms : ℕ) → Ascii name → runs < 2 ^ 64 → ms < 2 ^ 64 → Ascii (total_row name runs ms)
row_text name runs ms named few short =
    plus (plus (plus (plus (plus (plus (lit (codes "<tr><td>") refl) named) (lit (codes "<td>") refl)) (number runs few)) (lit (codes "<td>") refl)) (lasting ms short)) (lit (codes "\n") refl)

total_text : (span : Span) (runs : List Run) → AreCountable runs → ms_between span.first span.end ≤ day_ms
    → ms_of Available runs + ms_of Unavailable runs + ms_of Undecided runs ≡ ms_between span.first span.end → Ascii (totals span runs)
total_text span runs countable short sum =
    plus (plus (plus (plus (plus (lit (codes "<table>\n<tr><th>Kind<th>Runs<th>Time\n") refl)
    (row_text (word_of Available) (runs_of Available runs) (ms_of Available runs) (word Available) (few Available) (omega (arith, sum, short))))
    (row_text (word_of Unavailable) (runs_of Unavailable runs) (ms_of Unavailable runs) (word Unavailable) (few Unavailable) (omega (arith, sum, short))))
    (row_text (word_of Undecided) (runs_of Undecided runs) (ms_of Undecided runs) (word Undecided) (few Undecided) (omega (arith, sum, short))))
    (row_text (codes "Whole flight") (length runs) (ms_between span.first span.end) (lit (codes "Whole flight") refl) (omega (arith, countable.few)) (omega (arith, short))))
    (lit (codes "</table>\n") refl)
  where
    few : (kind : Kind) → runs_of kind runs < 2 ^ 64
    few kind = omega (arith, count_by-le-length (has_kind kind) runs, countable.few)

-- the table
prn : (n : ℕ) → IsPrn n → Ascii (prn_text n)
prn n is = go (nat_lt n 100) refl
  where
    go : (b : Bool) → nat_lt n 100 ≡ b → Ascii (if b then two_digits n else three_digits n)
    go true e = two n (omega (arith, is.1))
    go false e = three n (omega (arith, is.1))

why_text : (w : Why) → Ascii (why_words w)
why_text why.Few = lit (codes "too few satellites") refl
why_text why.Singular = lit (codes "geometry") refl
why_text why.Slope = lit (codes "slope") refl

left_out : (n : ℕ) → IsPrn n → Ascii (without n)
left_out n is = plus (lit (codes " without PRN ") refl) (prn n is)

slope_text : (n : ℕ) → IsPrn n → Ascii (slope_words n)
slope_text n is = plus (lit (codes "slope of PRN ") refl) (prn n is)

cmp_text : (c : Cmp) → All IsPrn (prns_of (verdict.Undecided c)) → Ascii (cmp_words c)
cmp_text (cmp.Mask n) all = plus (plus (lit (codes "PRN ") refl) (prn n (All-head IsPrn n [] all))) (lit (codes " at the mask") refl)
cmp_text cmp.Det all = lit (codes "geometry") refl
cmp_text (cmp.Slope n) all = slope_text n (All-head IsPrn n [] all)
cmp_text (cmp.DetWithout left) all = plus (lit (codes "geometry") refl) (left_out left (All-head IsPrn left [] all))
cmp_text (cmp.SlopeWithout left n) all = plus (slope_text n (All-head IsPrn n [] (All-tail IsPrn left (n ∷ []) all))) (left_out left (All-head IsPrn left (n ∷ []) all))

reason : (v : Verdict) → All IsPrn (prns_of v) → Ascii (reason_words v)
reason verdict.Available all = none
reason (verdict.Unavailable w) all = why_text w
reason (verdict.Undecided c) all = cmp_text c all
reason (verdict.Overflow n) all = none

-- a run whose row is ASCII
record IsTold (run : Run) : Type 0 where
  short : IsShort run
  readable : IsReadable run

cell : (longest ms : ℕ) → ms < 2 ^ 64 → Ascii (length_cell longest ms)
cell longest ms few = plus (go (ms == longest)) (lasting ms few)
  where
    go : (b : Bool) → Ascii (if b then codes "<th>" else codes "<td>")
    go true = lit (codes "<th>") refl
    go false = lit (codes "<td>") refl

one_row : (longest : ℕ) (run : Run) → IsTold run → Ascii (gap_row longest run)
one_row longest run is =
    plus (plus (plus (plus (plus (lit (codes "<tr><td>") refl) (clock run.first)) (lit (codes "<td>") refl)) (clock run.end)) (cell longest (ms_of_run run) (omega (arith, is.short))))
    (plus (plus (plus (plus (lit (codes "<td>") refl) (word (kind_of run.verdict))) (lit (codes "<td>") refl)) (reason run.verdict is.readable.prns)) (lit (codes "\n") refl))

carried_short : (m : ℕ) (runs : List Run) → m ≤ day_ms → All IsShort runs → fold (λ ms run. max ms (ms_of_run run)) m runs ≤ day_ms
carried_short m [] low short = low
carried_short m (run ∷ rest) low short = carried_short (max m (ms_of_run run)) rest (omega (arith, low, All-head IsShort run rest short)) (All-tail IsShort run rest short)

advised : (gaps : List Run) → Ascii (advice gaps)
advised gaps = go (list_any (has_kind Undecided) gaps)
  where
    go : (b : Bool) → Ascii (if b then codes "<p>Count undecided times as not available: there the evaluation cannot tell.\n" else [])
    go true = lit (codes "<p>Count undecided times as not available: there the evaluation cannot tell.\n") refl
    go false = none

gap_text : (gaps : List Run) → length gaps ≤ day_ms → All IsTold gaps → Ascii (gaps_text gaps)
gap_text [] few told = lit (codes "<p>The whole flight is Available.\n") refl
gap_text (gap ∷ gaps) few told =
    let all : List Run = gap ∷ gaps in
    let longest : longest_of all ≤ day_ms = carried_short 0 all (omega arith) (All-weaker IsTold IsShort (λ run is. is.short) all told) in
    plus (plus (plus (plus (plus (plus (lit (codes "<p>Runs that are not Available: ") refl) (number (length all) (omega (arith, few)))) (lit (codes ". The longest lasts ") refl)) (lasting (longest_of all) (omega (arith, longest)))) (lit (codes ".\n") refl))
    (advised all))
    (plus (plus (lit (codes "<table class=gaps>\n<tr><th>Start<th>End<th>Length<th>Kind<th>Reason\n") refl) (flat (gap_row (longest_of all)) all (All-weaker IsTold (λ run. Ascii (gap_row (longest_of all) run)) (one_row (longest_of all)) all told))) (lit (codes "</table>\n") refl))

-- a flight
time : (text : Text) (t : ℤ) → SpellsInstant text 0 t → Ascii text
time text t is = subst Ascii (sym is.spelled.spelled) (record { each = text_of-IsAscii is.civil is.spelled.date is.spelled.time })

sentence_text : (span : Span) (text : Text) → IsSentence span text → Ascii text
sentence_text span text is =
    subst Ascii (sym is.spelled)
    (plus (plus (plus (plus (lit (codes "<p>From <time>") refl) (time is.first span.first is.starts)) (lit (codes "</time> to <time>") refl)) (time is.end span.end is.ends)) (lit (codes "</time>.\n") refl))

told : (span : Span) (runs : List Run) → AreRunsOf span runs → All IsTold runs
told span runs flight = go runs (countable span runs flight).short flight.readable
  where
    go : (xs : List Run) → All IsShort xs → All IsReadable xs → All IsTold xs
    go [] short readable = All-nil IsTold
    go (x ∷ xs) short readable =
        All-cons IsTold x xs (record { short = All-head IsShort x xs short; readable = All-head IsReadable x xs readable }) (go xs (All-tail IsShort x xs short) (All-tail IsReadable x xs readable))

details_text : (span : Span) (runs : List Run) → span_of runs ≡ Some span → AreRunsOf span runs → Ascii (details span runs)
details_text span runs is flight =
    let fits = countable span runs flight in
    let gaps : All IsTold (gaps_of runs) = All-filter is_gap IsTold runs (told span runs flight) in
    let fewer : length (gaps_of runs) ≤ day_ms = omega (arith, length-filter is_gap runs, count_by-le-length is_gap runs, fits.few) in
    plus (plus (plus (bars span runs (all_within span runs flight)) (hour_text span (flight_span span runs is flight))) (total_text span runs fits (whole span runs flight) (times_add_up span runs is flight)))
    (gap_text (gaps_of runs) fewer gaps)
  where
    whole : (span : Span) (runs : List Run) → AreRunsOf span runs → ms_between span.first span.end ≤ day_ms
    whole span runs flight = go (ms_between span.first span.end) span.first span.end (between span.first span.end (rises span.first span.end runs flight.follow)) flight.short
      where
        go : (n : ℕ) (first end : ℤ) → pos n ≡ end -ℤ first → end ≤ℤ (first +ℤ pos day_ms) → n ≤ day_ms
        go n first end e p = omega (arith, signed_arith, e, p)

flight_text : (runs : List Run) (span : Option Span) (text : Text) → span ≡ span_of runs → IfSome span (λ s. AreRunsOf s runs)
    → MatchOption span (text ≡ codes "<p>The report has no runs.\n") (λ s. ShowsRuns runs s text) → Ascii text
flight_text runs None text is flight shows = subst Ascii (sym shows) (lit (codes "<p>The report has no runs.\n") refl)
flight_text runs (Some span) text is flight shows = subst Ascii (sym shows.spelled) (plus (sentence_text span shows.sentence shows.is_sentence) (details_text span runs (sym is) flight))

-- routes
plain_ascii : (line : Text) → All IsPlain line → Ascii line
plain_ascii [] plain = none
plain_ascii (b ∷ line) plain = more b line (omega (arith, (All-head IsPlain b line plain).until)) (plain_ascii line (All-tail IsPlain b line plain))

route : (r : Row) (text : Text) → IsRow r → ShowsRow r text → Ascii text
route (row.Flight runs) text is shows = flight_text runs.items (span_of runs.items) text refl is shows
route (row.Reason line) text is shows =
    subst Ascii (sym shows) (plus (plus (lit (codes "<p>") refl) (plain_ascii (flat_map escaped_byte line.items) (plain line.items))) (lit (codes "\n") refl))

routes : (n : ℕ) (rows : List Row) (text : Text) → n + length rows < 2 ^ 64 → All IsRow rows → ShowsRows n rows text → Ascii text
routes n [] text few is shows = subst Ascii (sym shows) none
routes n (r ∷ rs) text few is shows =
    subst Ascii (sym shows.4)
    (plus (plus (plus (plus (lit (codes "<h2>Route ") refl) (number n (omega (arith, few)))) (lit (codes "</h2>\n") refl)) (route r shows.0 (All-head IsRow r rs is) shows.2))
    (routes (n + 1) rs shows.1 (omega (arith, few)) (All-tail IsRow r rs is) shows.3))

body_text : (c : Chart) (text : Text) → IsChart c → HasFewRoutes c → ShowsChart c text → Ascii text
body_text (chart.Flight runs) text is few shows = flight_text runs.items (span_of runs.items) text refl is shows
body_text (chart.Fleet rows) text is few shows = routes 1 rows.items text (omega (arith, few)) is shows

head_text : Ascii page_head
head_text = lit page_head refl

pub ascii : PagesAreAscii
ascii c text is few page = (subst Ascii (sym page.spelled) (plus head_text (body_text c page.body is few page.shows))).each
