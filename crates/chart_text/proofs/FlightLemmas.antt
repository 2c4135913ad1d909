-- Runs one after another as a flight, and the first that breaks it.
use Rattle.std.proofs.Common.{◌≡◌, ◌<◌, ◌+◌, ℕ, ℤ, List, [], ◌∷◌, ◌++◌, length, take, drop, get_or, refl, sym, ap, ◌∙◌, subst, arith, suc, inl, inr}
use Rattle.std.specs.Prelude.{◌+ℤ◌, ◌≤ℤ◌, ◌<ℤ◌, pos, All}
use Rattle.std.proofs.Math.Seq.{split_at}
use Rattle.std.proofs.lemmas.Int.{ints}
use Rattle.std.proofs.lemmas.List.{take_more, length-take-le}
use Rattle.std.proofs.lemmas.List.Elements.{All-take, All-nil}
use Rattle.raim_model.specs.Constants.{day_ms}
use Rattle.raim_model.specs.declared.TextWhy.{TextWhy}
use Rattle.raim_model.specs.declared.verdict.Run.{Run}
use Rattle.text_lines.specs.Lines.{Text}
use Rattle.text_lines.specs.Reading.{number_after}
use Rattle.text_lines.proofs.ReadingLaws.{never_refused}
use Rattle.report_text.specs.Report.{IsReport, IsPrintable, IsReadable}
use Rattle.report_text.specs.ReportLines.{report_lines, pieces_of}
use Rattle.report_text.proofs.ReportLaws.{report_reads, one_meaning}
use Rattle.report_chart.specs.Chart.{IsFlight, AreRunsOf, Follow, end_after}
use Rattle.chart_text.specs.Flights.{CannotFollow, BreaksFlight, RefusesFlight}

-- runs that follow one another from a time end where the last of them ends
follow_end : (first end : ℤ) (runs : List Run) → Follow first end runs → end ≡ end_after first runs
follow_end first end [] f = sym f
follow_end first end (run ∷ runs) f = follow_end run.end end runs f.2

-- one more run
follow_more : (first end : ℤ) (runs : List Run) (run : Run) → Follow first end runs → run.first ≡ end → run.first <ℤ run.end → Follow first run.end (runs ++ run ∷ [])
follow_more first end [] run f starts forward = (starts ∙ sym f, forward, refl)
follow_more first end (r ∷ rs) run f starts forward = (f.0, f.1, follow_more r.end end rs run f.2 starts forward)

-- which rise
follow_rises : (first end : ℤ) (runs : List Run) → Follow first end runs → first ≤ℤ end
follow_rises first end [] f = subst (λ (t : ℤ). first ≤ℤ t) f (omega (arith, ints))
follow_rises first end (run ∷ runs) f = rises first run.first run.end end f.0 f.1 (follow_rises run.end end runs f.2)
  where
    rises : (a b c d : ℤ) → b ≡ a → b <ℤ c → c ≤ℤ d → a ≤ℤ d
    rises a b c d e h k = subst (λ (t : ℤ). t ≤ℤ d) e (omega (arith, ints, h, k))

-- a run among them
record Stands (end last : ℤ) (run : Run) : Type 0 where
  starts : run.first ≡ end
  within : run.end ≤ℤ last

follow_at : (first end : ℤ) (done rest : List Run) (run : Run) → Follow first end (done ++ run ∷ rest) → Stands (end_after first done) end run
follow_at first end [] rest run f = record { starts = f.0; within = follow_rises run.end end rest f.2 }
follow_at first end (r ∷ rs) rest run f = follow_at r.end end rs rest run f.2

-- no runs are a flight
pub no_flight : IsFlight []
no_flight = tt

-- runs that follow one another within a day are a flight
pub flight_of : (start end : ℤ) (runs : List Run) → Follow start end runs → end ≤ℤ (start +ℤ pos day_ms) → All (IsPrintable 0) runs → All IsReadable runs → IsFlight runs
flight_of start end [] f short printable readable = tt
flight_of start end (r ∷ rs) f short printable readable =
    let last : end ≡ end_after r.end rs = follow_end r.end end rs f.2 in
    record {
      follow = (refl, f.1, subst (λ (t : ℤ). Follow r.end t rs) last f.2);
      short = subst (λ (t : ℤ). t ≤ℤ (r.first +ℤ pos day_ms)) last (subst (λ (t : ℤ). end ≤ℤ (t +ℤ pos day_ms)) (sym f.0) short);
      printable = printable;
      readable = readable;
    }

pub flight_readable : (runs : List Run) → IsFlight runs → All IsReadable runs
flight_readable [] is = All-nil IsReadable
flight_readable (r ∷ rs) is = is.readable

-- a flight passes every test of its runs
pub flight_unbroken : (runs : List Run) (number : ℕ) (cause : TextWhy) → IsFlight runs → BreaksFlight runs number cause → ⊥
flight_unbroken runs number cause is breaks =
    let first = breaks.first in
    let all : AreRunsOf (record { first = first.first; end = end_after first.end breaks.later }) (first ∷ breaks.later) = subst IsFlight breaks.starts is in
    let stands = follow_at first.first (end_after first.end breaks.later) breaks.done breaks.rest breaks.run
    (subst (λ (rs : List Run). Follow first.first (end_after first.end breaks.later) rs) (sym breaks.starts ∙ breaks.split) all.follow) in
    clash first.first (end_after first.first breaks.done) (end_after first.end breaks.later) breaks.run stands all.short cause breaks.here
  where
    clash : (start end last : ℤ) (run : Run) → Stands end last run → last ≤ℤ (start +ℤ pos day_ms) → (w : TextWhy) → CannotFollow start end run w → ⊥
    clash start end last run s short w (inl h) = h.1 s.starts
    clash start end last run s short w (inr h) = late (start +ℤ pos day_ms) run.end last h.2 s.within short
      where
        late : (a b c : ℤ) → a <ℤ b → b ≤ℤ c → c ≤ℤ a → ⊥
        late a b c h k l = omega (arith, ints, h, k, l)

-- so the report of a flight is not refused
pub flight_passes : (runs : List Run) (text : Text) (line : ℕ) (cause : TextWhy) → IsReport 0 runs text → IsFlight runs → RefusesFlight text line cause → ⊥
flight_passes runs text line cause printed is (inl f) =
    never_refused (report_lines 0) (pieces_of text) runs line cause (report_reads 0 runs text printed (flight_readable runs is)) f
flight_passes runs text line cause printed is (inr f) =
    let same : f.0 ≡ runs = one_meaning 0 runs f.0 text printed (flight_readable runs is) f.1 f.2 in
    flight_unbroken runs line cause is (subst (λ (rs : List Run). BreaksFlight rs line cause) same f.3)

-- the runs that a check has passed, from the start of the first
pub record ArePassed (start end : ℤ) (done : List Run) : Type 0 where
  pub follow : Follow start end done
  pub short : end ≤ℤ (start +ℤ pos day_ms)

pub none_passed : (start : ℤ) → ArePassed start start []
none_passed start = record { follow = refl; short = omega (arith, ints) }

-- the runs of a report as a check takes them, one after another
module _ (runs : List Run) (start end : ℤ) (i : ℕ) (d : Run) (within : i < length runs) (passed : ArePassed start end (take i runs))
    (printable : All (IsPrintable 0) runs) (readable : All IsReadable runs) where
  pub passed_more : (get_or runs i d).first ≡ end → (get_or runs i d).end ≤ℤ (start +ℤ pos day_ms) → ArePassed start (get_or runs i d).end (take (i + 1) runs)
  passed_more starts short = record {
    follow = subst (λ (rs : List Run). Follow start (get_or runs i d).end rs) (sym (take_more runs i d within))
        (follow_more start end (take i runs) (get_or runs i d) passed.follow starts (readable i d within).forward);
    short = short;
  }

  pub broken_here : (first : Run) (later : List Run) (number : ℕ) (why : TextWhy) → runs ≡ first ∷ later → start ≡ first.first → number ≡ number_after i
      → CannotFollow start end (get_or runs i d) why → BreaksFlight runs number why
  broken_here first later number why e s n h = record {
    first = first;
    later = later;
    starts = e;
    done = take i runs;
    run = get_or runs i d;
    rest = drop (suc i) runs;
    split = split_at runs i d within;
    before = flight_of start end (take i runs) passed.follow passed.short (All-take (IsPrintable 0) i runs printable) (All-take IsReadable i runs readable);
    here = subst (λ (t : ℤ). CannotFollow first.first t (get_or runs i d) why) (follow_end start end (take i runs) passed.follow ∙ ap (λ (t : ℤ). end_after t (take i runs)) s)
        (subst (λ (t : ℤ). CannotFollow t end (get_or runs i d) why) s h);
    numbered = n ∙ ap number_after (sym (length-take-le i runs (omega (arith, within))));
  }
