-- The hours below a band, one after another.
use Rattle.std.proofs.Common.{◌≡◌, ◌∙◌, sym, ap, ℕ, suc, ◌+◌, ◌-◌, ◌/◌, ◌≤◌, ℤ, pos, ◌<ℤ◌, ◌++◌, append_assoc, Result, arith}
use Rattle.std.specs.Prelude.{unsigned_abs, OnOk}
use Rattle.jiff_core.proofs.SignedLemmas.{signed_arith}
use Rattle.gps_week.proofs.CastLemmas.{unsigned_abs-not_negative}
use Rattle.raim_model.specs.declared.span.Span.{Span}
use Rattle.report_chart.proofs.TextLemmas.{ends}
use Rattle.text_lines.specs.Lines.{Text}
use Rattle.report_chart.specs.Clock.{hour_ms}
use Rattle.report_chart.specs.Hours.{hour_from, hour_until, hour_mark, hour_marks, IsFlightSpan}

-- one more hour
pub hour_step : (span : Span) (from hour : ℕ) (t0 a t1 t2 : Text) → from ≤ hour → t1 ≡ t0 ++ (a ++ hour_marks span from (hour - from)) → t2 ≡ t1 ++ hour_mark span hour
    → t2 ≡ t0 ++ (a ++ hour_marks span from (hour + 1 - from))
hour_step span from hour t0 a t1 t2 after p q =
    let next : hour + 1 - from ≡ suc (hour - from) = omega arith in
    let same : from + (hour - from) ≡ hour = omega arith in
    let more : hour_marks span from (hour + 1 - from) ≡ hour_marks span from (hour - from) ++ hour_mark span hour =
    ap (hour_marks span from) next ∙ ap (λ (h : ℕ). hour_marks span from (hour - from) ++ hour_mark span h) same in
    q ∙ ap (λ t. t ++ hour_mark span hour) p ∙ append_assoc t0 (a ++ hour_marks span from (hour - from)) (hour_mark span hour)
    ∙ ap (λ t. t0 ++ t) (append_assoc a (hour_marks span from (hour - from)) (hour_mark span hour) ∙ ap (λ t. a ++ t) (sym more))

-- the first hour is at most one behind the last
pub hours_meet : (span : Span) → IsFlightSpan span → hour_from span.first ≤ hour_until span.end + 1
hours_meet span is =
    let first : pos (unsigned_abs span.first) ≡ span.first = unsigned_abs-not_negative span.first is.epoch in
    let end : pos (unsigned_abs span.end) ≡ span.end = unsigned_abs-not_negative span.end (omega (arith, signed_arith, is.epoch, is.forward)) in
    meet (unsigned_abs span.first) (unsigned_abs span.end) span.first span.end first end is.forward
  where
    meet : (a b : ℕ) (first end : ℤ) → pos a ≡ first → pos b ≡ end → first <ℤ end → (a + (hour_ms - 1)) / hour_ms ≤ b / hour_ms + 1
    meet a b first end p q forward =
        let below : a ≤ b = omega (arith, signed_arith, p, q, forward) in
        omega arith

-- all hours, and what stands behind them
pub hours_end : {T E : Type 0} (r : Result T E) (span : Span) (until hour : ℕ) (t0 a t1 t2 b : Text) → until ≡ hour_until span.end → hour ≡ until + 1
    → t1 ≡ t0 ++ (a ++ hour_marks span (hour_from span.first) (hour - hour_from span.first)) → OnOk r (t2 ≡ t1 ++ b)
    → OnOk r (t2 ≡ t0 ++ (a ++ hour_marks span (hour_from span.first) (hour_until span.end + 1 - hour_from span.first) ++ b))
hours_end r span until hour t0 a t1 t2 b p q so_far rest =
    let all : hour ≡ hour_until span.end + 1 = q ∙ ap (λ (n : ℕ). n + 1) p in
    ends r t0 t1 t2 (a ++ hour_marks span (hour_from span.first) (hour_until span.end + 1 - hour_from span.first)) b
    (so_far ∙ ap (λ (h : ℕ). t0 ++ (a ++ hour_marks span (hour_from span.first) (h - hour_from span.first))) all) rest
