-- A line of a report is read as its run, and as nothing else.
use Rattle.std.proofs.Common.{rules, ◌≡◌, ℕ, ℤ, true, not, ◌∷◌, ◌++◌, length, Option, Some, None, Result, Ok, refl, sym, ap, ap₂, ◌∙◌, arith, subst, nat_lt}
use Rattle.std.specs.Prelude.{codes, int_lt, ◌<ℤ◌}
use Rattle.std.specs.List.{list_all}
use Rattle.raim_model.specs.declared.TextWhy.{TextWhy}
use Rattle.raim_model.specs.declared.TextWhy.TheVariants.{Word, Range, NotRising}
use Rattle.raim_model.specs.declared.verdict.Verdict.{Verdict}
use Rattle.raim_model.specs.declared.verdict.Run.{Run}
use Rattle.raim_model.specs.Runs.{IsOverflow}
use Rattle.text_lines.specs.Lines.{Text}
use Rattle.text_lines.specs.Fields.{◌>>=◌, or_else}
use Rattle.text_lines.proofs.Cuts.{not_false}
use Rattle.text_lines.proofs.FieldLemmas.{bind_then, ok_is, unless_then}
use Rattle.gps_week.specs.GpsTime.{SpellsInstant}
use Rattle.gps_week.specs.TimeReading.{time_in}
use Rattle.gps_week.proofs.InstantLemmas.{one_text}
use Rattle.gps_week.proofs.TimeReadingLemmas.{instant_says, says_instant}
use Rattle.report_text.specs.Report.{verdict_text, prns_of, IsLineOf, IsReadable}
use Rattle.report_text.specs.ReportLines.{parts_of, run_of, run_of_parts, word_at, verdict_of, is_prn}
use Rattle.report_text.proofs.CutLemmas.{word_says, word_back}
use Rattle.report_text.proofs.PlainLemmas.{flat, instant_other}
use Rattle.report_text.proofs.PrnLemmas.{prns_pass, prns_are}
use Rattle.report_text.proofs.VerdictLemmas.{verdict_says, verdict_back}

-- runs have one line
pub one_line : (leap : ℕ) (run : Run) (a b : Text) → IsLineOf leap run a → IsLineOf leap run b → b ≡ a
one_line leap run a b x y =
    y.spelled
    ∙ ap₂ (λ s e. s ++ codes " " ++ e ++ codes " " ++ verdict_text run.verdict) (one_text x.start y.start leap run.first x.starts y.starts) (one_text x.end y.end leap run.end x.ends y.ends)
    ∙ sym x.spelled

-- the text of an instant is not empty
instant_some : (text : Text) (leap : ℕ) (ms : ℤ) → SpellsInstant text leap ms → nat_lt 0 (length text) ≡ true
instant_some text leap ms s = ap (λ t. nat_lt 0 (length t)) s.spelled.spelled

-- two words and a verdict are found
parts_say : (a b : Text) (v : Verdict) (line back : Text) → word_at line ≡ Some (a, back) → word_at back ≡ Some (b, verdict_text v) → verdict_of (verdict_text v) ≡ Some v → parts_of line ≡ Ok (a, b, v)
parts_say a b v line back p q r = rw p (rw q (rw r refl))

-- the order of whole numbers, as a test and as a fact
int_below : (a b : ℤ) → a <ℤ b → int_lt a b ≡ true
int_below a b h = search rules

is_below : (a b : ℤ) → int_lt a b ≡ true → a <ℤ b
is_below a b h = search rules

-- the line of a run is read as that
pub line_says : (leap : ℕ) (run : Run) (line : Text) → IsLineOf leap run line → IsReadable run → run_of leap line ≡ Ok run
line_says leap run line x r =
    let v = run.verdict in
    let back : Text = x.end ++ 32 ∷ verdict_text v in
    let first : word_at line ≡ Some (x.start, back) = ap word_at (x.spelled ∙ flat x.start x.end (verdict_text v)) ∙ word_says x.start back (instant_other 32 (omega arith) x.start leap run.first x.starts) (instant_some x.start leap run.first x.starts) in
    let second : word_at back ≡ Some (x.end, verdict_text v) = word_says x.end (verdict_text v) (instant_other 32 (omega arith) x.end leap run.end x.ends) (instant_some x.end leap run.end x.ends) in
    let parts : parts_of line ≡ Ok (x.start, x.end, v) = parts_say x.start x.end v line back first second (verdict_says v x.written r.prns) in
    ap (λ (p : Result (Text × Text × Verdict) TextWhy). p >>= run_of_parts leap) parts
    ∙ rw (instant_says x.start leap run.first x.starts) (rw (instant_says x.end leap run.end x.ends) (rw (prns_pass (prns_of v) r.prns) (rw (int_below run.first run.end r.forward) refl)))

-- what is not refused is there
or_then : {A : Type 0} (why : TextWhy) (o : Option A) (x : A) → or_else why o ≡ Ok x → o ≡ Some x
or_then why (Some y) x h = cc
or_then why None x h = cc

-- the line is two words and a verdict, with one space between them
abbrev IsParts : Text → Text × Text × Verdict → Type 0
IsParts line p = (line ≡ p.0 ++ 32 ∷ (p.1 ++ 32 ∷ verdict_text p.2)) × ¬ IsOverflow p.2

-- what is found as two words and a verdict is spelled so
parts_back : (line : Text) (p : Text × Text × Verdict) → parts_of line ≡ Ok p → IsParts line p
parts_back line p h =
    let s = bind_then (or_else Word (word_at line)) _ p h in
    let e = bind_then (or_else Word (word_at s.0.1)) _ p s.2 in
    let v = bind_then (or_else Word (verdict_of e.0.1)) _ p e.2 in
    let says = verdict_back e.0.1 v.0 (or_then Word _ v.0 v.1) in
    let start : line ≡ s.0.0 ++ 32 ∷ s.0.1 = word_back line s.0 (or_then Word _ s.0 s.1) in
    let end : s.0.1 ≡ e.0.0 ++ 32 ∷ e.0.1 = word_back s.0.1 e.0 (or_then Word _ e.0 e.1) in
    subst (IsParts line) (ok_is (s.0.0, e.0.0, v.0) p v.2)
    (start ∙ ap (λ t. s.0.0 ++ 32 ∷ t) (end ∙ ap (λ t. e.0.0 ++ 32 ∷ t) says.0), says.1)

-- the run has these two times and this verdict, and is readable
record IsRunOf (leap : ℕ) (p : Text × Text × Verdict) (run : Run) : Type 0 where
  starts : SpellsInstant p.0 leap run.first
  ends : SpellsInstant p.1 leap run.end
  verdict : run.verdict ≡ p.2
  readable : IsReadable run

-- what says a run spells its times
run_back : (leap : ℕ) (p : Text × Text × Verdict) (run : Run) → run_of_parts leap p ≡ Ok run → IsRunOf leap p run
run_back leap p run h =
    let a = bind_then (time_in leap p.0) _ run h in
    let b = bind_then (time_in leap p.1) _ run a.2 in
    let u = unless_then (not (list_all is_prn (prns_of p.2))) Range _ run b.2 in
    let w = unless_then (not (int_lt a.0 b.0)) NotRising _ run u.1 in
    subst (IsRunOf leap p) (ok_is (record { first = a.0; end = b.0; verdict = p.2 }) run w.1) (record {
      starts = says_instant p.0 leap a.0 a.1;
      ends = says_instant p.1 leap b.0 b.1;
      verdict = refl;
      readable = record { forward = is_below a.0 b.0 (not_false (int_lt a.0 b.0) w.0); prns = prns_are (prns_of p.2) (not_false (list_all is_prn (prns_of p.2)) u.0) };
    })

-- what is read as a run is its line
pub line_back : (leap : ℕ) (run : Run) (line : Text) → run_of leap line ≡ Ok run → IsLineOf leap run line × IsReadable run
line_back leap run line h =
    let b = bind_then (parts_of line) (run_of_parts leap) run h in
    let parts = parts_back line b.0 b.1 in
    let r = run_back leap b.0 run b.2 in (
      record {
        start = b.0.0;
        end = b.0.1;
        starts = r.starts;
        ends = r.ends;
        written = subst (λ (v : Verdict). ¬ IsOverflow v) (sym r.verdict) parts.1;
        spelled = parts.0 ∙ ap (λ (v : Verdict). b.0.0 ++ 32 ∷ (b.0.1 ++ 32 ∷ verdict_text v)) (sym r.verdict) ∙ sym (flat b.0.0 b.0.1 (verdict_text run.verdict));
      },
      r.readable,
    )
