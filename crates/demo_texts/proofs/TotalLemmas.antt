-- The milliseconds of runs, counted by the kind of their verdict.
use Rattle.std.proofs.Common.{◌≡◌, ◌+◌, ℕ, ℤ, pos, ◌≤ℤ◌, ◌+ℤ◌, ◌-ℤ◌, List, [], ◌∷◌, Some, refl, ap, ◌∙◌, arith}
use Rattle.std.specs.Prelude.{All}
use Rattle.std.specs.declared.option.Option.{Option}
use Rattle.std.proofs.lemmas.List.Elements.{All-cons}
use Rattle.std.proofs.lemmas.List.Sums.{sum_by-cons}
use Rattle.jiff_core.proofs.SignedLemmas.{signed_arith}
use Rattle.gps_week.proofs.CastLemmas.{unsigned_abs-not_negative}
use Rattle.raim_model.specs.Constants.{day_ms}
use Rattle.raim_model.specs.Runs.{AreRunsAfter, IsCalm, IsOverflow}
use Rattle.raim_model.specs.declared.verdict.Run.{Run}
use Rattle.raim_model.specs.declared.verdict.Verdict.{Verdict}
use Rattle.raim_model.specs.declared.verdict.Verdict.TheVariants.{Available, Unavailable, Undecided, Overflow}
use Rattle.demo_texts.specs.Summary.{is_available, is_unavailable, is_undecided, ms_of_run, ms_added, ms_of, IsWithinDay}
use Rattle.demo_texts.specs.Laws.{AreCountableWithinDay, AddUp}

-- runs do not go back
rises : (w : ℤ → ℤ → Verdict) (before : Option Verdict) (first end : ℤ) (runs : List Run) → AreRunsAfter w before first end runs → first ≤ℤ end
rises w before first end [] runs = omega (arith, signed_arith, runs)
rises w before first end (run ∷ more) runs = omega (arith, signed_arith, runs.1, rises w (Some run.verdict) run.end end more runs.4)

-- each of them ends within a day
short : (w : ℤ → ℤ → Verdict) (before : Option Verdict) (first end : ℤ) (runs : List Run) → AreRunsAfter w before first end runs → end ≤ℤ (first +ℤ pos day_ms) → All IsWithinDay runs
short w before first end [] runs day = λ k d below. absurd (omega arith)
short w before first end (run ∷ more) runs day =
    let later = rises w (Some run.verdict) run.end end more runs.4 in
    All-cons IsWithinDay run more
    (record { forward = omega (arith, signed_arith, runs.0, runs.1); short = omega (arith, signed_arith, runs.0, later, day) })
    (short w (Some run.verdict) run.end end more runs.4 (omega (arith, signed_arith, runs.1, day)))

pub countable : AreCountableWithinDay
countable w first end runs has day = record { few = has.few; short = short w _ first end runs has.cut day }

-- a verdict that is no overflow is of one kind
one_kind : (first end : ℤ) (v : Verdict) → ¬ IsOverflow v →
    let run : Run = record { first = first; end = end; verdict = v } in
    ms_added is_available run + ms_added is_unavailable run + ms_added is_undecided run ≡ ms_of_run run
one_kind first end Available calm = omega arith
one_kind first end (Unavailable why) calm = omega arith
one_kind first end (Undecided cmp) calm = omega arith
one_kind first end (Overflow prn) calm = absurd (calm (prn, refl))

-- one run more
one_more : (a b c x y z m s d t : ℕ) → a ≡ x + m → b ≡ y + s → c ≡ z + d → x + y + z ≡ t → a + b + c ≡ t + (m + s + d)
one_more a b c x y z m s d t p q r e = omega (arith, p, q, r, e)

added : (w : ℤ → ℤ → Verdict) (before : Option Verdict) (first end : ℤ) (runs : List Run) → AreRunsAfter w before first end runs → IsCalm w first end
    → pos (ms_of is_available runs + ms_of is_unavailable runs + ms_of is_undecided runs) ≡ end -ℤ first
added w before first end [] runs calm = omega (arith, signed_arith, runs)
added w before first end (run ∷ more) runs calm =
    let later = rises w (Some run.verdict) run.end end more runs.4 in
    let here : ¬ IsOverflow run.verdict = λ o. calm.each first (omega (arith, signed_arith)) (omega (arith, signed_arith, runs.1, later)) (o.0, runs.2.each first (omega (arith, signed_arith)) runs.1 ∙ o.1) in
    let one = one_kind run.first run.end run.verdict here in
    let ms : pos (ms_of_run run) ≡ run.end -ℤ run.first = unsigned_abs-not_negative (run.end -ℤ run.first) (omega (arith, signed_arith, runs.0, runs.1)) in
    let calmer : IsCalm w run.end end = record { each = λ t from until. calm.each t (omega (arith, signed_arith, runs.1, from)) until } in
    let rest = added w (Some run.verdict) run.end end more runs.4 calmer in
    let sum = one_more (ms_of is_available (run ∷ more)) (ms_of is_unavailable (run ∷ more)) (ms_of is_undecided (run ∷ more))
    (ms_added is_available run) (ms_added is_unavailable run) (ms_added is_undecided run) (ms_of is_available more) (ms_of is_unavailable more) (ms_of is_undecided more) (ms_of_run run)
    (sum_by-cons (ms_added is_available) run more) (sum_by-cons (ms_added is_unavailable) run more) (sum_by-cons (ms_added is_undecided) run more) one in
    ap pos sum ∙ total (ms_of_run run) (ms_of is_available more + ms_of is_unavailable more + ms_of is_undecided more) run.first run.end first end ms runs.0 rest
  where
    total : (m n : ℕ) (start stop first end : ℤ) → pos m ≡ stop -ℤ start → start ≡ first → pos n ≡ end -ℤ stop → pos (m + n) ≡ end -ℤ first
    total m n start stop first end p q r = omega (arith, signed_arith, p, q, r)

pub add_up : AddUp
add_up w first end runs has = added w _ first end runs has.cut has.calm
