-- The three kinds add up to the flight.
use Rattle.std.proofs.Common.{◌≡◌, ◌∙◌, refl, ap, ℕ, ◌+◌, ℤ, pos, ◌-ℤ◌, List, [], ◌∷◌, length, cond, arith}
use Rattle.std.proofs.lemmas.List.Sums.{sum_by-cons}
use Rattle.jiff_core.proofs.SignedLemmas.{signed_arith}
use Rattle.raim_model.specs.declared.verdict.Run.{Run}
use Rattle.raim_model.specs.declared.verdict.Verdict.{Verdict}
use Rattle.raim_model.specs.declared.verdict.Verdict.TheVariants as verdict
use Rattle.report_chart.specs.declared.kind.Kind.TheVariants.{Available, Unavailable, Undecided}
use Rattle.report_chart.specs.Kinds.{has_kind}
use Rattle.report_chart.specs.Band.{ms_between, ms_of_run}
use Rattle.report_chart.specs.Chart.{Follow}
use Rattle.report_chart.specs.Totals.{runs_of, ms_added, ms_of}
use Rattle.report_chart.specs.Laws.{RunsAddUp, TimesAddUp}
use Rattle.report_chart.proofs.FlightLemmas.{rises}
use Rattle.report_chart.proofs.BarLaws.{between}

-- a run is of one kind
one_kind : (first end : ℤ) (v : Verdict) →
    let run : Run = record { first = first; end = end; verdict = v } in
    (cond (has_kind Available run) 1 0 + cond (has_kind Unavailable run) 1 0 + cond (has_kind Undecided run) 1 0 ≡ 1)
    × (ms_added Available run + ms_added Unavailable run + ms_added Undecided run ≡ ms_of_run run)
one_kind first end verdict.Available = (omega arith, omega arith)
one_kind first end (verdict.Unavailable why) = (omega arith, omega arith)
one_kind first end (verdict.Undecided cmp) = (omega arith, omega arith)
one_kind first end (verdict.Overflow prn) = (omega arith, omega arith)

-- one more of three numbers
one_more : (a b c x y z m s d n t : ℕ) → a ≡ m + x → b ≡ s + y → c ≡ d + z → m + s + d ≡ n → x + y + z ≡ t → a + b + c ≡ n + t
one_more a b c x y z m s d n t p q r e f = omega (arith, p, q, r, e, f)

pub runs_add_up : RunsAddUp
runs_add_up [] = omega arith
runs_add_up (run ∷ more) =
    one_more (runs_of Available (run ∷ more)) (runs_of Unavailable (run ∷ more)) (runs_of Undecided (run ∷ more)) (runs_of Available more) (runs_of Unavailable more) (runs_of Undecided more)
    (cond (has_kind Available run) 1 0) (cond (has_kind Unavailable run) 1 0) (cond (has_kind Undecided run) 1 0) 1 (length more)
    (sum_by-cons (λ r. cond (has_kind Available r) 1 0) run more) (sum_by-cons (λ r. cond (has_kind Unavailable r) 1 0) run more) (sum_by-cons (λ r. cond (has_kind Undecided r) 1 0) run more)
    (one_kind run.first run.end run.verdict).0 (runs_add_up more)
    ∙ omega arith

times : (first end : ℤ) (runs : List Run) → Follow first end runs → pos (ms_of Available runs + ms_of Unavailable runs + ms_of Undecided runs) ≡ end -ℤ first
times first end [] follow = omega (arith, signed_arith, follow)
times first end (run ∷ more) follow =
    let sum = one_more (ms_of Available (run ∷ more)) (ms_of Unavailable (run ∷ more)) (ms_of Undecided (run ∷ more)) (ms_of Available more) (ms_of Unavailable more) (ms_of Undecided more)
    (ms_added Available run) (ms_added Unavailable run) (ms_added Undecided run) (ms_of_run run) (ms_of Available more + ms_of Unavailable more + ms_of Undecided more)
    (sum_by-cons (ms_added Available) run more) (sum_by-cons (ms_added Unavailable) run more) (sum_by-cons (ms_added Undecided) run more)
    (one_kind run.first run.end run.verdict).1 refl in
    ap pos sum
    ∙ total (ms_of_run run) (ms_of Available more + ms_of Unavailable more + ms_of Undecided more) run.first run.end first end
    (between run.first run.end (omega (arith, signed_arith, follow.0, follow.1))) follow.0 (times run.end end more follow.2)
  where
    total : (m n : ℕ) (start stop first end : ℤ) → pos m ≡ stop -ℤ start → start ≡ first → pos n ≡ end -ℤ stop → pos (m + n) ≡ end -ℤ first
    total m n start stop first end p q r = omega (arith, signed_arith, p, q, r)

pub times_add_up : TimesAddUp
times_add_up span runs is flight =
    let all = times span.first span.end runs flight.follow in
    let whole = between span.first span.end (rises span.first span.end runs flight.follow) in
    same (ms_of Available runs + ms_of Unavailable runs + ms_of Undecided runs) (ms_between span.first span.end) (span.end -ℤ span.first) all whole
  where
    same : (m n : ℕ) (z : ℤ) → pos m ≡ z → pos n ≡ z → m ≡ n
    same m n z p q = omega (arith, signed_arith, p, q)
