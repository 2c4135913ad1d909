-- Laws of faults: a range has its runs, or too many, or a first overflow, and no two of these.
use Rattle.std.proofs.Common.{◌≡◌, ◌≢◌, ℕ, ◌≤◌, suc, zero, refl, ap, subst, arith, List, [], ◌∷◌, ◌++◌, length, Some, None, inl, inr, length-append}
use Rattle.std.specs.Prelude.{ℤ, unsigned_abs, pos, ◌+ℤ◌, ◌-ℤ◌, ◌≤ℤ◌, ◌<ℤ◌}
use Rattle.std.proofs.lemmas.Bool.{cases_lt}
use Rattle.std.proofs.lemmas.Int.{ints, by_lt_z}
use Rattle.raim_model.specs.declared.Run.{Run}
use Rattle.raim_model.specs.declared.Verdict.{Verdict}
use Rattle.raim_model.specs.declared.SplitFault.{SplitFault}
use Rattle.raim_model.specs.declared.SplitFault.TheVariants as fault
use Rattle.raim_model.specs.Runs.{Holds, AreRuns, IsOverflow, IsCalm, IsLimit, HasRuns, HasTooManyRuns, OverflowsFirst, FaultComes, most_runs}
use Rattle.time_laws.specs.Answers.{HasAnswer}
use Rattle.time_laws.proofs.Decide.{decide_overflow}
use Rattle.time_laws.proofs.RunLemmas.{AreRuns-on, AreRunsAfter-one, AreRunsAfter-push, Holds-one, IsCalm-join, HasRuns-none, last_verdict, ordered}

-- from any time on there are the first overflow or the end, and runs up to there
AreRuns-limit : (n : ℕ) (w : ℤ → ℤ → Verdict) (first middle end : ℤ) (runs : List Run) → middle +ℤ pos n ≡ end → AreRuns w first middle runs → IsCalm w first middle →
    (limit : ℤ) × (more : List Run) × IsLimit w first end limit × AreRuns w first limit more × (length runs ≤ length more)
AreRuns-limit zero w first middle end runs e h calm =
    (middle, runs, record { within = omega (arith, ints); calm = calm; stops = λ lt. absurd (omega (arith, ints)) }, h, omega arith)
AreRuns-limit (suc n) w first middle end runs e h calm =
    elim (decide_overflow (w middle middle)) [
      | inl over ↦ (middle, runs, record { within = omega (arith, ints); calm = calm; stops = λ lt. over }, h, omega arith)
      | inr none ↦
          let lt : middle <ℤ (middle +ℤ pos 1) = omega (arith, ints) in
          let (one, are, many) = AreRuns-on w first middle (middle +ℤ pos 1) (w middle middle) runs h lt (Holds-one w middle) in
          let (limit, more, is, all, count) = AreRuns-limit n w first (middle +ℤ pos 1) end one (omega (arith, ints)) are (IsCalm-join w first middle (middle +ℤ pos 1) (w middle middle) none calm (Holds-one w middle)) in
          (limit, more, is, all, omega arith)
    ]

-- where a run of another verdict begins behind as many runs as there may be, the runs are too many
pub TooManyRuns-comes : (w : ℤ → ℤ → Verdict) (start : ℤ) (runs : List Run) (run : Run) (end : ℤ) →
    last_verdict None runs ≢ Some run.verdict → HasRuns w start run.first runs → run.first <ℤ run.end → Holds w run.first run.end run.verdict → (IsOverflow run.verdict → ⊥) →
    length runs ≡ most_runs → run.end ≤ℤ end → HasTooManyRuns w start end
TooManyRuns-comes w start runs run end other has lt holds calm full within =
    let (limit, more, is, are, many) = AreRuns-limit (unsigned_abs (end -ℤ run.end)) w start run.end end (runs ++ run ∷ []) (omega (arith, ints)) (AreRunsAfter-push w None start runs run has.cut lt holds other) (IsCalm-join w start run.first run.end run.verdict calm has.calm holds) in
    let count = length-append runs (run ∷ []) in
    record { limit = limit; runs = more; is_limit = is; cut = are; many = omega arith }

-- the first overflow or the end is one time
IsLimit-one : (w : ℤ → ℤ → Verdict) (first end a b : ℤ) → first ≤ℤ a → first ≤ℤ b → IsLimit w first end a → IsLimit w first end b → a ≡ b
IsLimit-one w first end a b a_low b_low p q =
    let p_end = p.within in
    let q_end = q.within in
    by_lt_z a b
    (λ lt. absurd (q.calm.each a a_low lt (p.stops (omega (arith, ints)))))
    (λ le. by_lt_z b a (λ lt. absurd (p.calm.each b b_low lt (q.stops (omega (arith, ints))))) (λ ge. omega (arith, ints)))

-- a first overflow is the limit
first_overflow : (w : ℤ → ℤ → Verdict) (first end at : ℤ) (prn : ℕ) → OverflowsFirst w first end at prn → IsLimit w first end at
first_overflow w first end at prn over =
    let lt = over.within in
    record { within = omega (arith, ints); calm = over.before.calm; stops = λ _. (prn, over.here) }

pub runs-no_fault : (w : ℤ → ℤ → Verdict) (first end : ℤ) (runs : List Run) (f : SplitFault) → HasRuns w first end runs → FaultComes w first end f → f ≡ fault.Memory
runs-no_fault w first end runs fault.Memory has comes = refl
runs-no_fault w first end runs (fault.Overflow at prn) has comes =
    let low = ordered w None first at comes.runs comes.before.cut in
    absurd (has.calm.each at low comes.within (prn, comes.here))
runs-no_fault w first end runs fault.TooManyRuns has comes =
    let low = ordered w None first comes.limit comes.runs comes.cut in
    let high = ordered w None first end runs has.cut in
    let whole : IsLimit w first end end = record { within = omega (arith, ints); calm = has.calm; stops = λ lt. absurd (omega (arith, ints)) } in
    let at = IsLimit-one w first end comes.limit end low high comes.is_limit whole in
    let same = AreRunsAfter-one w None first end comes.runs runs (subst (λ (t : ℤ). AreRuns w first t comes.runs) at comes.cut) has.cut in
    let few = has.few in
    let many = comes.many in
    absurd (omega (arith, ap length same))

-- the runs before the first overflow are not both too many and not
many-overflow : (w : ℤ → ℤ → Verdict) (first end at : ℤ) (prn : ℕ) → HasTooManyRuns w first end → OverflowsFirst w first end at prn → ⊥
many-overflow w first end at prn many over =
    let low = ordered w None first many.limit many.runs many.cut in
    let high = ordered w None first at over.runs over.before.cut in
    let here = IsLimit-one w first end many.limit at low high many.is_limit (first_overflow w first end at prn over) in
    let same = AreRunsAfter-one w None first at many.runs over.runs (subst (λ (t : ℤ). AreRuns w first t many.runs) here many.cut) over.before.cut in
    let few = over.before.few in
    let more = many.many in
    omega (arith, ap length same)

pub faults-one : (w : ℤ → ℤ → Verdict) (first end : ℤ) (a b : SplitFault) → FaultComes w first end a → FaultComes w first end b → a ≢ fault.Memory → b ≢ fault.Memory → a ≡ b
faults-one w first end fault.Memory b p q m n = absurd (m refl)
faults-one w first end (fault.Overflow at prn) fault.Memory p q m n = absurd (n refl)
faults-one w first end fault.TooManyRuns fault.Memory p q m n = absurd (n refl)
faults-one w first end fault.TooManyRuns fault.TooManyRuns p q m n = refl
faults-one w first end fault.TooManyRuns (fault.Overflow at prn) p q m n = absurd (many-overflow w first end at prn p q)
faults-one w first end (fault.Overflow at prn) fault.TooManyRuns p q m n = absurd (many-overflow w first end at prn q p)
faults-one w first end (fault.Overflow at prn) (fault.Overflow at' prn') p q m n =
    let low = ordered w None first at p.runs p.before.cut in
    let low' = ordered w None first at' q.runs q.before.cut in
    let same = IsLimit-one w first end at at' low low' (first_overflow w first end at prn p) (first_overflow w first end at' prn' q) in
    let is = p.here in
    let is' = q.here in
    let prns : prn ≡ prn' = cc in
    cc

-- one of them comes
pub answer_comes : (w : ℤ → ℤ → Verdict) (first end : ℤ) → first ≤ℤ end → HasAnswer w first end
answer_comes w first end le =
    let none = HasRuns-none w first in
    let (limit, runs, is, are, many) = AreRuns-limit (unsigned_abs (end -ℤ first)) w first first end [] (omega (arith, ints)) none.cut none.calm in
    elim (cases_lt most_runs (length runs)) [
      | inl lt ↦ inr (inl (record { limit = limit; runs = runs; is_limit = is; cut = are; many = lt }))
      | inr few ↦ up_to_limit limit runs is (record { cut = are; calm = is.calm; few = few })
    ]
  where
    up_to_limit : (limit : ℤ) (runs : List Run) → IsLimit w first end limit → HasRuns w first limit runs → HasAnswer w first end
    up_to_limit limit runs is has = by_lt_z limit end
        (λ lt. let over = is.stops lt in inr (inr (limit, over.0, record { runs = runs; within = lt; here = over.1; before = has })))
        (λ ge.
        let high = is.within in
        let at : limit ≡ end = omega (arith, ints) in
        inl (runs, subst (λ (t : ℤ). HasRuns w first t runs) at has))
