-- Laws of runs: how a list of runs grows, and that a range has one list of runs.
use Rattle.std.proofs.Common.{◌≡◌, ◌≢◌, ℕ, ◌<◌, ◌≤◌, suc, zero, refl, ap, sym, subst, ◌∙◌, arith, List, [], ◌∷◌, ◌++◌, length, get_or, set, Some, None, inl, inr, length-append, length-set}
use Rattle.std.specs.Prelude.{ℤ, pos, ◌+ℤ◌, ◌≤ℤ◌, ◌<ℤ◌}
use Rattle.std.specs.declared.option.Option.{Option}
use Rattle.std.proofs.lemmas.Int.{ints, by_lt_z}
use Rattle.raim_model.specs.declared.Run.{Run}
use Rattle.raim_model.specs.declared.Verdict.{Verdict}
use Rattle.raim_model.specs.Runs.{Holds, AreRunsAfter, AreRuns, IsOverflow, IsCalm, HasRuns, most_runs}
use Rattle.time_laws.proofs.Decide.{decide_verdict}

-- a verdict that holds up to one time and on from there holds throughout
pub Holds-join : (w : ℤ → ℤ → Verdict) (first middle end : ℤ) (u v : Verdict) → u ≡ v → Holds w first middle u → Holds w middle end v → Holds w first end u
Holds-join w first middle end u v e before after =
    record { each = λ t low high. by_lt_z t middle (λ h. before.each t low h) (λ h. after.each t h high ∙ sym e) }

-- a stretch of one verdict that is no overflow adds none
pub IsCalm-join : (w : ℤ → ℤ → Verdict) (first middle end : ℤ) (v : Verdict) → (IsOverflow v → ⊥) → IsCalm w first middle → Holds w middle end v → IsCalm w first end
IsCalm-join w first middle end v calm before after =
    record { each = λ t low high. by_lt_z t middle (λ h. before.each t low h) (λ h o. calm (subst IsOverflow (after.each t h high) o)) }

-- the verdict of the last run
abbrev pub last_verdict : Option Verdict → List Run → Option Verdict
last_verdict before [] = before
last_verdict before (run ∷ runs) = last_verdict (Some run.verdict) runs

-- a run of another verdict goes on
pub AreRunsAfter-push : (w : ℤ → ℤ → Verdict) (before : Option Verdict) (first : ℤ) (runs : List Run) (run : Run) →
    AreRunsAfter w before first run.first runs → run.first <ℤ run.end → Holds w run.first run.end run.verdict → last_verdict before runs ≢ Some run.verdict →
    AreRunsAfter w before first run.end (runs ++ run ∷ [])
AreRunsAfter-push w before first [] run h lt holds other =
    (sym h, subst (λ (t : ℤ). t <ℤ run.end) (sym h) lt, subst (λ (t : ℤ). Holds w t run.end run.verdict) (sym h) holds, other, refl)
AreRunsAfter-push w before first (r ∷ runs) run h lt holds other =
    (h.0, h.1, h.2, h.3, AreRunsAfter-push w (Some r.verdict) r.end runs run h.4 lt holds other)

-- the last run takes in what follows with its verdict
pub AreRunsAfter-stretch : (w : ℤ → ℤ → Verdict) (before : Option Verdict) (first middle end : ℤ) (runs : List Run) (i : ℕ) (d : Run) →
    suc i ≡ length runs → AreRunsAfter w before first middle runs → middle <ℤ end → Holds w middle end (get_or runs i d).verdict →
    AreRunsAfter w before first end (set runs i (record (get_or runs i d) { end = end }))
AreRunsAfter-stretch w before first middle end [] i d n h lt holds = absurd (omega arith)
AreRunsAfter-stretch w before first middle end (r ∷ []) zero d n h lt holds =
    let at_end : r.end ≡ middle = h.4 in
    (h.0, omega (arith, ints), Holds-join w first middle end r.verdict r.verdict refl (subst (λ (t : ℤ). Holds w first t r.verdict) at_end h.2) holds, h.3, refl)
AreRunsAfter-stretch w before first middle end (r ∷ []) (suc i) d n h lt holds = absurd (omega arith)
AreRunsAfter-stretch w before first middle end (r ∷ s ∷ runs) zero d n h lt holds = absurd (omega arith)
AreRunsAfter-stretch w before first middle end (r ∷ s ∷ runs) (suc i) d n h lt holds =
    (h.0, h.1, h.2, h.3, AreRunsAfter-stretch w (Some r.verdict) r.end middle end (s ∷ runs) i d (omega arith) h.4 lt holds)

-- the verdict of the last run, by its place
pub last_verdict-at : (before : Option Verdict) (runs : List Run) (i : ℕ) (d : Run) → suc i ≡ length runs → last_verdict before runs ≡ Some (get_or runs i d).verdict
last_verdict-at before [] i d n = absurd (omega arith)
last_verdict-at before (r ∷ []) zero d n = refl
last_verdict-at before (r ∷ []) (suc i) d n = absurd (omega arith)
last_verdict-at before (r ∷ s ∷ runs) zero d n = absurd (omega arith)
last_verdict-at before (r ∷ s ∷ runs) (suc i) d n = last_verdict-at (Some r.verdict) (s ∷ runs) i d (omega arith)

-- runs up to a time have runs up to a later one, up to which the verdict stays, and no fewer
AreRunsAfter-on : (w : ℤ → ℤ → Verdict) (before : Option Verdict) (first middle end : ℤ) (v : Verdict) (r : Run) (runs : List Run) →
    AreRunsAfter w before first middle (r ∷ runs) → middle <ℤ end → Holds w middle end v →
    (more : List Run) × AreRunsAfter w before first end more × (length (r ∷ runs) ≤ length more)
AreRunsAfter-on w before first middle end v r [] h lt holds =
    elim (decide_verdict r.verdict v) [
      | inl e ↦ (record r { end = end } ∷ [], AreRunsAfter-stretch w before first middle end (r ∷ []) 0 r (omega arith) h lt (subst (Holds w middle end) (sym e) holds), omega arith)
      | inr n ↦ (r ∷ record { first = middle; end = end; verdict = v } ∷ [], AreRunsAfter-push w before first (r ∷ []) (record { first = middle; end = end; verdict = v }) h lt holds (λ e. n (cc)), omega arith)
    ]
AreRunsAfter-on w before first middle end v r (s ∷ runs) h lt holds =
    let (more, are, many) = AreRunsAfter-on w (Some r.verdict) r.end middle end v s runs h.4 lt holds in
    (r ∷ more, (h.0, h.1, h.2, h.3, are), omega arith)

pub AreRuns-on : (w : ℤ → ℤ → Verdict) (first middle end : ℤ) (v : Verdict) (runs : List Run) →
    AreRuns w first middle runs → middle <ℤ end → Holds w middle end v → (more : List Run) × AreRuns w first end more × (length runs ≤ length more)
AreRuns-on w first middle end v [] h lt holds =
    (record { first = middle; end = end; verdict = v } ∷ [], AreRunsAfter-push w None first [] (record { first = middle; end = end; verdict = v }) h lt holds (λ e. cc), omega arith)
AreRuns-on w first middle end v (r ∷ runs) h lt holds = AreRunsAfter-on w None first middle end v r runs h lt holds

-- one millisecond has its own verdict
pub Holds-one : (w : ℤ → ℤ → Verdict) (t : ℤ) → Holds w t (t +ℤ pos 1) (w t t)
Holds-one w t = record { each = λ s low high. let e : s ≡ t = omega (arith, ints) in ap (λ (x : ℤ). w x x) e }

-- runs of the same fields are one
same_run : (x y : Run) → x.first ≡ y.first → x.end ≡ y.end → x.verdict ≡ y.verdict → x ≡ y
same_run x y firsts ends verdicts =
    let by_first : ℤ → Run = λ t. record x { first = t } in
    let by_end : ℤ → Run = λ t. record { first = y.first; end = t; verdict = x.verdict } in
    let by_verdict : Verdict → Run = λ v. record { first = y.first; end = y.end; verdict = v } in
    ap by_first firsts ∙ ap by_end ends ∙ ap by_verdict verdicts

-- a range has one list of runs
same_end : (w : ℤ → ℤ → Verdict) (first a b end : ℤ) (u v : Verdict) (runs : List Run) → first <ℤ a → a <ℤ b → Holds w first a u → Holds w first b v → AreRunsAfter w (Some u) a end runs → (a ≡ end → ⊥) → ⊥
same_end w first a b end u v [] low lt left right h not_end = not_end h
same_end w first a b end u v (r ∷ runs) low lt left right h not_end =
    let at_first : u ≡ v = sym (left.each first (omega (arith, ints)) low) ∙ right.each first (omega (arith, ints)) (omega (arith, ints)) in
    let at_a : r.verdict ≡ v = sym (h.2.each a (omega (arith, ints)) h.1) ∙ right.each a (omega (arith, ints)) lt in
    h.3 (ap Some (at_first ∙ sym at_a))

-- runs end where their range does, or before
pub ordered : (w : ℤ → ℤ → Verdict) (before : Option Verdict) (first end : ℤ) (runs : List Run) → AreRunsAfter w before first end runs → first ≤ℤ end
ordered w before first end [] h = omega (arith, ints)
ordered w before first end (r ∷ runs) h = let rest = ordered w (Some r.verdict) r.end end runs h.4 in let lt : first <ℤ r.end = h.1 in omega (arith, ints)

pub AreRunsAfter-one : (w : ℤ → ℤ → Verdict) (before : Option Verdict) (first end : ℤ) (xs ys : List Run) → AreRunsAfter w before first end xs → AreRunsAfter w before first end ys → xs ≡ ys
AreRunsAfter-one w before first end [] [] p q = refl
AreRunsAfter-one w before first end [] (y ∷ ys) p q =
    let rest = ordered w (Some y.verdict) y.end end ys q.4 in let lt : first <ℤ y.end = q.1 in absurd (omega (arith, ints))
AreRunsAfter-one w before first end (x ∷ xs) [] p q =
    let rest = ordered w (Some x.verdict) x.end end xs p.4 in let lt : first <ℤ x.end = p.1 in absurd (omega (arith, ints))
AreRunsAfter-one w before first end (x ∷ xs) (y ∷ ys) p q =
    let x_low : first <ℤ x.end = p.1 in
    let y_low : first <ℤ y.end = q.1 in
    let x_high = ordered w (Some x.verdict) x.end end xs p.4 in
    let y_high = ordered w (Some y.verdict) y.end end ys q.4 in
    by_lt_z x.end y.end
    (λ lt. absurd (same_end w first x.end y.end end x.verdict y.verdict xs x_low lt p.2 q.2 p.4 (λ e. omega (arith, ints))))
    (λ le. by_lt_z y.end x.end
    (λ lt. absurd (same_end w first y.end x.end end y.verdict x.verdict ys y_low lt q.2 p.2 q.4 (λ e. omega (arith, ints))))
    (λ ge.
    let ends : y.end ≡ x.end = omega (arith, ints) in
    let verdicts : y.verdict ≡ x.verdict = sym (q.2.each first (omega (arith, ints)) y_low) ∙ p.2.each first (omega (arith, ints)) x_low in
    let firsts : x.first ≡ y.first = p.0 ∙ sym q.0 in
    let moved : AreRunsAfter w (Some x.verdict) x.end end ys = subst (λ (v : Verdict). AreRunsAfter w (Some v) x.end end ys) verdicts (subst (λ (t : ℤ). AreRunsAfter w (Some y.verdict) t end ys) ends q.4) in
    let rest = AreRunsAfter-one w (Some x.verdict) x.end end xs ys p.4 moved in
    let head = same_run x y firsts (sym ends) (sym verdicts) in
    cc))

module _ (w : ℤ → ℤ → Verdict) (start : ℤ) (runs : List Run) where
  -- the last run takes in what follows with its verdict
  pub HasRuns-stretch : (i : ℕ) (d run : Run) → suc i ≡ length runs → (get_or runs i d).verdict ≡ run.verdict → HasRuns w start run.first runs → run.first <ℤ run.end → Holds w run.first run.end run.verdict → (IsOverflow run.verdict → ⊥) →
      HasRuns w start run.end (set runs i (record (get_or runs i d) { end = run.end }))
  HasRuns-stretch i d run n same has lt holds calm = record {
    cut = AreRunsAfter-stretch w None start run.first run.end runs i d n has.cut lt (subst (Holds w run.first run.end) (sym same) holds);
    calm = IsCalm-join w start run.first run.end run.verdict calm has.calm holds;
    few = rw length-set has.few;
  }

  -- a run of another verdict goes on
  pub HasRuns-push : (run : Run) → last_verdict None runs ≢ Some run.verdict → HasRuns w start run.first runs → run.first <ℤ run.end → Holds w run.first run.end run.verdict → (IsOverflow run.verdict → ⊥) → length runs < most_runs →
      HasRuns w start run.end (runs ++ run ∷ [])
  HasRuns-push run other has lt holds calm room = record {
    cut = AreRunsAfter-push w None start runs run has.cut lt holds other;
    calm = IsCalm-join w start run.first run.end run.verdict calm has.calm holds;
    few = simp length-append (omega arith);
  }

-- the verdict of the last run, by its place
pub last_verdict-other : (runs : List Run) (i : ℕ) (d : Run) (v : Verdict) → suc i ≡ length runs → ((get_or runs i d).verdict ≡ v → ⊥) → last_verdict None runs ≢ Some v
last_verdict-other runs i d v n other e = let at = last_verdict-at None runs i d n in other (cc)

pub last_verdict-none : (runs : List Run) (v : Verdict) → length runs ≡ 0 → last_verdict None runs ≢ Some v
last_verdict-none [] v n e = cc
last_verdict-none (r ∷ runs) v n e = absurd (omega arith)

-- before the first millisecond there are no runs
pub HasRuns-none : (w : ℤ → ℤ → Verdict) (first : ℤ) → HasRuns w first first []
HasRuns-none w first = record { cut = refl; calm = record { each = λ t low high. absurd (omega (arith, ints)) }; few = omega arith }
