-- Runs cover their span in order.
use Rattle.std.specs.Prelude.{◌≡◌, ◌≢◌, zero, suc, ℕ, ◌<◌, ℤ, ◌≤ℤ◌, ◌<ℤ◌, List, [], ◌∷◌, ◌++◌, All, length, slice_index_or, Some, None}
use Rattle.std.specs.declared.option.Option.{Option}
use Rattle.std.proofs.Common.{arith, ap, sym, subst, ◌∙◌}
use Rattle.std.proofs.lemmas.Int.{ints}
use Rattle.raim_model.specs.declared.span.Span.{Span}
use Rattle.raim_model.specs.declared.verdict.Run.{Run}
use Rattle.raim_model.specs.declared.verdict.Verdict.{Verdict}
use Rattle.raim_model.specs.Runs.{Holds, AreRuns, AreRunsAfter, IsCalm}
use Rattle.time_laws.proofs.RunLemmas.{ordered}
use Rattle.flight_forecast.specs.InOrder.{CoverInOrder, IsWithin}

-- where the runs behind the first ones start, with the verdict before them
record Behind (w : ℤ → ℤ → Verdict) (end : ℤ) (rest : List Run) : Type 0 where
  before : Option Verdict
  from : ℤ
  runs : AreRunsAfter w before from end rest

behind : (w : ℤ → ℤ → Verdict) (before : Option Verdict) (first end : ℤ) (front rest : List Run) → AreRunsAfter w before first end (front ++ rest) → Behind w end rest
behind w before first end [] rest h = record { before = before; from = first; runs = h }
behind w before first end (run ∷ front) rest h = behind w (Some run.verdict) run.end end front rest h.4

-- the first run starts where the runs do
starts : (w : ℤ → ℤ → Verdict) (first end : ℤ) (runs : List Run) (run : Run) (after : List Run) → AreRuns w first end runs → runs ≡ run ∷ after → run.first ≡ first
starts w first end runs run after h e = (subst (λ rs. AreRuns w first end rs) e h).0

-- the last run ends where the runs do
ends : (w : ℤ → ℤ → Verdict) (first end : ℤ) (runs before : List Run) (run : Run) → AreRuns w first end runs → runs ≡ before ++ run ∷ [] → run.end ≡ end
ends w first end runs before run h e = (behind w None first end before (run ∷ []) (subst (λ rs. AreRuns w first end rs) e h)).runs.4

-- of two neighbours the second starts where the first ends
joins : (w : ℤ → ℤ → Verdict) (first end : ℤ) (runs before : List Run) (run next : Run) (after : List Run) → AreRuns w first end runs → runs ≡ before ++ run ∷ next ∷ after → next.first ≡ run.end
joins w first end runs before run next after h e = (behind w None first end before (run ∷ next ∷ after) (subst (λ rs. AreRuns w first end rs) e h)).runs.4.0

-- and has another verdict
differs : (w : ℤ → ℤ → Verdict) (first end : ℤ) (runs before : List Run) (run next : Run) (after : List Run) → AreRuns w first end runs → runs ≡ before ++ run ∷ next ∷ after → next.verdict ≢ run.verdict
differs w first end runs before run next after h e = λ same. (behind w None first end before (run ∷ next ∷ after) (subst (λ rs. AreRuns w first end rs) e h)).runs.4.3 (ap Some (sym same))

-- no runs have no milliseconds
some_run : (w : ℤ → ℤ → Verdict) (first end : ℤ) (runs : List Run) → first <ℤ end → AreRuns w first end runs → runs ≢ []
some_run w first end runs lt h e = let same : first ≡ end = subst (λ rs. AreRuns w first end rs) e h in let no : first <ℤ first = subst (λ t. first <ℤ t) (sym same) lt in omega (arith, ints)

pub covers : (w : ℤ → ℤ → Verdict) (span : Span) (runs : List Run) → span.first <ℤ span.end → AreRuns w span.first span.end runs → CoverInOrder span runs
covers w span runs lt h = record {
  some = some_run w span.first span.end runs lt h;
  first = λ run after e. starts w span.first span.end runs run after h e;
  last = λ before run e. ends w span.first span.end runs before run h e;
  joined = λ before run next after e. joins w span.first span.end runs before run next after h e;
  differ = λ before run next after e. differs w span.first span.end runs before run next after h e;
}

-- each run lies within the span, and none overflows
within_from : (w : ℤ → ℤ → Verdict) (span : Span) (before : Option Verdict) (first : ℤ) (runs : List Run) → IsCalm w span.first span.end → span.first ≤ℤ first → AreRunsAfter w before first span.end runs → All (IsWithin span) runs
within_from w span before first [] calm low h = λ k d p. absurd (omega arith)
within_from w span before first (run ∷ runs) calm low h =
    let e : run.first ≡ first = h.0 in
    let lt : first <ℤ run.end = h.1 in
    let le : run.end ≤ℤ span.end = ordered w (Some run.verdict) run.end span.end runs h.4 in
    let holds : Holds w first run.end run.verdict = h.2 in
    let is : w first first ≡ run.verdict = holds.each first (omega (arith, ints)) lt in
    let here : IsWithin span run = record {
      started = omega (arith, ints);
      some = omega (arith, ints);
      not_over = le;
      written = λ o. calm.each first low (omega (arith, ints)) (o.0, is ∙ o.1);
    } in
    let rest = within_from w span (Some run.verdict) run.end runs calm (omega (arith, ints)) h.4 in
    λ k d p. at k d p here rest
  where
    at : (k : ℕ) (d : Run) → k < length (run ∷ runs) → IsWithin span run → All (IsWithin span) runs → IsWithin span (slice_index_or (run ∷ runs) k d)
    at zero d p here rest = here
    at (suc k) d p here rest = rest k d (omega arith)

pub within : (w : ℤ → ℤ → Verdict) (span : Span) (runs : List Run) → IsCalm w span.first span.end → AreRuns w span.first span.end runs → All (IsWithin span) runs
within w span runs calm h = within_from w span None span.first runs calm (omega (arith, ints)) h
