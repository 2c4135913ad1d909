-- The span of a flight, from its first run and its last.
use Rattle.std.proofs.Common.{◌≡◌, ◌∙◌, refl, sym, ap, ℕ, ◌-◌, List, [], ◌∷◌, length, Some, arith}
use Rattle.std.specs.Prelude.{slice_get}
use Rattle.raim_model.specs.declared.verdict.Run.{Run}
use Rattle.report_chart.specs.Chart.{end_after, span_of}

-- the end of the last run
last_end : (run : Run) (more : List Run) (last : Run) → slice_get (run ∷ more) (length more) ≡ Some last → end_after run.end more ≡ last.end
last_end run [] last is = let same : run ≡ last = cc in ap (λ r. r.end) same
last_end run (r ∷ rs) last is = last_end r rs last is

pub span_is : (runs : List Run) (head last : Run) → Some head ≡ slice_get runs 0 → Some last ≡ slice_get runs (length runs - 1)
    → Some (record { first = head.first; end = last.end }) ≡ span_of runs
span_is [] head last first end = cc
span_is (run ∷ more) head last first end =
    let place : length (run ∷ more) - 1 ≡ length more = omega arith in
    let same : head ≡ run = cc in
    let until : end_after run.end more ≡ last.end = last_end run more last (sym (end ∙ ap (λ (k : ℕ). slice_get (run ∷ more) k) place)) in
    rw (same, until) refl
