-- Runs that cover a span of time in order.
use Rattle.std.specs.Prelude.{◌≡◌, ◌≢◌, ◌≤ℤ◌, ◌<ℤ◌, List, [], ◌∷◌, ◌++◌}
use Rattle.raim_model.specs.declared.span.Span.{Span}
use Rattle.raim_model.specs.declared.verdict.Run.{Run}
use Rattle.raim_model.specs.Runs.{IsOverflow}

-- the runs cover the milliseconds of the span, one after another
pub record CoverInOrder (span : Span) (runs : List Run) : Type 0 where
  pub some : runs ≢ []
  -- the first run starts with the span, and the last ends with it
  pub first : (run : Run) (after : List Run) → runs ≡ run ∷ after → run.first ≡ span.first
  pub last : (before : List Run) (run : Run) → runs ≡ before ++ run ∷ [] → run.end ≡ span.end
  -- each run starts where the run before it ends, and has another verdict
  pub joined : (before : List Run) (run next : Run) (after : List Run) → runs ≡ before ++ run ∷ next ∷ after → next.first ≡ run.end
  pub differ : (before : List Run) (run next : Run) (after : List Run) → runs ≡ before ++ run ∷ next ∷ after → next.verdict ≢ run.verdict

-- the run has some milliseconds, all within the span, and its verdict is no overflow
pub record IsWithin (span : Span) (run : Run) : Type 0 where
  pub started : span.first ≤ℤ run.first
  pub some : run.first <ℤ run.end
  pub not_over : run.end ≤ℤ span.end
  pub written : ¬ IsOverflow run.verdict
