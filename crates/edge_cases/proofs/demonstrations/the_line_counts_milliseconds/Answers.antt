use Rattle.std.proofs.Common.{[], ◌∷◌, arith}
use Rattle.std.specs.Prelude.{All}
use Rattle.std.proofs.lemmas.List.Elements.{All-cons}
use Rattle.raim_model.specs.declared.verdict.Run.{Run}
use Rattle.demo_texts.specs.Summary.{IsWithinDay}
use Rattle.edge_cases.proofs.demonstrations.the_line_counts_milliseconds.Goals as goal

none : All IsWithinDay []
none = λ k d below. absurd (omega arith)

four : (a b c d : Run) → IsWithinDay a → IsWithinDay b → IsWithinDay c → IsWithinDay d → All IsWithinDay (a ∷ b ∷ c ∷ d ∷ [])
four a b c d p q r s =
    All-cons IsWithinDay a (b ∷ c ∷ d ∷ []) p (All-cons IsWithinDay b (c ∷ d ∷ []) q (All-cons IsWithinDay c (d ∷ []) r (All-cons IsWithinDay d [] s none)))

pub print_summary-requires : goal.print_summary-requires
print_summary-requires g c = record {
  few = omega arith;
  short = four c.run.result c.run-2.result c.run-3.result c.run-4.result c.run.ensures c.run-2.ensures c.run-3.ensures c.run-4.ensures;
}
