use Rattle.std.proofs.Common.{◌≡◌, ◌++◌, List, ℕ, length}
use Rattle.chart_text.specs.Blocks.{body_of}
use Rattle.chart_text.proofs.block.split_body.Given as goal

-- the lines so far are of the body
abbrev pub invariant-loop-line : goal.invariant-loop-line
invariant-loop-line l = (front : List ℕ) × (l.text ≡ front ++ l.rest) × (body_of l.text ≡ front ++ body_of l.rest)

abbrev pub decreases-loop-line : goal.decreases-loop-line
decreases-loop-line l = length l.rest
