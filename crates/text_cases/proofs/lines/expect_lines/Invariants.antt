use Rattle.std.proofs.Common.{length}
use Rattle.text_cases.proofs.lines.expect_lines.Given as goal

-- what is left of the text
abbrev pub decreases-loop-line : goal.decreases-loop-line
decreases-loop-line g l = length l.rest
