use Rattle.std.proofs.Common.{◌≡◌, ◌++◌, take}
use Rattle.std.specs.Prelude.{codes}
use Rattle.std.specs.List.{flat_map}
use Rattle.report_chart.specs.Refused.{escaped_byte}
use Rattle.report_chart.proofs.refused.push_reason_line.Given as goal

-- the bytes so far
abbrev pub invariant-loop-byte : goal.invariant-loop-byte
invariant-loop-byte l = l.text.items ≡ l.fn.text.items ++ (codes "<p>" ++ flat_map escaped_byte (take l.byte-index l.line))
