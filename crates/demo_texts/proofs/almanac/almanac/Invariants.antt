use Rattle.std.proofs.Common.{◌≡◌, ◌++◌}
use Rattle.std.specs.Prelude.{codes}
use Rattle.demo_texts.specs.Demo.{line, records_text}
use Rattle.demo_texts.proofs.almanac.almanac.Given as goal

-- the two lines, and the records so far
abbrev pub invariant-loop-k : goal.invariant-loop-k
invariant-loop-k l = l.text.items ≡ line (codes "24 DEMO") ++ line (codes "2338 0") ++ records_text l.number l.k
