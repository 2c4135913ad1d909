use Rattle.std.proofs.Common.{◌≤◌, length}
use Rattle.std.specs.Prelude.{All}
use Rattle.raim_model.specs.AlmanacRanges.{AreRecords}
use Rattle.verdict_cases.proofs.texts.read_almanacs.Given as goal

abbrev pub invariant-loop-text : goal.invariant-loop-text
invariant-loop-text l = record { few : length l.almanacs.items ≤ l.text-index; ranges : All (AreRecords l.span) l.almanacs.items }
