use Rattle.std.proofs.Common.{arith}
use Rattle.std.specs.Prelude.{◌∷◌, []}
use Rattle.std.proofs.lemmas.List.{length-append}
use Rattle.std.proofs.lemmas.List.Elements.{All-push}
use Rattle.raim_model.specs.AlmanacRanges.{AreRecords}
use Rattle.verdict_cases.proofs.texts.read_almanacs.Goals as goal

pub loop-text-preserved : goal.loop-text-preserved
loop-text-preserved c = rw c.in_ok-push.ensures.items (record {
  few = let f = c.loop-text.invariant.few in let l = length-append c.loop-text.almanacs.items (c.in-Ok.records.items ∷ []) in omega arith;
  ranges = All-push (AreRecords c.args.span) c.loop-text.almanacs.items c.in-Ok.records.items c.loop-text.invariant.ranges c.in-Ok.ensures;
})
