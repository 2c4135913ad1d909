use Rattle.std.proofs.Common.{rules}
use Rattle.std.proofs.lemmas.List.Sorted.{answers_always}
use Rattle.almanac_draft.proofs.draft.AlmanacDraft.sorted.Goals as goal

pub returns-clause-rising : goal.returns-clause-rising
returns-clause-rising g c = c.sort_unstable_by_key.ensures.sorted (λ r. r.prn) (answers_always _ _ _ (λ f a r q k. search rules))
