use Rattle.nanu_text.proofs.CountLemmas.{few_answered}
use Rattle.nanu_text.proofs.reader.read_nanus.Goals as goal

pub returns-clause-few : goal.returns-clause-few
returns-clause-few c = few_answered (λ v. v.items) c.args.text.now c.lines.result c.lines.ensures.accepted
