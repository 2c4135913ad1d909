use Rattle.time_laws.proofs.JudgementLemmas.{judgements-certain, judgements-single, judgements-halved}
use Rattle.time_laws.proofs.laws.judgements_are_counted.Goals as goal

pub returns : goal.returns
returns c = record { certain = judgements-certain; single = judgements-single; halved = judgements-halved }
