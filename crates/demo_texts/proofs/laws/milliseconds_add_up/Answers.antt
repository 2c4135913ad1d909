use Rattle.demo_texts.proofs.TotalLemmas.{countable, add_up}
use Rattle.demo_texts.proofs.laws.milliseconds_add_up.Goals as goal

pub returns-clause-countable : goal.returns-clause-countable
returns-clause-countable c = countable

pub returns-clause-total : goal.returns-clause-total
returns-clause-total c = add_up
