use Rattle.command_words.proofs.PlainWords.{plain_paths, plain_number}
use Rattle.command_words.proofs.laws.plain_words_are_read.Goals as goal

pub returns-clause-predict : goal.returns-clause-predict
returns-clause-predict c = plain_paths

pub returns-clause-demo : goal.returns-clause-demo
returns-clause-demo c = plain_number
