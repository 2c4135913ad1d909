use Rattle.time_laws.proofs.JudgementLemmas.{Split-exactly, Decided-otherwise}
use Rattle.time_laws.proofs.laws.open_pieces_are_halved.Goals as goal

pub returns : goal.returns
returns c = record { halved = Split-exactly; decided = Decided-otherwise }
