use Rattle.std.proofs.Common.{map}
use Rattle.std.specs.String.{string_bytes}
use Rattle.command_words.specs.Vertical.{asked_for}
use Rattle.raim_run.proofs.NoteLemmas.{no_calls}
use Rattle.raim_run.proofs.program.answer_words.Goals as goal

pub returns-in-Err-clause-calls : goal.returns-in-Err-clause-calls
returns-in-Err-clause-calls g c = no_calls (g.D.Desk.calls c.args.desk.now) (asked_for c.args.program (map string_bytes c.args.words.now))
