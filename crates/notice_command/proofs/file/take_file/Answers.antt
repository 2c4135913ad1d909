use Rattle.notice_command.proofs.RunLemmas.{file_accepts, file_refuses}
use Rattle.notice_command.proofs.file.take_file.Goals as goal

pub returns-clause-accepts : goal.returns-clause-accepts
returns-clause-accepts g c = file_accepts _ _ _ _ _ _ c.take_notices.result c.take_notices.ensures.cause

pub returns-clause-refuses : goal.returns-clause-refuses
returns-clause-refuses g c = file_refuses _ _ _ _ _ _ c.take_notices.result c.take_notices.ensures.cause
