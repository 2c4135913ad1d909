use Rattle.notice_command.proofs.StopLemmas.{start_gains, stop_cause, stop_gains}
use Rattle.notice_command.proofs.file.take_notices.Goals as goal

pub returns-in-Err-Failed-clause-held : goal.returns-in-Err-Failed-clause-held
returns-in-Err-Failed-clause-held g c = start_gains _ c.in-Ok.notices.items _ _ _ c.requires c.start.ensures.same c.in-Ok.ensures.accepted tt

pub returns-clause-cause : goal.returns-clause-cause
returns-clause-cause g c =
    stop_cause _ _ _ _ _ _ _ _ _ c.in-Ok.notices.items c.deref.result.now c.in-Err-apply_all.stop c.status_of.result c.start.ensures.same c.start.ensures.cause.later c.deref.ensures.value
    c.in-Ok.ensures.formed c.in-Ok.ensures.accepted c.in-Err-apply_all.ensures.stopped c.in-Err-apply_all.ensures.cause.failed c.status_of.ensures

pub returns-clause-held : goal.returns-clause-held
returns-clause-held g c =
    stop_gains _ _ _ _ c.in-Ok.notices.items c.deref.result.now c.in-Err-apply_all.stop c.status_of.result c.start.ensures.same c.deref.ensures.value
    c.in-Ok.ensures.formed c.in-Ok.ensures.accepted c.in-Err-apply_all.ensures.stopped c.status_of.ensures
