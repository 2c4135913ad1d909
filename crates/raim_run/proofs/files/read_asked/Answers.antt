use Rattle.std.proofs.Common.{sym, subst, IfOk, IfErr}
use Rattle.command_words.specs.declared.Request.{Request}
use Rattle.command_words.specs.declared.Request.TheVariants as request
use Rattle.command_words.specs.Asked.{asked_by}
use Rattle.flight_forecast.specs.Words.{case_of}
use Rattle.raim_run.specs.Cases.{IsCaseOf}
use Rattle.raim_run.specs.Others.{StopsAtLast}
use Rattle.raim_run.specs.Stopped.{StopOf}
use Rattle.raim_run.proofs.FileLemmas.{stopped, last}
use Rattle.raim_run.proofs.files.read_asked.Goals as goal

pub returns-in-Predict-clause-cause : goal.returns-in-Predict-clause-cause
returns-in-Predict-clause-cause g c =
    let holds = g.D.Desk.holds c.args.desk.now in
    let before = g.D.Desk.faults c.args.desk.now in
    let now = g.D.Desk.faults c.read_files.new.desk in
    subst (λ (r : Request). IfErr c.read_files.result (StopOf (asked_by r) holds before now)) (sym c.in-Predict.is)
    (stopped (asked_by (request.Predict c.in-Predict.limits c.in-Predict.almanac c.in-Predict.outages c.in-Predict.route)) holds before now c.read_files.result
    c.read_files.ensures.refused c.read_files.ensures.too_long (λ file e. (tt, c.read_files.ensures.fault file e)))

pub returns-in-Predict-clause-others : goal.returns-in-Predict-clause-others
returns-in-Predict-clause-others g c =
    subst (λ (r : Request). StopsAtLast (g.D.Desk.left c.args.desk.now) (g.D.Desk.left c.read_files.new.desk) (g.D.Desk.faults c.args.desk.now) (g.D.Desk.faults c.read_files.new.desk) (asked_by r) c.read_files.result)
    (sym c.in-Predict.is)
    (last (g.D.Desk.left c.args.desk.now) (g.D.Desk.left c.read_files.new.desk) (g.D.Desk.faults c.args.desk.now) (g.D.Desk.faults c.read_files.new.desk) c.read_files.result c.read_files.ensures.others)

pub returns-in-Demo-clause-ok : goal.returns-in-Demo-clause-ok
returns-in-Demo-clause-ok g c =
    let holds = g.D.Desk.holds c.args.desk.now in
    subst (λ (r : Request). IfOk c.read_demonstration.result (λ files. IsCaseOf (asked_by r) holds (case_of files.limits files.almanacs.items files.outages.items files.route))) (sym c.in-Demo.is)
    (c.read_demonstration.ensures.ok holds)

pub returns-in-Demo-clause-cause : goal.returns-in-Demo-clause-cause
returns-in-Demo-clause-cause g c =
    let holds = g.D.Desk.holds c.args.desk.now in
    let faults = g.D.Desk.faults c.args.desk.now in
    subst (λ (r : Request). IfErr c.read_demonstration.result (StopOf (asked_by r) holds faults faults)) (sym c.in-Demo.is)
    (c.read_demonstration.ensures.cause holds faults faults)

pub returns-in-PredictUp-clause-cause : goal.returns-in-PredictUp-clause-cause
returns-in-PredictUp-clause-cause g c =
    let holds = g.D.Desk.holds c.args.desk.now in
    let before = g.D.Desk.faults c.args.desk.now in
    let now = g.D.Desk.faults c.read_files-in-PredictUp.new.desk in
    subst (λ (r : Request). IfErr c.read_files-in-PredictUp.result (StopOf (asked_by r) holds before now)) (sym c.in-PredictUp.is)
    (stopped (asked_by (request.PredictUp c.in-PredictUp.limits c.in-PredictUp.almanac c.in-PredictUp.outages c.in-PredictUp.route c.in-PredictUp.vertical)) holds before now c.read_files-in-PredictUp.result
    c.read_files-in-PredictUp.ensures.refused c.read_files-in-PredictUp.ensures.too_long (λ file e. (tt, c.read_files-in-PredictUp.ensures.fault file e)))

pub returns-in-PredictUp-clause-others : goal.returns-in-PredictUp-clause-others
returns-in-PredictUp-clause-others g c =
    subst (λ (r : Request). StopsAtLast (g.D.Desk.left c.args.desk.now) (g.D.Desk.left c.read_files-in-PredictUp.new.desk) (g.D.Desk.faults c.args.desk.now) (g.D.Desk.faults c.read_files-in-PredictUp.new.desk) (asked_by r) c.read_files-in-PredictUp.result)
    (sym c.in-PredictUp.is)
    (last (g.D.Desk.left c.args.desk.now) (g.D.Desk.left c.read_files-in-PredictUp.new.desk) (g.D.Desk.faults c.args.desk.now) (g.D.Desk.faults c.read_files-in-PredictUp.new.desk) c.read_files-in-PredictUp.result c.read_files-in-PredictUp.ensures.others)
