use Rattle.std.proofs.Common.{Err, refl, ap, sym, subst}
use Rattle.raim_model.specs.Solution.{Case}
use Rattle.command_words.specs.Asked.{asked_by}
use Rattle.flight_forecast.specs.Words.{case_of, verdict_against}
use Rattle.raim_run.specs.Calls.{AskedCalls}
use Rattle.raim_run.specs.Causes.{NoRunsCause}
use Rattle.raim_run.specs.Others.{AskedOthers}
use Rattle.raim_run.specs.Printed.{HasNote}
use Rattle.raim_run.specs.declared.status.Status.{Status}
use Rattle.raim_run.proofs.RunLemmas.{stopped_others, stopped_calls, judged_calls, counted, found_by, unforecast, noted, stepped}
use Rattle.raim_run.proofs.runs.runs_asked.Goals as goal

pub returns-in-Err-clause-others : goal.returns-in-Err-clause-others
returns-in-Err-clause-others g c =
    subst (λ (status : Status). AskedOthers (g.D.Desk.left c.args.desk.now) (g.D.Desk.left c.read_asked.new.desk) (g.D.Desk.faults c.args.desk.now) (g.D.Desk.faults c.read_asked.new.desk) (asked_by c.args.request.now) status)
    (sym c.status_of_stop-status.ensures) (stopped_others _ _ _ _ (asked_by c.args.request.now) c.in-Err.stop c.in-Err.ensures.others)

pub returns-in-Err-clause-calls : goal.returns-in-Err-clause-calls
returns-in-Err-clause-calls g c =
    let made = c.in-Err.ensures.calls in
    (made.0, made.1, subst (λ (status : Status). AskedCalls (asked_by c.args.request.now) status made.0) (sym c.status_of_stop-status.ensures) (stopped_calls (asked_by c.args.request.now) c.in-Err.stop made.0 made.2))

pub returns-in-Ok-forecast_against-clause-ok : goal.returns-in-Ok-forecast_against-clause-ok
returns-in-Ok-forecast_against-clause-ok g c =
    let files = c.in-Ok.files in
    let case : Case = case_of files.limits files.almanacs.items files.outages.items files.route in
    let said = c.in-Ok-forecast_against.ensures in
    record {
      case = case;
      leap_is = refl;
      found = found_by (asked_by c.args.request.now) (g.D.Desk.holds c.args.desk.now) case c.in-Ok.ensures.ok c.alert_asked.result c.alert_asked.ensures.value c.in-Ok-forecast_against.runs.items
          said.runs said.in_order said.right said.undecided said.near said.exists;
      lines = said.printable c.in-Ok.ensures.instants;
      countable = counted (verdict_against c.alert_asked.result case) files.route c.in-Ok-forecast_against.runs.items c.in-Ok.ensures.ok.ranges.route said.runs;
    }

pub returns-in-Ok-forecast_against-clause-steps : goal.returns-in-Ok-forecast_against-clause-steps
returns-in-Ok-forecast_against-clause-steps g c =
    let files = c.in-Ok.files in
    stepped (asked_by c.args.request.now) (g.D.Desk.holds c.args.desk.now) (case_of files.limits files.almanacs.items files.outages.items files.route) c.in-Ok.ensures.ok c.alert_asked.result c.alert_asked.ensures.value
    c.args.steps.now c.forecast_against.new.steps c.in-Ok-forecast_against.ensures.steps c.in-Ok-forecast_against.ensures.cut

pub returns-in-Err-forecast_against-clause-cause : goal.returns-in-Err-forecast_against-clause-cause
returns-in-Err-forecast_against-clause-cause g c =
    let files = c.in-Ok.files in
    let said = c.in-Err-forecast_against.ensures in
    subst (λ (status : Status). NoRunsCause (asked_by c.args.request.now) (g.D.Desk.holds c.args.desk.now) (g.D.Desk.faults c.args.desk.now) (g.D.Desk.faults c.read_asked.new.desk) status)
    (sym c.status_of_fault-status.ensures)
    (unforecast (asked_by c.args.request.now) (g.D.Desk.holds c.args.desk.now) (case_of files.limits files.almanacs.items files.outages.items files.route) c.in-Ok.ensures.ok c.alert_asked.result c.alert_asked.ensures.value _ _ c.in-Err-forecast_against.reason
    (λ at prn e. (said.overflow at prn).0 (ap Err e)) (λ e. said.too_many.0 (ap Err e)))

pub returns-in-Err-forecast_against-clause-note : goal.returns-in-Err-forecast_against-clause-note
returns-in-Err-forecast_against-clause-note g c =
    let files = c.in-Ok.files in
    let said = c.in-Err-forecast_against.ensures in
    subst (λ (status : Status). HasNote (asked_by c.args.request.now) (g.D.Desk.holds c.args.desk.now) files.limits.leap status)
    (sym c.status_of_fault-status.ensures)
    (noted (asked_by c.args.request.now) (g.D.Desk.holds c.args.desk.now) (case_of files.limits files.almanacs.items files.outages.items files.route) c.in-Ok.ensures.ok c.alert_asked.result c.alert_asked.ensures.value c.in-Err-forecast_against.reason
    c.in-Ok.ensures.instants (λ at prn e. (said.overflow at prn).0 (ap Err e)))

pub returns-in-Err-forecast_against-clause-calls : goal.returns-in-Err-forecast_against-clause-calls
returns-in-Err-forecast_against-clause-calls g c =
    let made = c.in-Ok.ensures.calls in
    (made.0, made.1, subst (λ (status : Status). AskedCalls (asked_by c.args.request.now) status made.0) (sym c.status_of_fault-status.ensures) (judged_calls (asked_by c.args.request.now) c.in-Ok.files c.in-Err-forecast_against.reason made.0 made.2))

pub returns-in-Err-forecast_against-clause-steps : goal.returns-in-Err-forecast_against-clause-steps
returns-in-Err-forecast_against-clause-steps g c =
    let files = c.in-Ok.files in
    stepped (asked_by c.args.request.now) (g.D.Desk.holds c.args.desk.now) (case_of files.limits files.almanacs.items files.outages.items files.route) c.in-Ok.ensures.ok c.alert_asked.result c.alert_asked.ensures.value
    c.args.steps.now c.forecast_against.new.steps c.in-Err-forecast_against.ensures.steps c.in-Err-forecast_against.ensures.cut
