use Rattle.std.proofs.Common.{IfOk, IfErr, subst}
use Rattle.raim_base.specs.MemDeskState.{Each}
use Rattle.text_lines.specs.Lines.{Text}
use Rattle.raim_run.specs.Causes.{NoRunsCause}
use Rattle.raim_run.specs.Printed.{ArePrintable, HasNote}
use Rattle.raim_run.specs.Texts.{four, from_texts, held_in, TakesSteps}
use Rattle.raim_run.proofs.PredictLemmas.{no_runs}
use Rattle.raim_run.proofs.predict.runs_of_texts.Goals as goal

pub returns-clause-ok : goal.returns-clause-ok
returns-clause-ok g c =
    subst (λ (t : Each Text). IfOk c.runs_asked.result (λ flight. ArePrintable from_texts (held_in t) flight.leap flight.runs.items)) c.in-Ok.ensures c.runs_asked.ensures.ok

pub returns-clause-cause : goal.returns-clause-cause
returns-clause-cause g c =
    no_runs (four c.args.limits.now c.args.almanac.now c.args.outages.now c.args.route.now) c.runs_asked.result
    (subst (λ (t : Each Text). IfErr c.runs_asked.result (λ ending. NoRunsCause from_texts (held_in t) (λ file. 0) (λ file. 0) ending.status)) c.in-Ok.ensures c.runs_asked.ensures.cause)

pub returns-clause-note : goal.returns-clause-note
returns-clause-note g c =
    subst (λ (t : Each Text). IfErr c.runs_asked.result (λ ending. HasNote from_texts (held_in t) ending.leap ending.status)) c.in-Ok.ensures c.runs_asked.ensures.note

pub returns-clause-steps : goal.returns-clause-steps
returns-clause-steps g c = subst (λ (t : Each Text). TakesSteps t c.args.steps.now c.runs_asked.new.steps) c.in-Ok.ensures c.runs_asked.ensures.steps
