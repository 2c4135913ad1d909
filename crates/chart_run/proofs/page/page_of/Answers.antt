use Rattle.std.proofs.Common.{subst, sym}
use Rattle.chart_run.specs.Pages.{TextStops}
use Rattle.chart_run.proofs.TopLemmas.{stops_so}
use Rattle.chart_run.proofs.page.page_of.Goals as goal

pub returns-in-Err-clause-cause : goal.returns-in-Err-clause-cause
returns-in-Err-clause-cause c = subst (TextStops c.args.text.now) (sym c.status_of.ensures) (stops_so c.args.text.now c.in-Err.refusal c.in-Err.ensures.refused)
