use Rattle.std.proofs.Common.{List, subst, inr}
use Rattle.raim_model.specs.declared.verdict.Run.{Run}
use Rattle.chart_text.specs.Flights.{BreaksFlight}
use Rattle.chart_text.proofs.flight.read_flight.Goals as goal

pub returns-in-Some-clause-refused : goal.returns-in-Some-clause-refused
returns-in-Some-clause-refused c =
    let broken = subst (λ (rs : List Run). BreaksFlight rs c.in-Some.fault.line c.in-Some.fault.why) c.deref.ensures.value c.in-Some.ensures.some in
    inr (c.in-Ok.runs.items, c.in-Ok.ensures.report, c.in-Ok.ensures.readable, broken)
