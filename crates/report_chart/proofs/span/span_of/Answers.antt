use Rattle.std.proofs.Common.{rules, w64, FitsSigned}
use Rattle.std.proofs.lemmas.Int.{to_z-of_z}
use Rattle.report_chart.proofs.SpanLemmas.{span_is}
use Rattle.report_chart.proofs.span.span_of.Goals as goal

pub returns : goal.returns
returns c =
    let first : FitsSigned w64 c.in_ok-first.field-0.now.first = search rules in
    let end : FitsSigned w64 c.in_ok-end.field-0.now.end = search rules in
    simp to_z-of_z (span_is c.args.runs.now c.in_ok-first.field-0.now c.in_ok-end.field-0.now c.in_ok-first.ensures.value c.in_ok-end.ensures.value)
