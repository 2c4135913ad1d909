use Rattle.std.proofs.Common.{[], arith}
use Rattle.std.proofs.lemmas.List.Elements.{All-cons}
use Rattle.report_text.specs.Report.{IsPrintable}
use Rattle.text_cases.proofs.reports.a_run_is_printed.Goals as goal

pub print_report-requires : goal.print_report-requires
print_report-requires g c = All-cons (IsPrintable 18) c.first_second.result [] c.first_second.ensures (λ k d i. absurd (omega arith))
