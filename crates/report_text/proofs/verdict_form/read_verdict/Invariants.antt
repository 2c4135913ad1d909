use Rattle.std.proofs.Common.{◌≡◌, drop}
use Rattle.std.specs.List.{find}
use Rattle.report_text.specs.ReportLines.{spells, forms_of, verdict_of}
use Rattle.report_text.proofs.verdict_form.read_verdict.Given as goal

-- no form so far is spelled
abbrev pub invariant-loop-form : goal.invariant-loop-form
invariant-loop-form l = verdict_of l.text ≡ find (spells l.text) (drop l.form-index (forms_of l.text))
