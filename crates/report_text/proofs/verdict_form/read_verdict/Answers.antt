use Rattle.std.proofs.Common.{◌≡◌, ◌∙◌, ◌<◌, List, length, drop, get_or, Some, sym, ap, subst}
use Rattle.std.specs.List.{find}
use Rattle.raim_model.specs.declared.verdict.Verdict.{Verdict}
use Rattle.raim_model.specs.declared.verdict.Verdict.TheVariants.{Available}
use Rattle.report_text.specs.ReportLines.{spells}
use Rattle.report_text.proofs.VerdictLemmas.{find_next}
use Rattle.report_text.proofs.verdict_form.read_verdict.Goals as goal

pub returns-then-spells : goal.returns-then-spells
returns-then-spells c =
    let text = c.args.text.now in
    let forms : List Verdict = c.forms-form-items.result in
    let i = c.loop-form.form-index in
    let below : i < length forms = subst (λ (fs : List Verdict). i < length fs) (sym c.forms-form-items.ensures) c.loop-form-test.true in
    let here : find (spells text) (drop i forms) ≡ Some (get_or forms i Available) = find_next (spells text) forms i Available below (sym c.spells.ensures ∙ c.if-spells.true) in
    sym (c.loop-form.invariant ∙ ap (λ (fs : List Verdict). find (spells text) (drop i fs)) (sym c.forms-form-items.ensures) ∙ here)
