use Rattle.std.proofs.Common.{sym, subst}
use Rattle.text_lines.specs.Lines.{Text}
use Rattle.chart_text.specs.Refusals.{IsBodyRefused, IsBlockRefused}
use Rattle.chart_text.proofs.FleetLemmas.{body_refused}
use Rattle.chart_text.proofs.block.read_block.Goals as goal

pub returns-in-Err-clause-refused : goal.returns-in-Err-clause-refused
returns-in-Err-clause-refused c =
    let text = c.args.text.now in
    let tail : Text = c.in-Some.tail.now in
    subst (IsBlockRefused c.args.number text) (sym c.behind.ensures)
    (body_refused c.args.number text tail c.in-Err.refusal c.in-Some.ensures.cases
    (subst (λ (t : Text). IsBodyRefused t c.in-Err.refusal) c.split_body.ensures.body c.in-Err.ensures.refused))
