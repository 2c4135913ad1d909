use Rattle.std.proofs.Common.{◌≡◌, ◌-◌, [], ap, ◌∙◌, rules}
use Rattle.text_lines.specs.Lines.{Text}
use Rattle.report_text.specs.ReportLines.{pieces_of}
use Rattle.fleet_text.specs.Routes.{parting_after}
use Rattle.fleet_text.proofs.RouteLemmas.{few_in}
use Rattle.fleet_text.proofs.route.excess_separator.Goals as goal

pub returns-clause-few : goal.returns-clause-few
returns-clause-few c =
    let l = c.loop-len in
    let none : l.rest.now ≡ [] = search rules in
    few_in 63 0 (pieces_of c.args.text.now) (l.invariant.ahead ∙ ap (λ (t : Text). parting_after (63 - l.partings) l.number (pieces_of t)) none)
