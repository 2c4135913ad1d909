use Rattle.std.proofs.Common.{◌++◌, ◌∙◌, ap}
use Rattle.std.specs.Prelude.{codes, decimal, length}
use Rattle.text_lines.specs.Lines.{Text}
use Rattle.report_chart.specs.Clock.{lasting_text}
use Rattle.report_chart.specs.Gaps.{longest_of}
use Rattle.report_chart.proofs.TextLemmas.{parts5}
use Rattle.report_chart.proofs.gaps.push_summary.Goals as goal

pub returns : goal.returns
returns c =
    parts5 c.push-3.result
    c.args.text.now.items c.push.new.text.items c.push_number.new.text.items c.push-2.new.text.items c.push_lasting.new.text.items c.push-3.new.text.items
    (codes "<p>Runs that are not Available: ") (decimal (length c.args.gaps.now)) (codes ". The longest lasts ") (lasting_text (longest_of c.args.gaps.now)) (codes ".\n")
    c.in_ok-push.ensures c.in_ok-push_number.ensures c.in_ok-push-2.ensures (c.in_ok-push_lasting.ensures ∙ ap (λ (t : Text). c.push-2.new.text.items ++ t) (ap lasting_text c.longest_of.ensures)) c.push-3.ensures
