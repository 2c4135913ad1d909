use Rattle.std.proofs.Common.{◌++◌, ◌∙◌, ap}
use Rattle.std.specs.Prelude.{codes, decimal}
use Rattle.text_lines.specs.Lines.{Text}
use Rattle.report_chart.specs.Kinds.{class_of}
use Rattle.report_chart.proofs.TextLemmas.{parts6}
use Rattle.report_chart.proofs.band.push_bar_style.Goals as goal

pub returns : goal.returns
returns c =
    parts6 c.push_number-2.result
    c.args.text.now.items c.push.new.text.items c.push-2.new.text.items c.push-3.new.text.items c.push_number.new.text.items c.push-4.new.text.items c.push_number-2.new.text.items
    (codes "<li class=") (class_of c.args.kind) (codes " style=--x:") (decimal c.args.x) (codes ";--w:") (decimal c.args.width)
    c.in_ok-push.ensures (c.in_ok-push-2.ensures ∙ ap (λ (t : Text). c.push.new.text.items ++ t) c.class.ensures) c.in_ok-push-3.ensures c.in_ok-push_number.ensures c.in_ok-push-4.ensures c.push_number-2.ensures
