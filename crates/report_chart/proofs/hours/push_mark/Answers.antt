use Rattle.std.proofs.Common.{◌++◌, ◌∙◌, ap, ◌%◌}
use Rattle.std.specs.Prelude.{codes, decimal}
use Rattle.text_lines.specs.Lines.{Text}
use Rattle.gps_week.specs.TimeText.{two_digits}
use Rattle.report_chart.proofs.TextLemmas.{parts5}
use Rattle.report_chart.proofs.hours.push_mark.Goals as goal

pub returns : goal.returns
returns c =
    parts5 c.push-4.result
    c.args.text.now.items c.push.new.text.items c.push_number.new.text.items c.push-2.new.text.items c.push-3.new.text.items c.push-4.new.text.items
    (codes "<li style=--x:") (decimal c.args.x) (codes ">") (two_digits (c.args.hour % 24)) (codes "\n")
    c.in_ok-push.ensures c.in_ok-push_number.ensures c.in_ok-push-2.ensures (c.in_ok-push-3.ensures ∙ ap (λ (t : Text). c.push-2.new.text.items ++ t) c.two_digits.ensures) c.push-4.ensures
