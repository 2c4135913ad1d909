use Rattle.std.proofs.Common.{◌++◌, ◌∙◌, ap}
use Rattle.std.specs.Prelude.{codes}
use Rattle.text_lines.specs.Lines.{Text}
use Rattle.report_chart.specs.Kinds.{word_of}
use Rattle.report_chart.specs.Clock.{clock_text}
use Rattle.std.proofs.Common.{w64}
use Rattle.std.proofs.lemmas.Int.{to_z-of_z}
use Rattle.report_chart.proofs.TextLemmas.{parts7}
use Rattle.report_chart.proofs.band.push_bar_title.Goals as goal

pub returns : goal.returns
returns c =
    parts7 c.push-5.result
    c.args.text.now.items c.push.new.text.items c.push_clock.new.text.items c.push-2.new.text.items c.push_clock-2.new.text.items c.push-3.new.text.items c.push-4.new.text.items c.push-5.new.text.items
    (codes " title=\"") (clock_text c.args.first) (codes " to ") (clock_text c.args.end) (codes " ") (word_of c.args.kind) (codes "\">\n")
    c.in_ok-push.ensures (c.in_ok-push_clock.ensures ∙ ap (λ (t : Text). c.push.new.text.items ++ t) (ap clock_text (to_z-of_z w64 c.args.first c.ranges.first))) c.in_ok-push-2.ensures (c.in_ok-push_clock-2.ensures ∙ ap (λ (t : Text). c.push-2.new.text.items ++ t) (ap clock_text (to_z-of_z w64 c.args.end c.ranges.end))) c.in_ok-push-3.ensures (c.in_ok-push-4.ensures ∙ ap (λ (t : Text). c.push-3.new.text.items ++ t) c.word.ensures) c.push-5.ensures
