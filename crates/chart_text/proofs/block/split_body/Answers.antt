use Rattle.std.proofs.Common.{◌≡◌, ◌++◌, ◌∷◌, take, drop, sym, ap, ◌∙◌, take-append-drop}
use Rattle.text_lines.specs.Lines.{Text}
use Rattle.report_text.specs.ReportLines.{pieces_of}
use Rattle.chart_text.proofs.FleetLemmas.{body_on}
use Rattle.chart_text.proofs.block.split_body.Goals as goal

pub loop-line-preserved : goal.loop-line-preserved
loop-line-preserved c =
    let rest = c.loop-line.rest.now in
    let line : Text = c.split_at.result.0.now in
    let after : Text = c.split_at.result.1.now in
    let n = c.line_len.result in
    let front : line ≡ take n rest = c.split_at.ensures.front in
    let back : after ≡ drop n rest = c.split_at.ensures.back in
    let pieces : pieces_of rest ≡ line ∷ pieces_of after =
    c.line_len.ensures.line ∙ ap (λ (t : Text). t ∷ pieces_of (drop n rest)) (sym front) ∙ ap (λ (t : Text). line ∷ pieces_of t) (sym back) in
    let whole : rest ≡ line ++ after = sym (take-append-drop n rest) ∙ ap (λ (t : Text). t ++ drop n rest) (sym front) ∙ ap (λ (t : Text). line ++ t) (sym back) in
    body_on c.args.text.now rest line after c.loop-line.invariant pieces whole (sym c.is_head.ensures ∙ c.if-is_head.false)
