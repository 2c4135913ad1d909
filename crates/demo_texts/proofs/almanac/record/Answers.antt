use Rattle.std.proofs.Common.{◌≡◌, ◌+◌, ◌/◌, ◌∙◌, ap, ap₂}
use Rattle.std.specs.Prelude.{string_bytes, decimal}
use Rattle.text_lines.specs.Lines.{Text}
use Rattle.demo_texts.specs.Demo.{record_lines, record_text, node_text, anomaly_text, anomaly_of}
use Rattle.demo_texts.proofs.FormatLemmas.{said, record_flat}
use Rattle.demo_texts.proofs.almanac.record.Goals as goal

pub returns : goal.returns
returns c =
    let number = c.args.number in
    let k = c.args.k in
    let node : c.node-node.result.now ≡ node_text (k / 4) = c.node-node.ensures in
    let anomaly : c.as_str-anomaly.result.now ≡ anomaly_text (anomaly_of number k) = c.as_str-anomaly.ensures.value ∙ c.in_ok-anomaly.ensures ∙ ap anomaly_text c.anomaly.ensures.value in
    said string_bytes c.format.result _ (record_text number k) c.format.ensures.ok
    (record_flat (decimal (k + 1)) c.node-node.result.now c.as_str-anomaly.result.now ∙ ap₂ (λ (n m : Text). record_lines (decimal (k + 1)) n m) node anomaly)
