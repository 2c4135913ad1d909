use Rattle.std.proofs.Common.{◌∙◌, ap}
use Rattle.std.specs.Prelude.{decimal}
use Rattle.demo_texts.proofs.FormatLemmas.{summary_flat}
use Rattle.demo_texts.proofs.summary.line.Goals as goal

pub returns : goal.returns
returns c =
    ap (λ v. v.items) c.into_bytes.ensures.value
    ∙ c.in_ok-line.ensures.ok
    ∙ summary_flat (decimal c.args.number) (decimal c.args.intervals) (decimal c.args.totals.available) (decimal c.args.totals.unavailable) (decimal c.args.totals.undecided)
