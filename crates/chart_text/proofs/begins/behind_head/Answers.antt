use Rattle.std.proofs.Common.{ℕ, List, ◌≡◌, ◌++◌, ap, ◌∙◌}
use Rattle.std.specs.Prelude.{decimal}
use Rattle.chart_text.proofs.BeginLemmas.{without_feed}
use Rattle.chart_text.proofs.begins.behind_head.Goals as goal

pub returns-in_default-behind-2 : goal.returns-in_default-behind-2
returns-in_default-behind-2 c =
    let number : c.in-Some.numbered.now ≡ decimal c.args.number ++ c.in-Some-behind.feed.now =
    c.in-Some-behind.ensures ∙ ap (λ (t : List ℕ). t ++ c.in-Some-behind.feed.now) (c.as_bytes.ensures.value ∙ c.format.ensures.text) in
    record { cases = without_feed c.args.text.now c.args.number c.in-Some.numbered.now c.in-Some.ensures c.in-Some-behind.feed.now number c.in_default-behind-2.ensures }
