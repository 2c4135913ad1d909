use Rattle.std.proofs.Common.{◌≡◌, ◌++◌, ◌∙◌, ℕ, ap, arith}
use Rattle.std.specs.Prelude.{codes}
use Rattle.demo_texts.specs.Demo.{line, records_text}
use Rattle.demo_texts.proofs.almanac.almanac.Goals as goal

pub returns : goal.returns
returns c =
    let all : c.loop-k.k ≡ 24 = omega (arith, c.loop-k-test.false, c.loop-k.auto.k-end) in
    c.loop-k.invariant ∙ ap (λ (k : ℕ). line (codes "24 DEMO") ++ line (codes "2338 0") ++ records_text c.args.number k) all
