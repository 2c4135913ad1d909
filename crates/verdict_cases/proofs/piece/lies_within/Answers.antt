use Rattle.std.proofs.lemmas.Int.{to_z-of_z}
use Rattle.verdict_cases.proofs.RootPieces.{judged_within}
use Rattle.verdict_cases.proofs.piece.lies_within.Goals as goal

pub returns-then-last-cuts-clause-rule : goal.returns-then-last-cuts-clause-rule
returns-then-last-cuts-clause-rule g c _ =
    let f = c.ranges.first in
    let l = c.ranges.last in
    judged_within (g.J.Judge.rule c.args._judge.now) (λ first last a b. g.met.J.Judge.inherits c.args._judge.now first last a b) c.args.cuts.now c.requires c.loop-k.k _ _ c.loop-k.auto.k c.loop-k-test.true c.args.first c.args.last
    (simp to_z-of_z at c.if-last-first.false) (simp to_z-of_z at c.if-cuts-k.true) (simp to_z-of_z at c.if-last-cuts.true)
