use Rattle.std.proofs.Common.{arith}
use Rattle.std.proofs.lemmas.Int.{to_z-of_z}
use Rattle.almanac_choice.proofs.Times.{read_at}
use Rattle.almanac_choice.proofs.Best.{best_in_force, taken_at, kept_at}
use Rattle.almanac_choice.proofs.choice.in_force_at.Goals.{then-is_better, else-is_better}
use Rattle.almanac_choice.proofs.choice.in_force_at.Goals as goal

pub loop-k-preserved : goal.loop-k-preserved
loop-k-preserved c = elim c.if-is_better.branch [
  | then-is_better w ↦ rw w.best-is (record { within = c.loop-k-test.true; best = taken_at _ c.args.times.now c.loop-k.k c.loop-k.best _ _ (read_at c.args.times.now c.requires.times c.loop-k.k c.loop-k-test.true) (read_at c.args.times.now c.requires.times c.loop-k.best c.loop-k.invariant.within) c.loop-k.invariant.best (c.is_better.ensures.better w.if-is_better.true) })
  | else-is_better w ↦ rw w.best-is (record { within = c.loop-k.invariant.within; best = kept_at _ c.args.times.now c.loop-k.k c.loop-k.best _ _ (read_at c.args.times.now c.requires.times c.loop-k.k c.loop-k-test.true) (read_at c.args.times.now c.requires.times c.loop-k.best c.loop-k.invariant.within) c.loop-k.invariant.best (c.is_better.ensures.not_better w.if-is_better.false) })
]

pub returns-clause-exact : goal.returns-clause-exact
returns-clause-exact c =
    let f = c.ranges.t in
    let b = simp to_z-of_z at c.loop-k.invariant.best in
    λ almanacs e. best_in_force c.args.t almanacs c.args.times.now c.loop-k.k c.loop-k.best e (omega arith) c.loop-k.invariant.within b
