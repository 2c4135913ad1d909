use Rattle.std.proofs.Common.{rules, ◌∙◌, w64, FitsSigned}
use Rattle.std.proofs.lemmas.Int.{to_z-of_z}
use Rattle.almanac_choice.proofs.Times.{read_at}
use Rattle.almanac_choice.proofs.Parts.{next_at, skip_at, next_all}
use Rattle.almanac_choice.proofs.handover.add_next.Goals.{then-follows+in_ok-push, else-follows}
use Rattle.almanac_choice.proofs.handover.add_next.Goals as goal

pub loop-y-preserved : goal.loop-y-preserved
loop-y-preserved c = elim c.if-follows.branch [
  | then-follows+in_ok-push w ↦
      let g : FitsSigned w64 w.middle.result = search rules in
      rw w.found-is (next_at _ c.args.times.now _ c.loop-y.y-index _ _ c.follows.result _ c.loop-y.found.items _ c.loop-y-test.true (read_at c.args.times.now c.requires.times c.loop-y.y-index c.loop-y-test.true) c.follows.ensures w.if-follows.true (to_z-of_z w64 w.middle.result g ∙ w.middle.ensures) c.loop-y.invariant w.in_ok-push.ensures.items)
  | else-follows w ↦ rw w.found-is (skip_at _ c.args.times.now _ c.loop-y.y-index _ _ c.follows.result c.loop-y.found.items c.loop-y-test.true (read_at c.args.times.now c.requires.times c.loop-y.y-index c.loop-y-test.true) c.follows.ensures w.if-follows.false c.loop-y.invariant)
]

pub returns : goal.returns
returns c =
    let f = c.ranges.x in
    next_all c.args.found.now.items c.args.times.now c.args.x c.loop-y.y-index c.loop-y.found.items c.loop-y-test.false (simp to_z-of_z at c.loop-y.invariant)
