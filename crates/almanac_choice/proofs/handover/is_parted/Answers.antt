use Rattle.std.proofs.lemmas.Int.{to_z-of_z}
use Rattle.almanac_choice.proofs.Times.{read_at}
use Rattle.almanac_choice.proofs.Parts.{parted_at, parted_step}
use Rattle.almanac_choice.proofs.handover.is_parted.Goals as goal

pub returns-then-is_inside : goal.returns-then-is_inside
returns-then-is_inside c =
    let f = c.ranges.x in
    let g = c.ranges.y in
    let r = parted_at c.args.times.now _ _ c.loop-z.z-index _ _ c.is_inside.result c.loop-z-test.true (read_at c.args.times.now c.requires c.loop-z.z-index c.loop-z-test.true) c.is_inside.ensures c.if-is_inside.true in
    simp to_z-of_z at r

pub loop-z-preserved : goal.loop-z-preserved
loop-z-preserved c = parted_step c.args.times.now _ _ c.loop-z.z-index _ _ c.is_inside.result c.loop-z-test.true (read_at c.args.times.now c.requires c.loop-z.z-index c.loop-z-test.true) c.is_inside.ensures c.if-is_inside.false c.loop-z.invariant
