use Rattle.std.proofs.Common.{arith}
use Rattle.std.proofs.lemmas.Int.{ints}
use Rattle.fix_interval.proofs.Powers.{ten_small}
use Rattle.fix_interval.proofs.decimals.ten_to.Goals as goal

pub pow-requires : goal.pow-requires
pow-requires c = let small = ten_small c.args.places c.requires in omega arith

pub overflow_cast-result : goal.overflow_cast-result
overflow_cast-result c = let small = ten_small c.args.places c.requires in omega (arith, ints, c.pow.ensures)

pub returns : goal.returns
returns c = let small = ten_small c.args.places c.requires in omega (arith, ints, c.pow.ensures)
