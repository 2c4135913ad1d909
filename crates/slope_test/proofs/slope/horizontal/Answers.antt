use Rattle.std.proofs.Common.{arith, ap, ap₂, ◌∙◌}
use Rattle.std.proofs.lemmas.Int.{ints}
use Rattle.fix_interval.specs.Products.{narrow76_of}
use Rattle.fix_interval.specs.Sums.{add_of}
use Rattle.geom_laws.specs.Adjugate.{horizontal_of}
use Rattle.slope_test.proofs.Products.{square_small}
use Rattle.slope_test.proofs.slope.horizontal.Goals as goal

pub add-requires-clause-a_small : goal.add-requires-clause-a_small
add-requires-clause-a_small c =
    let w = square_small c.args.a c.wide_square.result c.requires.a_small c.wide_square.ensures in
    let l = w.low in let h = w.high in
    record { low = omega (arith, ints); high = omega (arith, ints) }

pub add-requires-clause-b_small : goal.add-requires-clause-b_small
add-requires-clause-b_small c =
    let w = square_small c.args.b c.wide_square-2.result c.requires.b_small c.wide_square-2.ensures in
    let l = w.low in let h = w.high in
    record { low = omega (arith, ints); high = omega (arith, ints) }

pub narrow76-requires : goal.narrow76-requires
narrow76-requires c =
    let v = square_small c.args.a c.wide_square.result c.requires.a_small c.wide_square.ensures in
    let w = square_small c.args.b c.wide_square-2.result c.requires.b_small c.wide_square-2.ensures in
    let vl = v.low in let vh = v.high in let wl = w.low in let wh = w.high in
    let l = c.add.ensures.lo in
    let h = c.add.ensures.hi in
    record { low = omega (arith, ints); high = omega (arith, ints) }

pub returns : goal.returns
unfolding horizontal_of
returns c = c.narrow76.ensures.exact ∙ ap narrow76_of (c.add.ensures.exact ∙ ap₂ add_of c.wide_square.ensures c.wide_square-2.ensures)
