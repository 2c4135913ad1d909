use Rattle.std.proofs.Common.{arith, ap, ◌∙◌}
use Rattle.std.proofs.lemmas.Int.{ints}
use Rattle.fix_interval.specs.Products.{narrow76_of}
use Rattle.geom_laws.specs.Adjugate.{vertical_of}
use Rattle.slope_test.proofs.Products.{square_small}
use Rattle.slope_test.proofs.slope.vertical.Goals as goal

pub narrow76-requires : goal.narrow76-requires
narrow76-requires c =
    let w = square_small c.args.a c.wide_square.result c.requires c.wide_square.ensures in
    let l = w.low in
    let h = w.high in
    record { low = omega (arith, ints); high = omega (arith, ints) }

pub returns : goal.returns
unfolding vertical_of
returns c = c.narrow76.ensures.exact ∙ ap narrow76_of c.wide_square.ensures
