use Rattle.std.proofs.Common.{arith, ap, ◌∙◌, ◌*◌, ◌^◌}
use Rattle.std.proofs.lemmas.Int.{ints}
use lib.Dec.{lit≤}
use Rattle.fix_interval.specs.Ends.{Ends}
use Rattle.fix_interval.specs.Intervals.{ends}
use Rattle.fix_interval.proofs.EndInsides.{mag_from_to, product_most, is_inside}
use Rattle.orbit_laws.specs.Elements.{product_of, cube_of}
use Rattle.orbit_laws.proofs.Elements.{square_inside}
use Rattle.almanac_orbit.proofs.elements.cube.Goals as goal

pub product-requires-2-clause-a_low : goal.product-requires-2-clause-a_low
product-requires-2-clause-a_low c = let l = (is_inside c.product.result c.product.ensures (square_inside (ends c.args.root) c.requires)).low in omega (arith, ints)

pub product-requires-2-clause-small : goal.product-requires-2-clause-small
product-requires-2-clause-small c = product_most (49 * 2 ^ 56) (7 * 2 ^ 56) (2 ^ 126)
    (mag_from_to c.product.result (16 * 2 ^ 56) (49 * 2 ^ 56) (is_inside c.product.result c.product.ensures (square_inside (ends c.args.root) c.requires)))
    (mag_from_to c.args.root (4 * 2 ^ 56) (7 * 2 ^ 56) c.requires) (lit≤ tt)

pub returns : goal.returns
unfolding cube_of
returns c = c.product-2.ensures ∙ ap (λ (a : Ends). product_of 56 a (ends c.args.root)) c.product.ensures
