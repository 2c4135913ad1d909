use Rattle.std.proofs.Common.{arith, ap, ◌∙◌, ◌^◌, pos}
use Rattle.std.proofs.lemmas.Int.{ints}
use lib.Dec.{lit≤}
use Rattle.fix_interval.specs.Intervals.{ends}
use Rattle.fix_interval.specs.Roots.{sqrt_of}
use Rattle.fix_interval.specs.Sums.{sub_of}
use Rattle.fix_interval.specs.Ends.{Ends, IsInside}
use Rattle.fix_interval.specs.Ranges.{point, from_to}
use Rattle.fix_interval.proofs.EndInsides.{from_to_within, is_inside}
use Rattle.orbit_laws.specs.Elements.{axis_ratio_of}
use Rattle.orbit_laws.proofs.Elements.{square_of_eccentricity, radicand_inside}
use Rattle.almanac_orbit.proofs.elements.axis_ratio.Goals as goal

pub sub-requires-clause-b_small : goal.sub-requires-clause-b_small
sub-requires-clause-b_small c = from_to_within c.sqr_wide.result 0 (2 ^ 66) (2 ^ 125) (lit≤ tt) (is_inside c.sqr_wide.result c.sqr_wide.ensures.exact (square_of_eccentricity (ends c.args.eccentricity) c.requires))

pub sqrt-requires-clause-not_negative : goal.sqrt-requires-clause-not_negative
sqrt-requires-clause-not_negative c =
    let r : IsInside (ends c.sub.result) (from_to (2 ^ 74) (2 ^ 76)) = is_inside c.sub.result (c.sub.ensures.exact ∙ ap (λ (a : Ends). sub_of (point (pos (2 ^ 76))) a) c.sqr_wide.ensures.exact) (radicand_inside (ends c.args.eccentricity) c.requires) in
    let l = r.low in
    omega (arith, ints)

pub sqrt-requires-clause-small : goal.sqrt-requires-clause-small
sqrt-requires-clause-small c =
    let r : IsInside (ends c.sub.result) (from_to (2 ^ 74) (2 ^ 76)) = is_inside c.sub.result (c.sub.ensures.exact ∙ ap (λ (a : Ends). sub_of (point (pos (2 ^ 76))) a) c.sqr_wide.ensures.exact) (radicand_inside (ends c.args.eccentricity) c.requires) in
    let h = r.high in
    omega (arith, ints)

pub returns : goal.returns
unfolding axis_ratio_of
returns c = c.sqrt.ensures.exact ∙ ap sqrt_of (c.sub.ensures.exact ∙ ap (λ (a : Ends). sub_of (point (pos (2 ^ 76))) a) c.sqr_wide.ensures.exact)
