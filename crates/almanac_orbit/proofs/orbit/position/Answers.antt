use Rattle.std.proofs.Common.{arith, rules, ap, sym, subst, ◌∙◌, ◌≡◌, ◌*◌, ◌^◌, ℤ, ◌-ℤ◌}
use mir.Val.{SFits}
use mir.Syntax.{w64}
use lib.Dec.{lit≤}
use Rattle.std.proofs.lemmas.Int.{ints}
use Rattle.raim_model.specs.AlmanacRanges.{IsAlmRecord, IsApplicable}
use Rattle.raim_model.specs.Orbit.{satellite_position}
use Rattle.fix_interval.specs.Ends.{Ends}
use Rattle.fix_interval.specs.Intervals.{ends}
use Rattle.fix_interval.specs.Pairs.{pair_ends, full_pair, PairInside}
use Rattle.fix_interval.specs.Vectors.{VectorLies, VectorInside, VectorBelow, VectorNarrow}
use Rattle.fix_interval.proofs.EndInsides.{is_inside, wider_around}
use Rattle.trig_laws.specs.SinCos.{sin_cos_of}
use Rattle.trig_laws.proofs.Encloses.{sin_cos_full}
use Rattle.kepler_laws.specs.EccentricSine.{ecc_sin_cos_of}
use Rattle.kepler_laws.proofs.Wraps.{ecc_full}
use Rattle.orbit_laws.specs.Elements.{Elements}
use Rattle.orbit_laws.specs.Positions.{mean_anomaly_over, node_over, perifocal_x_of, perifocal_y_of, place_over, position_of}
use Rattle.orbit_laws.proofs.Elements.{from_around}
use Rattle.orbit_laws.proofs.Positions.{perigee_x_inside, perigee_y_inside, node_x_inside, node_y_inside, position_encloses, position_isotone, position_below, position_width}
use Rattle.almanac_orbit.proofs.KeptElements.{kept_elements, kept-is, kept_bounded, perigee_full, inclination_full, place-is, elapsed_fits, elapsed-plain}
use Rattle.almanac_orbit.proofs.orbit.position.Goals as goal

pub overflow_sub-k : goal.overflow_sub-k
overflow_sub-k c =
    let toa : SFits w64 c.orbit.inside.of.toa_ms = search rules in
    elapsed_fits c.orbit.inside.of c.args.first c.ranges.first toa (subst (λ r. IsApplicable r c.args.first) (sym c.orbit.view_is) c.requires.first_applicable)

pub overflow_sub-l : goal.overflow_sub-l
overflow_sub-l c =
    let toa : SFits w64 c.orbit.inside.of.toa_ms = search rules in
    elapsed_fits c.orbit.inside.of c.args.last c.ranges.last toa (subst (λ r. IsApplicable r c.args.last) (sym c.orbit.view_is) c.requires.last_applicable)

pub moved-requires-clause-ordered : goal.moved-requires-clause-ordered
moved-requires-clause-ordered c =
    let toa : SFits w64 c.orbit.inside.of.toa_ms = search rules in
    let o = c.requires.order in
    rw (elapsed-plain c.orbit.inside.of c.args.first c.ranges.first toa (subst (λ r. IsApplicable r c.args.first) (sym c.orbit.view_is) c.requires.first_applicable), elapsed-plain c.orbit.inside.of c.args.last c.ranges.last toa (subst (λ r. IsApplicable r c.args.last) (sym c.orbit.view_is) c.requires.last_applicable)) (omega (arith, ints))

pub moved-requires-clause-k_small : goal.moved-requires-clause-k_small
moved-requires-clause-k_small c =
    let toa : SFits w64 c.orbit.inside.of.toa_ms = search rules in
    let a = c.requires.first_applicable in
    let b = (subst (λ r. IsApplicable r c.args.first) (sym c.orbit.view_is) c.requires.first_applicable) in
    let bl = b.not_before in
    rw (elapsed-plain c.orbit.inside.of c.args.first c.ranges.first toa (subst (λ r. IsApplicable r c.args.first) (sym c.orbit.view_is) c.requires.first_applicable)) (omega (arith, ints))

pub moved-requires-clause-l_small : goal.moved-requires-clause-l_small
moved-requires-clause-l_small c =
    let toa : SFits w64 c.orbit.inside.of.toa_ms = search rules in
    let b = (subst (λ r. IsApplicable r c.args.last) (sym c.orbit.view_is) c.requires.last_applicable) in
    let bl = b.not_after in
    rw (elapsed-plain c.orbit.inside.of c.args.last c.ranges.last toa (subst (λ r. IsApplicable r c.args.last) (sym c.orbit.view_is) c.requires.last_applicable)) (omega (arith, ints))

pub moved_back-requires-clause-ordered : goal.moved_back-requires-clause-ordered
moved_back-requires-clause-ordered c =
    let toa : SFits w64 c.orbit.inside.of.toa_ms = search rules in
    let o = c.requires.order in
    rw (elapsed-plain c.orbit.inside.of c.args.first c.ranges.first toa (subst (λ r. IsApplicable r c.args.first) (sym c.orbit.view_is) c.requires.first_applicable), elapsed-plain c.orbit.inside.of c.args.last c.ranges.last toa (subst (λ r. IsApplicable r c.args.last) (sym c.orbit.view_is) c.requires.last_applicable)) (omega (arith, ints))

pub moved_back-requires-clause-k_small : goal.moved_back-requires-clause-k_small
moved_back-requires-clause-k_small c =
    let toa : SFits w64 c.orbit.inside.of.toa_ms = search rules in
    let a = c.requires.first_applicable in
    let b = (subst (λ r. IsApplicable r c.args.first) (sym c.orbit.view_is) c.requires.first_applicable) in
    let bl = b.not_before in
    rw (elapsed-plain c.orbit.inside.of c.args.first c.ranges.first toa (subst (λ r. IsApplicable r c.args.first) (sym c.orbit.view_is) c.requires.first_applicable)) (omega (arith, ints))

pub moved_back-requires-clause-l_small : goal.moved_back-requires-clause-l_small
moved_back-requires-clause-l_small c =
    let toa : SFits w64 c.orbit.inside.of.toa_ms = search rules in
    let b = (subst (λ r. IsApplicable r c.args.last) (sym c.orbit.view_is) c.requires.last_applicable) in
    let bl = b.not_after in
    rw (elapsed-plain c.orbit.inside.of c.args.last c.ranges.last toa (subst (λ r. IsApplicable r c.args.last) (sym c.orbit.view_is) c.requires.last_applicable)) (omega (arith, ints))

pub moved-requires-clause-start_small : goal.moved-requires-clause-start_small
moved-requires-clause-start_small c = (kept_bounded c.orbit.inside.of c.orbit.inside.kept c.orbit.invariant).mean_anomaly

pub moved-requires-clause-rate_small : goal.moved-requires-clause-rate_small
moved-requires-clause-rate_small c = from_around (kept_bounded c.orbit.inside.of c.orbit.inside.kept c.orbit.invariant).motion

pub moved_back-requires-clause-start_small : goal.moved_back-requires-clause-start_small
moved_back-requires-clause-start_small c = (kept_bounded c.orbit.inside.of c.orbit.inside.kept c.orbit.invariant).node

pub moved_back-requires-clause-rate_small : goal.moved_back-requires-clause-rate_small
moved_back-requires-clause-rate_small c = wider_around (2 ^ 51) (2 ^ 52) (lit≤ tt) (kept_bounded c.orbit.inside.of c.orbit.inside.kept c.orbit.invariant).drift

pub moved_back-requires-clause-turned_small : goal.moved_back-requires-clause-turned_small
moved_back-requires-clause-turned_small c = (kept_bounded c.orbit.inside.of c.orbit.inside.kept c.orbit.invariant).turned

pub ecc_sin_cos-anomaly-requires-clause-eps_low : goal.ecc_sin_cos-anomaly-requires-clause-eps_low
ecc_sin_cos-anomaly-requires-clause-eps_low c = (kept_bounded c.orbit.inside.of c.orbit.inside.kept c.orbit.invariant).in_turns.low

pub ecc_sin_cos-anomaly-requires-clause-eps_high : goal.ecc_sin_cos-anomaly-requires-clause-eps_high
ecc_sin_cos-anomaly-requires-clause-eps_high c = (kept_bounded c.orbit.inside.of c.orbit.inside.kept c.orbit.invariant).in_turns.high

pub perifocal_x-x-requires-clause-axis : goal.perifocal_x-x-requires-clause-axis
perifocal_x-x-requires-clause-axis c = (kept_bounded c.orbit.inside.of c.orbit.inside.kept c.orbit.invariant).semi_major_axis

pub perifocal_x-x-requires-clause-unit : goal.perifocal_x-x-requires-clause-unit
perifocal_x-x-requires-clause-unit c =
    let f : PairInside (pair_ends c.ecc_sin_cos-anomaly.result.0 c.ecc_sin_cos-anomaly.result.1) full_pair = subst (λ p. PairInside p full_pair) (sym c.ecc_sin_cos-anomaly.ensures.exact) (ecc_full (ends c.moved.result) (ends c.orbit.inside.kept.in_turns) c.moved.result.ordered (kept_bounded c.orbit.inside.of c.orbit.inside.kept c.orbit.invariant).in_turns) in
    f.cosine

pub perifocal_x-x-requires-clause-ratio : goal.perifocal_x-x-requires-clause-ratio
perifocal_x-x-requires-clause-ratio c = (kept_bounded c.orbit.inside.of c.orbit.inside.kept c.orbit.invariant).eccentricity

pub perifocal_y-y-requires-clause-axis : goal.perifocal_y-y-requires-clause-axis
perifocal_y-y-requires-clause-axis c = (kept_bounded c.orbit.inside.of c.orbit.inside.kept c.orbit.invariant).semi_minor_axis

pub perifocal_y-y-requires-clause-unit : goal.perifocal_y-y-requires-clause-unit
perifocal_y-y-requires-clause-unit c =
    let f : PairInside (pair_ends c.ecc_sin_cos-anomaly.result.0 c.ecc_sin_cos-anomaly.result.1) full_pair = subst (λ p. PairInside p full_pair) (sym c.ecc_sin_cos-anomaly.ensures.exact) (ecc_full (ends c.moved.result) (ends c.orbit.inside.kept.in_turns) c.moved.result.ordered (kept_bounded c.orbit.inside.of c.orbit.inside.kept c.orbit.invariant).in_turns) in
    f.sine

pub in_plane_x-requires-clause-x_small : goal.in_plane_x-requires-clause-x_small
unfolding perifocal_x_of
in_plane_x-requires-clause-x_small c = wider_around (51 * 2 ^ 38) (101 * 2 ^ 38) (lit≤ tt) (is_inside c.perifocal_x-x.result c.perifocal_x-x.ensures (perigee_x_inside (kept_elements c.orbit.inside.of c.orbit.inside.kept) (pair_ends c.ecc_sin_cos-anomaly.result.0 c.ecc_sin_cos-anomaly.result.1) (kept_bounded c.orbit.inside.of c.orbit.inside.kept c.orbit.invariant) (subst (λ p. PairInside p full_pair) (sym c.ecc_sin_cos-anomaly.ensures.exact) (ecc_full (ends c.moved.result) (ends c.orbit.inside.kept.in_turns) c.moved.result.ordered (kept_bounded c.orbit.inside.of c.orbit.inside.kept c.orbit.invariant).in_turns))))

pub in_plane_x-requires-clause-y_small : goal.in_plane_x-requires-clause-y_small
unfolding perifocal_y_of
in_plane_x-requires-clause-y_small c = wider_around (50 * 2 ^ 38) (101 * 2 ^ 38) (lit≤ tt) (is_inside c.perifocal_y-y.result c.perifocal_y-y.ensures (perigee_y_inside (kept_elements c.orbit.inside.of c.orbit.inside.kept) (pair_ends c.ecc_sin_cos-anomaly.result.0 c.ecc_sin_cos-anomaly.result.1) (kept_bounded c.orbit.inside.of c.orbit.inside.kept c.orbit.invariant) (subst (λ p. PairInside p full_pair) (sym c.ecc_sin_cos-anomaly.ensures.exact) (ecc_full (ends c.moved.result) (ends c.orbit.inside.kept.in_turns) c.moved.result.ordered (kept_bounded c.orbit.inside.of c.orbit.inside.kept c.orbit.invariant).in_turns))))

pub in_plane_x-requires-clause-sine_unit : goal.in_plane_x-requires-clause-sine_unit
in_plane_x-requires-clause-sine_unit c = (perigee_full c.orbit.inside.of c.orbit.inside.kept c.orbit.invariant).sine

pub in_plane_x-requires-clause-cosine_unit : goal.in_plane_x-requires-clause-cosine_unit
in_plane_x-requires-clause-cosine_unit c = (perigee_full c.orbit.inside.of c.orbit.inside.kept c.orbit.invariant).cosine

pub in_plane_y-requires-clause-x_small : goal.in_plane_y-requires-clause-x_small
unfolding perifocal_x_of
in_plane_y-requires-clause-x_small c = wider_around (51 * 2 ^ 38) (101 * 2 ^ 38) (lit≤ tt) (is_inside c.perifocal_x-x.result c.perifocal_x-x.ensures (perigee_x_inside (kept_elements c.orbit.inside.of c.orbit.inside.kept) (pair_ends c.ecc_sin_cos-anomaly.result.0 c.ecc_sin_cos-anomaly.result.1) (kept_bounded c.orbit.inside.of c.orbit.inside.kept c.orbit.invariant) (subst (λ p. PairInside p full_pair) (sym c.ecc_sin_cos-anomaly.ensures.exact) (ecc_full (ends c.moved.result) (ends c.orbit.inside.kept.in_turns) c.moved.result.ordered (kept_bounded c.orbit.inside.of c.orbit.inside.kept c.orbit.invariant).in_turns))))

pub in_plane_y-requires-clause-y_small : goal.in_plane_y-requires-clause-y_small
unfolding perifocal_y_of
in_plane_y-requires-clause-y_small c = wider_around (50 * 2 ^ 38) (101 * 2 ^ 38) (lit≤ tt) (is_inside c.perifocal_y-y.result c.perifocal_y-y.ensures (perigee_y_inside (kept_elements c.orbit.inside.of c.orbit.inside.kept) (pair_ends c.ecc_sin_cos-anomaly.result.0 c.ecc_sin_cos-anomaly.result.1) (kept_bounded c.orbit.inside.of c.orbit.inside.kept c.orbit.invariant) (subst (λ p. PairInside p full_pair) (sym c.ecc_sin_cos-anomaly.ensures.exact) (ecc_full (ends c.moved.result) (ends c.orbit.inside.kept.in_turns) c.moved.result.ordered (kept_bounded c.orbit.inside.of c.orbit.inside.kept c.orbit.invariant).in_turns))))

pub in_plane_y-requires-clause-sine_unit : goal.in_plane_y-requires-clause-sine_unit
in_plane_y-requires-clause-sine_unit c = (perigee_full c.orbit.inside.of c.orbit.inside.kept c.orbit.invariant).sine

pub in_plane_y-requires-clause-cosine_unit : goal.in_plane_y-requires-clause-cosine_unit
in_plane_y-requires-clause-cosine_unit c = (perigee_full c.orbit.inside.of c.orbit.inside.kept c.orbit.invariant).cosine

pub place-requires-clause-x_small : goal.place-requires-clause-x_small
unfolding perifocal_x_of perifocal_y_of
place-requires-clause-x_small c =
    let x = is_inside c.perifocal_x-x.result c.perifocal_x-x.ensures (perigee_x_inside (kept_elements c.orbit.inside.of c.orbit.inside.kept) (pair_ends c.ecc_sin_cos-anomaly.result.0 c.ecc_sin_cos-anomaly.result.1) (kept_bounded c.orbit.inside.of c.orbit.inside.kept c.orbit.invariant) (subst (λ p. PairInside p full_pair) (sym c.ecc_sin_cos-anomaly.ensures.exact) (ecc_full (ends c.moved.result) (ends c.orbit.inside.kept.in_turns) c.moved.result.ordered (kept_bounded c.orbit.inside.of c.orbit.inside.kept c.orbit.invariant).in_turns))) in
    let y = is_inside c.perifocal_y-y.result c.perifocal_y-y.ensures (perigee_y_inside (kept_elements c.orbit.inside.of c.orbit.inside.kept) (pair_ends c.ecc_sin_cos-anomaly.result.0 c.ecc_sin_cos-anomaly.result.1) (kept_bounded c.orbit.inside.of c.orbit.inside.kept c.orbit.invariant) (subst (λ p. PairInside p full_pair) (sym c.ecc_sin_cos-anomaly.ensures.exact) (ecc_full (ends c.moved.result) (ends c.orbit.inside.kept.in_turns) c.moved.result.ordered (kept_bounded c.orbit.inside.of c.orbit.inside.kept c.orbit.invariant).in_turns))) in
    is_inside c.in_plane_x.result c.in_plane_x.ensures (node_x_inside (ends c.perifocal_x-x.result) (ends c.perifocal_y-y.result) (pair_ends c.orbit.inside.kept.sin_perigee c.orbit.inside.kept.cos_perigee) x y (perigee_full c.orbit.inside.of c.orbit.inside.kept c.orbit.invariant))

pub place-requires-clause-y_small : goal.place-requires-clause-y_small
unfolding perifocal_x_of perifocal_y_of
place-requires-clause-y_small c =
    let x = is_inside c.perifocal_x-x.result c.perifocal_x-x.ensures (perigee_x_inside (kept_elements c.orbit.inside.of c.orbit.inside.kept) (pair_ends c.ecc_sin_cos-anomaly.result.0 c.ecc_sin_cos-anomaly.result.1) (kept_bounded c.orbit.inside.of c.orbit.inside.kept c.orbit.invariant) (subst (λ p. PairInside p full_pair) (sym c.ecc_sin_cos-anomaly.ensures.exact) (ecc_full (ends c.moved.result) (ends c.orbit.inside.kept.in_turns) c.moved.result.ordered (kept_bounded c.orbit.inside.of c.orbit.inside.kept c.orbit.invariant).in_turns))) in
    let y = is_inside c.perifocal_y-y.result c.perifocal_y-y.ensures (perigee_y_inside (kept_elements c.orbit.inside.of c.orbit.inside.kept) (pair_ends c.ecc_sin_cos-anomaly.result.0 c.ecc_sin_cos-anomaly.result.1) (kept_bounded c.orbit.inside.of c.orbit.inside.kept c.orbit.invariant) (subst (λ p. PairInside p full_pair) (sym c.ecc_sin_cos-anomaly.ensures.exact) (ecc_full (ends c.moved.result) (ends c.orbit.inside.kept.in_turns) c.moved.result.ordered (kept_bounded c.orbit.inside.of c.orbit.inside.kept c.orbit.invariant).in_turns))) in
    is_inside c.in_plane_y.result c.in_plane_y.ensures (node_y_inside (ends c.perifocal_x-x.result) (ends c.perifocal_y-y.result) (pair_ends c.orbit.inside.kept.sin_perigee c.orbit.inside.kept.cos_perigee) x y (perigee_full c.orbit.inside.of c.orbit.inside.kept c.orbit.invariant))

pub place-requires-clause-sin_node : goal.place-requires-clause-sin_node
place-requires-clause-sin_node c =
    let f : PairInside (pair_ends c.sin_cos-node.result.0 c.sin_cos-node.result.1) full_pair = subst (λ p. PairInside p full_pair) (sym c.sin_cos-node.ensures.exact) (sin_cos_full (ends c.moved_back.result) c.moved_back.result.ordered) in
    f.sine

pub place-requires-clause-cos_node : goal.place-requires-clause-cos_node
place-requires-clause-cos_node c =
    let f : PairInside (pair_ends c.sin_cos-node.result.0 c.sin_cos-node.result.1) full_pair = subst (λ p. PairInside p full_pair) (sym c.sin_cos-node.ensures.exact) (sin_cos_full (ends c.moved_back.result) c.moved_back.result.ordered) in
    f.cosine

pub place-requires-clause-sin_inclination : goal.place-requires-clause-sin_inclination
place-requires-clause-sin_inclination c = (inclination_full c.orbit.inside.of c.orbit.inside.kept c.orbit.invariant).sine

pub place-requires-clause-cos_inclination : goal.place-requires-clause-cos_inclination
place-requires-clause-cos_inclination c = (inclination_full c.orbit.inside.of c.orbit.inside.kept c.orbit.invariant).cosine

pub returns-clause-exact : goal.returns-clause-exact
unfolding mean_anomaly_over node_over perifocal_x_of perifocal_y_of position_of
returns-clause-exact c =
    let toa : SFits w64 c.orbit.inside.of.toa_ms = search rules in
    let e : Elements = kept_elements c.orbit.inside.of c.orbit.inside.kept in
    let i = c.orbit.invariant in
    let ek = elapsed-plain c.orbit.inside.of c.args.first c.ranges.first toa (subst (λ r. IsApplicable r c.args.first) (sym c.orbit.view_is) c.requires.first_applicable) in
    let el = elapsed-plain c.orbit.inside.of c.args.last c.ranges.last toa (subst (λ r. IsApplicable r c.args.last) (sym c.orbit.view_is) c.requires.last_applicable) in
    let k : ℤ = c.args.first -ℤ c.orbit.inside.of.toa_ms in
    let l : ℤ = c.args.last -ℤ c.orbit.inside.of.toa_ms in
    let m : ends c.moved.result ≡ mean_anomaly_over e k l = rw (ek, el) at c.moved.ensures.exact in
    let n : ends c.moved_back.result ≡ node_over e k l = rw (ek, el) at c.moved_back.ensures.exact in
    place-is e k l (ends c.perifocal_x-x.result) (ends c.perifocal_y-y.result) (ends c.in_plane_x.result) (ends c.in_plane_y.result) (pair_ends c.ecc_sin_cos-anomaly.result.0 c.ecc_sin_cos-anomaly.result.1) (pair_ends c.orbit.inside.kept.sin_perigee c.orbit.inside.kept.cos_perigee)
    (pair_ends c.sin_cos-node.result.0 c.sin_cos-node.result.1) (pair_ends c.orbit.inside.kept.sin_inclination c.orbit.inside.kept.cos_inclination) _
    c.place.ensures c.in_plane_x.ensures c.in_plane_y.ensures c.perifocal_x-x.ensures c.perifocal_y-y.ensures
    (c.ecc_sin_cos-anomaly.ensures.exact ∙ ap (λ (a : Ends). ecc_sin_cos_of a (ends c.orbit.inside.kept.in_turns)) m)
    i.perigee
    (c.sin_cos-node.ensures.exact ∙ ap sin_cos_of n)
    i.inclination
    ∙ ap (λ (a : Elements). place_over a k l) (kept-is c.orbit.inside.of c.orbit.inside.kept i)
    ∙ ap (λ r. position_of r c.args.first c.args.last) c.orbit.view_is

pub returns-clause-encloses : goal.returns-clause-encloses
returns-clause-encloses c t N s low high = subst (λ p. VectorLies p (satellite_position s)) (sym (returns-clause-exact c)) (position_encloses c.args.orbit.now c.args.first c.args.last t (subst IsAlmRecord c.orbit.view_is c.orbit.invariant.accepted) low high N s)

pub returns-clause-isotone : goal.returns-clause-isotone
returns-clause-isotone c f l low high = subst (λ p. VectorInside p (position_of c.args.orbit.now f l)) (sym (returns-clause-exact c)) (position_isotone c.args.orbit.now c.args.first c.args.last f l (subst IsAlmRecord c.orbit.view_is c.orbit.invariant.accepted) low c.requires.order high)

pub returns-clause-bound : goal.returns-clause-bound
returns-clause-bound c = subst (λ p. VectorBelow p (2 ^ 46)) (sym (returns-clause-exact c)) (position_below c.args.orbit.now c.args.first c.args.last (subst IsAlmRecord c.orbit.view_is c.orbit.invariant.accepted) c.requires.order)

pub returns-clause-narrow : goal.returns-clause-narrow
returns-clause-narrow c e = subst (λ p. VectorNarrow p (2 ^ 20)) (sym (returns-clause-exact c)) (subst (λ z. VectorNarrow (position_of c.args.orbit.now c.args.first z) (2 ^ 20)) e (position_width c.args.orbit.now c.args.first (subst IsAlmRecord c.orbit.view_is c.orbit.invariant.accepted) c.requires.first_applicable))
