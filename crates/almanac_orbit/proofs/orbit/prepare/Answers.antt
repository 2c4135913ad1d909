use Rattle.std.proofs.Common.{rules, ap, ap₂, sym, ◌∙◌, ◌^◌, ℤ, pos}
use mir.Val.{SFits}
use mir.Syntax.{w64}
use lib.Dec.{lit≤}
use Rattle.std.specs.Int.{int_rem_euclid}
use Rattle.std.proofs.lemmas.Int.{to_z-of_z}
use Rattle.fix_interval.specs.Ends.{Ends}
use Rattle.fix_interval.specs.Products.{mul_of, scale_int_of}
use Rattle.fix_interval.specs.Sums.{sub_of}
use Rattle.fix_interval.proofs.EndInsides.{around_within, is_inside}
use Rattle.trig_laws.specs.SinCos.{sin_cos_of}
use Rattle.orbit_laws.specs.Angles.{rate_of, earth_rate}
use Rattle.orbit_laws.specs.Elements.{elements_of, semi_major_root_of, semi_major_axis_of, cube_of, motion_of, in_turns_of, axis_ratio_of}
use Rattle.orbit_laws.proofs.Angles.{turns_inside, rate_inside, earth_rate-is, record_angles}
use Rattle.orbit_laws.proofs.Elements.{root_inside, axis_inside, eccentricity_inside}
use Rattle.almanac_orbit.proofs.orbit.prepare.Goals as goal

pub semi_major_axis-axis-requires : goal.semi_major_axis-axis-requires
unfolding semi_major_root_of
semi_major_axis-axis-requires c = is_inside c.dec56_milli-root.result c.dec56_milli-root.ensures.exact (root_inside c.args.rec.now c.requires)

pub turns-requires : goal.turns-requires
turns-requires c = (record_angles c.args.rec.now c.requires.angles).perigee

pub sin_cos-perigee-requires : goal.sin_cos-perigee-requires
sin_cos-perigee-requires c = around_within c.turns.result (2 ^ 41) (2 ^ 60) (lit≤ tt) (is_inside c.turns.result c.turns.ensures (turns_inside c.args.rec.now.perigee (record_angles c.args.rec.now c.requires.angles).perigee))

pub turns-requires-2 : goal.turns-requires-2
turns-requires-2 c = (record_angles c.args.rec.now c.requires.angles).incl

pub sin_cos-inclination-requires : goal.sin_cos-inclination-requires
sin_cos-inclination-requires c = around_within c.turns-2.result (2 ^ 41) (2 ^ 60) (lit≤ tt) (is_inside c.turns-2.result c.turns-2.ensures (turns_inside c.args.rec.now.incl (record_angles c.args.rec.now c.requires.angles).incl))

pub motion-requires : goal.motion-requires
unfolding semi_major_root_of
motion-requires c = is_inside c.dec56_milli-root.result c.dec56_milli-root.ensures.exact (root_inside c.args.rec.now c.requires)

pub in_turns-requires : goal.in_turns-requires
in_turns-requires c = is_inside c.from_dec-eccentricity.result c.from_dec-eccentricity.ensures.exact (eccentricity_inside c.args.rec.now c.requires)

pub semi_minor_axis-requires-clause-axis : goal.semi_minor_axis-requires-clause-axis
unfolding semi_major_root_of
semi_minor_axis-requires-clause-axis c = is_inside c.semi_major_axis-axis.result (c.semi_major_axis-axis.ensures ∙ ap semi_major_axis_of c.dec56_milli-root.ensures.exact) (axis_inside (semi_major_root_of c.args.rec.now) (root_inside c.args.rec.now c.requires))

pub semi_minor_axis-requires-clause-ratio : goal.semi_minor_axis-requires-clause-ratio
semi_minor_axis-requires-clause-ratio c = is_inside c.from_dec-eccentricity.result c.from_dec-eccentricity.ensures.exact (eccentricity_inside c.args.rec.now c.requires)

pub turns-requires-3 : goal.turns-requires-3
turns-requires-3 c = (record_angles c.args.rec.now c.requires.angles).m0

pub turns-requires-4 : goal.turns-requires-4
turns-requires-4 c = (record_angles c.args.rec.now c.requires.angles).omega0

pub rate-requires : goal.rate-requires
rate-requires c = (record_angles c.args.rec.now c.requires.angles).rate

pub sub-requires-clause-a_small : goal.sub-requires-clause-a_small
sub-requires-clause-a_small c = around_within c.rate.result (2 ^ 47) (2 ^ 125) (lit≤ tt) (is_inside c.rate.result c.rate.ensures (rate_inside c.args.rec.now.rate (record_angles c.args.rec.now c.requires.angles).rate))

pub invariant_of-result : goal.invariant_of-result
unfolding elements_of semi_major_root_of
invariant_of-result c =
    let toa : SFits w64 c.args.rec.now.toa_ms = search rules in
    let root = c.dec56_milli-root.ensures.exact in
    let axis = c.semi_major_axis-axis.ensures ∙ ap semi_major_axis_of root in
    let ratio = c.from_dec-eccentricity.ensures.exact in
    record {
      accepted = c.requires;
      semi_major_axis = axis;
      motion = c.motion.ensures ∙ ap (λ (s : Ends). motion_of (cube_of s)) root;
      eccentricity = ratio;
      in_turns = c.in_turns.ensures ∙ ap in_turns_of ratio;
      semi_minor_axis = c.semi_minor_axis.ensures ∙ ap₂ (λ (a e : Ends). mul_of a (axis_ratio_of e)) axis ratio;
      mean_anomaly = c.turns-3.ensures;
      node = c.turns-4.ensures;
      perigee = c.sin_cos-perigee.ensures.exact ∙ ap sin_cos_of c.turns.ensures;
      inclination = c.sin_cos-inclination.ensures.exact ∙ ap sin_cos_of c.turns-2.ensures;
      drift = c.sub.ensures.exact ∙ ap₂ sub_of c.rate.ensures (sym earth_rate-is);
      turned = c.turned.ensures ∙ ap (λ (z : ℤ). scale_int_of (rate_of earth_rate) (int_rem_euclid z (pos 604800000)) (int_rem_euclid z (pos 604800000))) (to_z-of_z w64 c.args.rec.now.toa_ms toa);
    }
