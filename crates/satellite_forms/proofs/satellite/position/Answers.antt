use Rattle.std.proofs.Common.{rules, ap, subst, ◌∙◌, ◌≡◌, ℤ, ℕ, ◌+ℤ◌, ◌-ℤ◌, Some, None, unsigned_abs, to_z, of_z}
use Rattle.std.proofs.lemmas.Int.{to_z-of_z}
use Rattle.std.specs.Option.{option_map}
use mir.Syntax.{w64}
use mir.Val.{SFits}
use Rattle.raim_model.specs.declared.almanac.AlmRecord.{AlmRecord}
use Rattle.raim_model.specs.AlmanacRanges.{IsApplicable}
use Rattle.fix_interval.specs.Intervals.{ends}
use Rattle.orbit_laws.specs.Elements.{elements_of}
use Rattle.orbit_laws.specs.Positions.{position_of}
use Rattle.orbit_forms.specs.Positions.{PairForm, VectorHolds}
use Rattle.angle_forms.specs.Pairs.{pair_form}
use Rattle.angle_forms.specs.Vectors.{vector_form}
use Rattle.angle_forms.proofs.Steps.{if_vector}
use Rattle.almanac_orbit.proofs.KeptElements.{elapsed-plain}
use Rattle.satellite_forms.specs.Checked.{checked_anomaly, checked_node, checked_position}
use Rattle.satellite_forms.proofs.Found.{over_none, over_half, over_some, kept_anomaly-is, kept_node-is}
use Rattle.satellite_forms.proofs.Places.{position_holds}
use Rattle.satellite_forms.proofs.satellite.position.Goals as goal

-- the milliseconds from the time of applicability to the middle, as the program takes them
elapsed-is : (rec : AlmRecord) (t a : ℤ) → SFits w64 t → SFits w64 a → a ≡ rec.toa_ms → IsApplicable rec t → to_z w64 (of_z w64 (to_z w64 (of_z w64 t) -ℤ to_z w64 (of_z w64 a))) ≡ t -ℤ rec.toa_ms
elapsed-is rec t a f g e i = rw e (elapsed-plain rec t f (subst (λ (z : ℤ). SFits w64 z) e g) i)

pub returns-in_err-anomaly-clause-exact : goal.returns-in_err-anomaly-clause-exact
unfolding checked_position
returns-in_err-anomaly-clause-exact c =
    let rec = c.args.orbit.now in
    let kept = c.orbit_elements-kept.result.now in
    let i = c.orbit_elements-kept.ensures in
    let h : ℕ = unsigned_abs c.args.half in
    let k : ℤ = c.args.middle -ℤ rec.toa_ms in
    let toa : SFits w64 c.time_of_applicability.result = search rules in
    let n : None ≡ checked_anomaly (ends kept.mean_anomaly) (ends kept.motion) (ends kept.in_turns) k h = rw (elapsed-is rec c.args.middle c.time_of_applicability.result c.ranges.middle toa c.time_of_applicability.ensures c.requires.applicable, to_z-of_z w64 c.args.half c.ranges.half) at c.in_err-anomaly.ensures.exact in
    ap (option_map vector_form) c.from_residual.ensures ∙ over_none (elements_of rec) k h (n ∙ kept_anomaly-is rec kept i k h)

pub returns-in_err-node-clause-exact : goal.returns-in_err-node-clause-exact
unfolding checked_position
returns-in_err-node-clause-exact c =
    let rec = c.args.orbit.now in
    let kept = c.orbit_elements-kept.result.now in
    let i = c.orbit_elements-kept.ensures in
    let h : ℕ = unsigned_abs c.args.half in
    let k : ℤ = c.args.middle -ℤ rec.toa_ms in
    let toa : SFits w64 c.time_of_applicability.result = search rules in
    let t = elapsed-is rec c.args.middle c.time_of_applicability.result c.ranges.middle toa c.time_of_applicability.ensures c.requires.applicable in
    let a : PairForm = pair_form c.in_ok-anomaly.anomaly in
    let m : Some a ≡ checked_anomaly (ends kept.mean_anomaly) (ends kept.motion) (ends kept.in_turns) k h = rw (t, to_z-of_z w64 c.args.half c.ranges.half) at c.in_ok-anomaly.ensures.exact in
    let n : None ≡ checked_node (ends kept.node) (ends kept.drift) (ends kept.turned) k h = rw (t, to_z-of_z w64 c.args.half c.ranges.half) at c.in_err-node.ensures.exact in
    ap (option_map vector_form) c.from_residual-in_err-node.ensures ∙ over_half (elements_of rec) k h a (m ∙ kept_anomaly-is rec kept i k h) (n ∙ kept_node-is rec kept i k h)

pub returns-clause-exact : goal.returns-clause-exact
unfolding checked_position
returns-clause-exact c =
    let rec = c.args.orbit.now in
    let kept = c.orbit_elements-kept.result.now in
    let i = c.orbit_elements-kept.ensures in
    let h : ℕ = unsigned_abs c.args.half in
    let k : ℤ = c.args.middle -ℤ rec.toa_ms in
    let toa : SFits w64 c.time_of_applicability.result = search rules in
    let t = elapsed-is rec c.args.middle c.time_of_applicability.result c.ranges.middle toa c.time_of_applicability.ensures c.requires.applicable in
    let a : PairForm = pair_form c.in_ok-anomaly.anomaly in
    let o : PairForm = pair_form c.in_ok-node.node in
    let m : Some a ≡ checked_anomaly (ends kept.mean_anomaly) (ends kept.motion) (ends kept.in_turns) k h = rw (t, to_z-of_z w64 c.args.half c.ranges.half) at c.in_ok-anomaly.ensures.exact in
    let n : Some o ≡ checked_node (ends kept.node) (ends kept.drift) (ends kept.turned) k h = rw (t, to_z-of_z w64 c.args.half c.ranges.half) at c.in_ok-node.ensures.exact in
    c.in_orbit.ensures.exact rec i ∙ over_some (elements_of rec) k h a o (m ∙ kept_anomaly-is rec kept i k h) (n ∙ kept_node-is rec kept i k h)

pub returns-clause-holds : goal.returns-clause-holds
returns-clause-holds c d t =
    let h = unsigned_abs c.args.half in
    if_vector _ (checked_position c.args.orbit.now c.args.middle h) (returns-clause-exact c) (λ p. VectorHolds h d p (position_of c.args.orbit.now (c.args.middle +ℤ d) (c.args.middle +ℤ d)))
    (λ p e. position_holds h d c.args.orbit.now c.args.middle p c.orbit_elements-kept.ensures.accepted t e)
