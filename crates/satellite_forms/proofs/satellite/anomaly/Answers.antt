use Rattle.std.proofs.Common.{ap, ◌∙◌, unsigned_abs}
use Rattle.std.proofs.lemmas.Int.{to_z-of_z}
use Rattle.std.specs.Option.{option_map}
use mir.Syntax.{w64}
use Rattle.fix_interval.specs.Intervals.{ends}
use Rattle.time_forms.specs.Programs.{form}
use Rattle.angle_forms.specs.Pairs.{pair_form}
use Rattle.almanac_orbit.proofs.KeptElements.{kept_bounded}
use Rattle.satellite_forms.proofs.Bounds.{kept_within}
use Rattle.satellite_forms.proofs.Found.{anomaly_none, anomaly_some}
use Rattle.satellite_forms.proofs.satellite.anomaly.Goals as goal

pub moved-requires-clause-start_small : goal.moved-requires-clause-start_small
moved-requires-clause-start_small c = (kept_within c.requires.kept.0 c.args.kept.now c.requires.kept.1).mean_anomaly

pub moved-requires-clause-rate_small : goal.moved-requires-clause-rate_small
moved-requires-clause-rate_small c = (kept_within c.requires.kept.0 c.args.kept.now c.requires.kept.1).motion

pub returns-in_err-mean-clause-exact : goal.returns-in_err-mean-clause-exact
returns-in_err-mean-clause-exact c =
    let k = c.args.kept.now in
    ap (option_map pair_form) c.from_residual.ensures
    ∙ anomaly_none (ends k.mean_anomaly) (ends k.motion) (ends k.in_turns) c.args.k (unsigned_abs c.args.half) (rw (to_z-of_z w64 c.args.k c.ranges.k, to_z-of_z w64 c.args.half c.ranges.half) at c.in_err-mean.ensures.exact)

pub ecc_sin_cos-requires-clause-eps_low : goal.ecc_sin_cos-requires-clause-eps_low
ecc_sin_cos-requires-clause-eps_low c = (kept_bounded c.requires.kept.0 c.args.kept.now c.requires.kept.1).in_turns.low

pub ecc_sin_cos-requires-clause-eps_high : goal.ecc_sin_cos-requires-clause-eps_high
ecc_sin_cos-requires-clause-eps_high c = (kept_bounded c.requires.kept.0 c.args.kept.now c.requires.kept.1).in_turns.high

pub returns-clause-exact : goal.returns-clause-exact
returns-clause-exact c =
    let k = c.args.kept.now in
    c.ecc_sin_cos.ensures.exact
    ∙ anomaly_some (ends k.mean_anomaly) (ends k.motion) (ends k.in_turns) c.args.k (unsigned_abs c.args.half) (form c.in_ok-mean.mean) (rw (to_z-of_z w64 c.args.k c.ranges.k, to_z-of_z w64 c.args.half c.ranges.half) at c.in_ok-mean.ensures.exact)
