use Rattle.std.proofs.Common.{arith, ◌^◌, ◌<◌}
use Rattle.fix_interval.specs.Intervals.{ends}
use Rattle.raim_model.specs.PointVerdict.{bias_of}
use Rattle.verdict_laws.specs.PieceVerdict.{kappa_over}
use Rattle.piece_verdict.proofs.Biases.{cast_square, kappa_given}
use Rattle.piece_verdict.proofs.factor.kappa.Goals as goal

pub returns : goal.returns
unfolding kappa_over
returns c =
    let small = c.bias-bias.ensures.small in
    let b : c.bias-bias.result < 2 ^ 32 = omega arith in
    let most = c.requires.alert.1 in
    let a : c.args.alert_mm < 2 ^ 32 = omega arith in
    kappa_given (ends c.from_ratio.result) c.bias-bias.result c.args.alert_mm (bias_of c.args.limits.now c.args.n) _ _ c.from_ratio.ensures.exact (cast_square c.bias-bias.result b) (cast_square c.args.alert_mm a) c.bias-bias.ensures.value
