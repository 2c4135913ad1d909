use Rattle.std.proofs.Common.{◌∙◌, ap}
use Rattle.fix_interval.specs.Intervals.{ends, ends_64}
use Rattle.fix_interval.specs.Products.{mul_wide_of, checked_mul_of}
use Rattle.slope_laws.specs.ShiftSlopes.{compared, outcome_of}
use Rattle.slope_test.proofs.detection.slope_at.Goals as goal

pub returns : goal.returns
unfolding outcome_of
returns c = c.one_slope.ensures ∙ ap (λ q. compared (checked_mul_of (ends c.args.kappa) q) (mul_wide_of (ends_64 c.args.determinant) (ends_64 c.args.less))) c.squared.ensures.exact
