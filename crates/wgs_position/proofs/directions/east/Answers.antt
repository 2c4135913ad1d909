use Rattle.std.proofs.Common.{ap, pos}
use Rattle.fix_interval.specs.Intervals.{ends}
use Rattle.fix_interval.specs.Ranges.{point}
use Rattle.site_laws.specs.Frames.{east_of}
use Rattle.wgs_position.proofs.directions.east.Goals as goal

pub returns : goal.returns
unfolding east_of
returns c = ap (λ t. record { x = t; y = ends c.args.lon.1; z = point (pos 0) }) c.negative.ensures
