-- How contracts see the intervals of this crate, as plain ends.
use Rattle.fix_interval.specs.Ends.{Ends}
use Rattle.fix_interval.specs.Intervals.{ends_64}
use Rattle.fix_interval.specs.Pairs.{PairEnds}
use Rattle.fix_interval.specs.Ranges.{from_to}
use Rattle.trig_enclose.specs.declared.unit_iv.UnitIv.{UnitIv}
use Rattle.trig_enclose.specs.declared.pair.Pair64.{Pair64}

-- the ends of an interval from 0 to 1
abbrev pub unit_iv_ends : UnitIv → Ends
unit_iv_ends a = from_to a.lo a.hi

-- the ends of a sine and of a cosine
abbrev pub pair_ends_64 : Pair64 → PairEnds
pair_ends_64 p = record { sine = ends_64 p.sine; cosine = ends_64 p.cosine }
