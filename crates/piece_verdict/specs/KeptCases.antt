-- What is kept of a case and of its satellites.
use Rattle.std.specs.Prelude.{◌≡◌, ◌≤◌, ℤ, List, map}
use Rattle.raim_model.specs.declared.almanac.AlmRecord.{AlmRecord}
use Rattle.raim_model.specs.AlmanacInForce.{time_of}
use Rattle.raim_model.specs.CaseRanges.{IsCase}
use Rattle.raim_model.specs.Solution.{Case}
use Rattle.fix_interval.specs.declared.interval.Iv.{Iv}
use Rattle.fix_interval.specs.Intervals.{ends}
use Rattle.case_laws.specs.SightOver.{mask_of}

-- the times of its almanacs, and the sine of its mask
pub record IsKeptCase (c : Case) (times : List ℤ) (mask : Iv) : Type 0 where
  pub case : IsCase c
  pub of_almanacs : map time_of c.almanacs ≡ times
  pub sine : ends mask ≡ mask_of c.limits

-- a satellite's orbit is that of its record, and its number is from 1 to 32
pub record IsKeptSatellite (rec orbit : AlmRecord) : Type 0 where
  pub orbit_of : orbit ≡ rec
  pub some : 1 ≤ rec.prn
  pub most : rec.prn ≤ 32
