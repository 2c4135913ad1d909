-- The ranges of a case that four accepted files give.
use Rattle.std.specs.Prelude.{List, Contains}
use Rattle.raim_model.specs.declared.almanac.AlmRecord.{AlmRecord}
use Rattle.raim_model.specs.Ranges.{IsLimits, AreOutages, IsRoute}
use Rattle.raim_model.specs.AlmanacRanges.{AreAlmanacs}
use Rattle.raim_model.specs.Route.{flight_of}
use Rattle.raim_model.specs.Solution.{Case}

pub record IsCase (c : Case) : Type 0 where
  pub limits : IsLimits c.limits
  pub almanacs : AreAlmanacs (flight_of c.route) c.almanacs
  pub outages : AreOutages c.outages
  pub route : IsRoute c.route

-- the record is one of an almanac of the case
pub record IsListed (c : Case) (rec : AlmRecord) : Type 0 where
  pub almanac : List AlmRecord
  pub is : Contains c.almanacs almanac
  pub has : Contains almanac rec
