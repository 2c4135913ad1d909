-- The case of limits, almanacs, outages and a route.
use Rattle.std.specs.Prelude.{List}
use Rattle.raim_model.specs.declared.almanac.AlmRecord.{AlmRecord}
use Rattle.raim_model.specs.declared.limits.Limits.{Limits}
use Rattle.raim_model.specs.declared.outage.Outage.{Outage}
use Rattle.raim_model.specs.declared.waypoint.Waypoint.{Waypoint}
use Rattle.raim_model.specs.Solution.{Case}

abbrev pub case_of : Limits → List (List AlmRecord) → List Outage → List Waypoint → Case
case_of limits almanacs outages route = record { limits = limits; almanacs = almanacs; outages = outages; route = route }
