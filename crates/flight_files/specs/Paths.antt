-- The four paths, as texts.
use Rattle.raim_base.specs.MemDeskState.{Each}
use Rattle.text_lines.specs.Lines.{Text}
use Rattle.flight_files.specs.declared.paths.FlightPaths.{FlightPaths}

abbrev pub paths_of : FlightPaths → Each Text
paths_of paths = record {
  limits = paths.limits.now;
  almanac = paths.almanac.now;
  outages = paths.outages.now;
  route = paths.route.now;
}
