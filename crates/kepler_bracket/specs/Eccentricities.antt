-- How contracts see an eccentricity of this crate, as plain ends.
use Rattle.fix_interval.specs.Ends.{Ends}
use Rattle.fix_interval.specs.Ranges.{from_to}
use Rattle.kepler_bracket.specs.declared.eccentricity.EccentricityInTurns.{EccentricityInTurns}

abbrev pub eccentricity_ends : EccentricityInTurns → Ends
eccentricity_ends e = from_to e.lo e.hi
