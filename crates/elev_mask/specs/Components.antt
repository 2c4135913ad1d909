-- How contracts see the three components of the program.
use Rattle.fix_interval.specs.Intervals.{ends}
use Rattle.fix_interval.specs.Vectors.{VectorEnds}
use Rattle.elev_mask.specs.declared.components.Components.{Components}

-- the ends of the components
abbrev pub component_ends : Components → VectorEnds
component_ends v = record { x = ends v.x; y = ends v.y; z = ends v.z }
