-- How contracts see what the program has: as the definitions have it.
use Rattle.std.specs.Prelude.{◌≡◌, ◌⊎◌}
use Rattle.time_forms.specs.Programs.{form}
use Rattle.orbit_forms.specs.Positions.{VectorForm}
use Rattle.matrix_forms.specs.Views.{row_of}
use Rattle.look_forms.specs.Frames.{DirectionForm}
use Rattle.verdict_forms.specs.Sights.{SightTold, sure_visible, sure_hidden, not_sure}
use Rattle.sight_forms.specs.declared.components.Components.{Components}
use Rattle.sight_forms.specs.declared.parts.Parts.{Parts}
use Rattle.sight_forms.specs.declared.time_sight.TimeSight.{TimeSight}
use Rattle.sight_forms.specs.declared.time_sight.TimeSight.TheVariants.{Visible, Hidden, Unsure}

abbrev pub component_form : Components → VectorForm
component_form v = record { x = form v.x; y = form v.y; z = form v.z }

abbrev pub parts_form : Parts → DirectionForm
parts_form a = record { east = form a.east; north = form a.north; up = form a.up }

abbrev pub sight_told : TimeSight → SightTold
sight_told (Visible row) = sure_visible (row_of row)
sight_told Hidden = sure_hidden
sight_told Unsure = not_sure

-- nothing is told, or what is told is what the definition tells
abbrev pub IsOrUnsure : SightTold → SightTold → Type 0
IsOrUnsure told definition = (told ≡ not_sure) ⊎ (told ≡ definition)
