-- How contracts see a sight of the program.
use Rattle.std.specs.Prelude.{List, [], ◌∷◌}
use Rattle.fix_interval.specs.declared.Iv.{Iv}
use Rattle.fix_interval.specs.Intervals.{ends}
use Rattle.fix_interval.specs.Ranges.{zero_ends}
use Rattle.site_laws.specs.Sights.{DirectionEnds, SightEnds, visible, hidden, straddle}
use Rattle.elev_mask.specs.declared.sight.Sight.{Sight}
use Rattle.elev_mask.specs.declared.sight.Sight.TheVariants.{Visible, Hidden, Straddle}

-- the ends of a direction's parts
abbrev pub direction_ends : List Iv → DirectionEnds
direction_ends (e ∷ n ∷ u ∷ []) = record { east = ends e; north = ends n; up = ends u }
direction_ends _ = record { east = zero_ends; north = zero_ends; up = zero_ends }

-- the decision, with the direction where the satellite is visible
abbrev pub sight_ends : Sight → SightEnds
sight_ends (Visible direction) = visible (direction_ends direction)
sight_ends Hidden = hidden
sight_ends Straddle = straddle
