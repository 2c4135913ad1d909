-- How contracts see a place of the program.
use Rattle.fix_interval.specs.Intervals.{ends}
use Rattle.site_laws.specs.Places.{PlaceEnds}
use Rattle.leg_place.specs.declared.place_box.PlaceBox.{PlaceBox}

-- the ends of the parts of a place
abbrev pub place_ends : PlaceBox → PlaceEnds
place_ends p = record { lat = ends p.lat; lon = ends p.lon; height = ends p.height }
