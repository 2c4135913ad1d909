-- Forms of a receiver's place on a leg, over a piece of time from mid - h to mid + h.
use Rattle.std.specs.Prelude.{ℕ, ℤ, ◌+ℤ◌, ◌-ℤ◌, ◌*ℤ◌, unsigned_abs, Option, Some}
use Rattle.raim_model.specs.declared.waypoint.Waypoint.{Waypoint}
use Rattle.fix_interval.specs.Ends.{Ends}
use Rattle.fix_interval.specs.Decimals.{from_dec_over_of}
use Rattle.site_laws.specs.Places.{PlaceEnds}
use Rattle.time_forms.specs.Forms.{Form, Holds}
use Rattle.time_forms.specs.Operations.{moving_of, coarser_form}
use Rattle.time_forms.specs.Programs.{form, short_of, IsFormWithin}
use Rattle.angle_forms.specs.Checked.{◌>>=◌}
use Rattle.site_forms.specs.declared.time_place.TimePlace.{TimePlace}

-- the forms of latitude and longitude, in turns, and of the height, in Mm
pub record PlaceForm : Type 0 where
  pub lat : Form
  pub lon : Form
  pub height : Form

-- how contracts see those of the program
abbrev pub place_form : TimePlace → PlaceForm
place_form p = record { lat = form p.lat; lon = form p.lon; height = form p.height }

-- the numbers of each have a magnitude of at most m
pub record IsPlaceWithin (p : PlaceForm) (m : ℕ) : Type 0 where
  pub lat : IsFormWithin p.lat m
  pub lon : IsFormWithin p.lon m
  pub height : IsFormWithin p.height m

-- each part of p lies in its form
pub record PlaceHolds (h : ℕ) (d : ℤ) (f : PlaceForm) (p : PlaceEnds) : Type 0 where
  pub lat : Holds h d f.lat p.lat
  pub lon : Holds h d f.lon p.lon
  pub height : Holds h d f.height p.height

-- on the line from a at start to b at stop: what its length in milliseconds times the value is at mid, and grows by each millisecond
abbrev pub weighted_of : (start stop mid : ℤ) → Ends → Ends → Ends
weighted_of start stop mid a b = record {
  lo = a.lo *ℤ (stop -ℤ mid) +ℤ b.lo *ℤ (mid -ℤ start);
  hi = a.hi *ℤ (stop -ℤ mid) +ℤ b.hi *ℤ (mid -ℤ start);
}

abbrev pub growth_of : Ends → Ends → Ends
growth_of a b = record { lo = b.lo -ℤ a.lo; hi = b.hi -ℤ a.hi }

-- the value along the line
unfoldable pub along_form : (start stop mid : ℤ) → ℕ → Ends → Ends → Form
along_form start stop mid h a b = coarser_form (moving_of (weighted_of start stop mid a b) (growth_of a b) h) (unsigned_abs (stop -ℤ start))

-- where a flight is over the piece, on the leg between two waypoints, where each number fits 64 bits, and otherwise none
unfoldable pub checked_place_over : (start stop : Waypoint) → (mid : ℤ) → ℕ → Option PlaceForm
checked_place_over start stop mid h = do
  a ← short_of (along_form start.at stop.at mid h (from_dec_over_of start.lat 360) (from_dec_over_of stop.lat 360))
  b ← short_of (along_form start.at stop.at mid h (from_dec_over_of start.lon 360) (from_dec_over_of stop.lon 360))
  c ← short_of (along_form start.at stop.at mid h (from_dec_over_of start.height 1000000) (from_dec_over_of stop.height 1000000))
  Some (record { lat = a; lon = b; height = c })
