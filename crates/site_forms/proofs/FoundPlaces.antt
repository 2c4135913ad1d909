-- The form of a place, found step by step: where a step has none, there is none, and otherwise what follows is found from it.
use Rattle.std.proofs.Common.{sym, ◌≡◌, ◌∙◌, ℕ, ℤ, Option, Some, None}
use Rattle.std.specs.Prelude.{IfSome}
use Rattle.std.specs.Option.{option_map}
use Rattle.raim_model.specs.declared.waypoint.Waypoint.{Waypoint}
use Rattle.fix_interval.specs.Ends.{Ends}
use Rattle.fix_interval.specs.Decimals.{from_dec_over_of}
use Rattle.time_forms.specs.Forms.{Form}
use Rattle.time_forms.specs.Programs.{short_of}
use Rattle.angle_forms.specs.Checked.{◌>>=◌}
use Rattle.angle_forms.proofs.Steps.{none_step, some_step}
use Rattle.site_forms.specs.declared.time_place.TimePlace.{TimePlace}
use Rattle.site_forms.specs.Places.{PlaceForm, place_form, along_form, checked_place_over}

-- the forms of the three parts
abbrev pub latitude_form : (start stop : Waypoint) → ℤ → ℕ → Form
latitude_form start stop mid h = along_form start.at stop.at mid h (from_dec_over_of start.lat 360) (from_dec_over_of stop.lat 360)

abbrev pub longitude_form : (start stop : Waypoint) → ℤ → ℕ → Form
longitude_form start stop mid h = along_form start.at stop.at mid h (from_dec_over_of start.lon 360) (from_dec_over_of stop.lon 360)

abbrev pub height_form : (start stop : Waypoint) → ℤ → ℕ → Form
height_form start stop mid h = along_form start.at stop.at mid h (from_dec_over_of start.height 1000000) (from_dec_over_of stop.height 1000000)

-- the place, after the latitude, and after the longitude
abbrev after_longitude : (start stop : Waypoint) → ℤ → ℕ → (a b : Form) → Option PlaceForm
after_longitude start stop mid h a b = short_of (height_form start stop mid h) >>= (λ c. Some (record { lat = a; lon = b; height = c }))

abbrev after_latitude : (start stop : Waypoint) → ℤ → ℕ → Form → Option PlaceForm
after_latitude start stop mid h a = short_of (longitude_form start stop mid h) >>= after_longitude start stop mid h a

pub place_none : (start stop : Waypoint) (mid : ℤ) (h : ℕ) → None ≡ short_of (latitude_form start stop mid h) → None ≡ checked_place_over start stop mid h
unfolding checked_place_over
place_none start stop mid h e = none_step (short_of (latitude_form start stop mid h)) (after_latitude start stop mid h) e

place_latitude : (start stop : Waypoint) (mid : ℤ) (h : ℕ) (a : Form) → Some a ≡ short_of (latitude_form start stop mid h) → after_latitude start stop mid h a ≡ checked_place_over start stop mid h
unfolding checked_place_over
place_latitude start stop mid h a e = some_step (short_of (latitude_form start stop mid h)) a (after_latitude start stop mid h) e

pub place_half : (start stop : Waypoint) (mid : ℤ) (h : ℕ) (a : Form) → Some a ≡ short_of (latitude_form start stop mid h) → None ≡ short_of (longitude_form start stop mid h) → None ≡ checked_place_over start stop mid h
place_half start stop mid h a e n = none_step (short_of (longitude_form start stop mid h)) (after_longitude start stop mid h a) n ∙ place_latitude start stop mid h a e

place_longitude : (start stop : Waypoint) (mid : ℤ) (h : ℕ) (a b : Form) → Some a ≡ short_of (latitude_form start stop mid h) → Some b ≡ short_of (longitude_form start stop mid h) → after_longitude start stop mid h a b ≡ checked_place_over start stop mid h
place_longitude start stop mid h a b e f = some_step (short_of (longitude_form start stop mid h)) b (after_longitude start stop mid h a) f ∙ place_latitude start stop mid h a e

pub place_short : (start stop : Waypoint) (mid : ℤ) (h : ℕ) (a b : Form) → Some a ≡ short_of (latitude_form start stop mid h) → Some b ≡ short_of (longitude_form start stop mid h) → None ≡ short_of (height_form start stop mid h) → None ≡ checked_place_over start stop mid h
place_short start stop mid h a b e f n = none_step (short_of (height_form start stop mid h)) (λ c. Some (record { lat = a; lon = b; height = c })) n ∙ place_longitude start stop mid h a b e f

pub place_some : (start stop : Waypoint) (mid : ℤ) (h : ℕ) (a b c : Form) → Some a ≡ short_of (latitude_form start stop mid h) → Some b ≡ short_of (longitude_form start stop mid h) → Some c ≡ short_of (height_form start stop mid h)
    → Some (record { lat = a; lon = b; height = c }) ≡ checked_place_over start stop mid h
place_some start stop mid h a b c e f g = some_step (short_of (height_form start stop mid h)) c (λ t. Some (record { lat = a; lon = b; height = t })) g ∙ place_longitude start stop mid h a b e f

-- a form along a leg, of equal times and equal ends
pub short_line : {s e s' e' : ℤ} {a b a' b' : Ends} (m : ℤ) (h : ℕ) → s ≡ s' → e ≡ e' → a ≡ a' → b ≡ b' → short_of (along_form s e m h a b) ≡ short_of (along_form s' e' m h a' b')
short_line m h p q i j = λ t. short_of (along_form (p t) (q t) m h (i t) (j t))

-- what holds of the place that is seen holds of the program's
pub if_place : (r : Option TimePlace) (o : Option PlaceForm) → option_map place_form r ≡ o → (P : PlaceForm → Type 0) → ((p : PlaceForm) → o ≡ Some p → P p) → IfSome r (λ t. P (place_form t))
if_place None o e P k = tt
if_place (Some t) o e P k = k (place_form t) (sym e)
