-- A case, and what the model admits at one of its milliseconds: solutions, and the verdict that all of them have.
use Rattle.std.specs.Prelude.{◌≡◌, ℕ, ℤ, ◌≤ℤ◌, ◌<ℤ◌, Bool, if◌then◌else◌, List, [], ◌∷◌, filter, ⊤}
use Rattle.fractions.specs.Fraction.{Fraction}
use Rattle.raim_model.specs.declared.almanac.AlmRecord.{AlmRecord}
use Rattle.raim_model.specs.declared.waypoint.Waypoint.{Waypoint}
use Rattle.raim_model.specs.declared.outage.Outage.{Outage}
use Rattle.raim_model.specs.declared.limits.Limits.{Limits}
use Rattle.raim_model.specs.declared.verdict.Verdict.{Verdict}
use Rattle.raim_model.specs.Level.{Level}
use Rattle.raim_model.specs.Sine.{IsSine}
use Rattle.raim_model.specs.Orbit.{OrbitSolution, satellite_position}
use Rattle.raim_model.specs.Receiver.{OnLeg, place_on, ReceiverSolution, Site, site, turns_of_degrees}
use Rattle.raim_model.specs.Route.{flight_of}
use Rattle.raim_model.specs.Look.{IsRange, is_visible, direction_row}
use Rattle.raim_model.specs.Usable.{is_usable}
use Rattle.raim_model.specs.Geometry.{Row, SquaredShift, weighed, horizontal, vertical}
use Rattle.raim_model.specs.Weights.{weight_of}
use Rattle.raim_model.specs.AlmanacInForce.{in_force}
use Rattle.raim_model.specs.PointVerdict.{point_verdict}

-- what four accepted files give: almanacs whose records rise by PRN, waypoints in rising time
pub record Case : Type 0 where
  pub limits : Limits
  pub almanacs : List (List AlmRecord)
  pub outages : List Outage
  pub route : List Waypoint

-- t is a millisecond of the flight: from the first waypoint's time to the one before the last waypoint's
pub record InFlight (c : Case) (t : ℤ) : Type 0 where
  pub started : (flight_of c.route).first ≤ℤ t
  pub not_over : t <ℤ (flight_of c.route).end

-- the satellites that count at t: those of the almanac in force that are usable, in rising PRN
abbrev pub usable : Case → ℤ → List AlmRecord
usable c t = filter (is_usable c.outages t) (in_force t c.almanacs)

-- what is chosen for one usable satellite: its orbit's fractions, a sine of the mask and a distance
pub record Sighting (N : Level) (c : Case) (t : ℤ) (from : Site) (rec : AlmRecord) : Type 0 where
  pub orbit : OrbitSolution N rec t
  pub sine : Fraction
  pub is_sine : IsSine N (turns_of_degrees c.limits.mask) sine
  pub range : Fraction
  pub is_range : IsRange N from (satellite_position orbit) range

-- one sighting for each record of a list
abbrev pub Sightings : Level → Case → ℤ → Site → List AlmRecord → Type 0
Sightings N c t from [] = ⊤
Sightings N c t from (rec ∷ recs) = Sighting N c t from rec × Sightings N c t from recs

-- a choice of fractions that the model admits at level N, for the case at the millisecond t
pub record Solution (N : Level) (c : Case) (t : ℤ) : Type 0 where
  pub leg : OnLeg c.route t
  pub receiver : ReceiverSolution N (place_on leg)
  pub sightings : Sightings N c t (site receiver) (usable c t)

abbrev pub is_seen : {N : Level} {c : Case} {t : ℤ} {from : Site} {rec : AlmRecord} → Sighting N c t from rec → Bool
is_seen {N} {c} {t} {from} s = is_visible from (satellite_position s.orbit) s.sine s.range

-- the weighed rows of the visible satellites, in rising PRN
unfoldable pub visible_rows : (N : Level) (c : Case) (t : ℤ) (from : Site) (recs : List AlmRecord) → Sightings N c t from recs → List Row
visible_rows N c t from [] s = []
visible_rows N c t from (rec ∷ recs) s =
    if is_seen s.0 then weighed (weight_of c.limits.weights.items rec.prn) (direction_row from (satellite_position s.0.orbit) s.0.range) ∷ visible_rows N c t from recs s.1
    else visible_rows N c t from recs s.1

-- the rows that a solution determines
abbrev pub rows_of : {N : Level} {c : Case} {t : ℤ} → Solution N c t → List Row
rows_of {N} {c} {t} s = visible_rows N c t (site s.receiver) (usable c t) s.sightings

-- every solution at every level has the verdict v at t, for a squared shift and its alert limit in millimetres
pub record HasVerdictFor (shift : SquaredShift) (alert_mm : ℕ) (c : Case) (t : ℤ) (v : Verdict) : Type 0 where
  pub always : (N : Level) (s : Solution N c t) → point_verdict shift c.limits alert_mm (rows_of s) ≡ v

-- the horizontal verdict is held against the alert limit of the limits
abbrev pub HasVerdict : Case → ℤ → Verdict → Type 0
HasVerdict c t v = HasVerdictFor horizontal c.limits.alert_mm c t v

-- and the vertical verdict against one of its own
abbrev pub HasVerticalVerdict : Case → (alert_mm : ℕ) → ℤ → Verdict → Type 0
HasVerticalVerdict c alert_mm t v = HasVerdictFor vertical alert_mm c t v
