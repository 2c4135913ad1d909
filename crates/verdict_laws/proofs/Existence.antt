-- There is a solution at every level and millisecond of the flight.
use Rattle.std.specs.Prelude.{ℤ, List, [], ◌∷◌}
use Rattle.std.specs.List.{AllByRecursion}
use Rattle.fractions.specs.Fraction.{Fraction, zeroᶠ, ◌+ᶠ◌, ◌*ᶠ◌, ◌≤ᶠ◌}
use Rattle.fractions.proofs.Laws.{not_negative_square, not_negative_sum}
use Rattle.raim_model.specs.declared.almanac.AlmRecord.{AlmRecord}
use Rattle.raim_model.specs.Level.{Level}
use Rattle.raim_model.specs.Root.{IsRoot}
use Rattle.raim_model.specs.Sine.{IsSine}
use Rattle.raim_model.specs.Vector.{Vector, dot}
use Rattle.raim_model.specs.Orbit.{OrbitSolution, satellite_position}
use Rattle.raim_model.specs.Receiver.{OnLeg, place_on, ReceiverSolution, Site, site, turns_of_degrees}
use Rattle.raim_model.specs.Look.{line_of_sight}
use Rattle.raim_model.specs.Solution.{Case, InFlight, Sighting, Sightings, Solution, usable}
use Rattle.verdict_laws.specs.Choices.{HasChoices}
use Rattle.flight_laws.proofs.Usable.{usable_recorded}
use Rattle.flight_laws.proofs.Legs.{flight_leg}
use Rattle.raim_model.specs.CaseRanges.{IsListed}

-- a squared length is not negative
dot_not_negative : (p : Vector) → zeroᶠ ≤ᶠ dot p p
dot_not_negative p = not_negative_sum (p.x *ᶠ p.x +ᶠ p.y *ᶠ p.y) (p.z *ᶠ p.z) (not_negative_sum (p.x *ᶠ p.x) (p.y *ᶠ p.y) (not_negative_square p.x) (not_negative_square p.y)) (not_negative_square p.z)

-- there is a sighting of each listed record
sighting : (c : Case) → HasChoices c → (N : Level) (t : ℤ) → InFlight c t → (from : Site) (rec : AlmRecord) → IsListed c rec → Sighting N c t from rec
sighting c has N t f from rec m =
    let orbit : OrbitSolution N rec t = has.orbit N t f rec m in
    let sine : (s : Fraction) × IsSine N (turns_of_degrees c.limits.mask) s = has.sine N (turns_of_degrees c.limits.mask) in
    let line : Vector = line_of_sight from (satellite_position orbit) in
    let range : (w : Fraction) × IsRoot N (dot line line) w = has.root N (dot line line) (dot_not_negative line) in
    record { orbit = orbit; sine = sine.0; is_sine = sine.1; range = range.0; is_range = range.1 }

-- and of each of a list
sightings : (c : Case) → HasChoices c → (N : Level) (t : ℤ) → InFlight c t → (from : Site) (recs : List AlmRecord) → AllByRecursion (λ rec. IsListed c rec) recs → Sightings N c t from recs
sightings c has N t f from [] h = tt
sightings c has N t f from (rec ∷ recs) h = (sighting c has N t f from rec h.0, sightings c has N t f from recs h.1)

-- so there is a solution
pub solution : (c : Case) → HasChoices c → (N : Level) (t : ℤ) → InFlight c t → Solution N c t
solution c has N t f =
    let leg : OnLeg c.route t = flight_leg c t f in
    let receiver : ReceiverSolution N (place_on leg) = has.receiver N t leg in
    record { leg = leg; receiver = receiver; sightings = sightings c has N t f (site receiver) (usable c t) (usable_recorded c t) }
