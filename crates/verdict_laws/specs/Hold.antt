-- What a sight has to meet, for the verdicts that are given by it to be right and to stay.
use Rattle.std.specs.Prelude.{◌≡◌, ℤ, ◌≤ℤ◌, true, false}
use Rattle.raim_model.specs.declared.almanac.AlmRecord.{AlmRecord}
use Rattle.raim_model.specs.Level.{Level}
use Rattle.raim_model.specs.Orbit.{satellite_position}
use Rattle.raim_model.specs.Receiver.{OnLeg, place_on, ReceiverSolution, Site, site}
use Rattle.raim_model.specs.Look.{direction_row}
use Rattle.raim_model.specs.Geometry.{weighed}
use Rattle.raim_model.specs.Weights.{weight_of}
use Rattle.raim_model.specs.Solution.{Case, Sighting, is_seen}
use Rattle.raim_model.specs.CaseRanges.{IsListed}
use Rattle.raim_model.specs.CaseCuts.{InRootPiece}
use Rattle.geom_laws.specs.Rows.{RowLies, RowInside}
use Rattle.verdict_laws.specs.Sights.{Sight, Visible, Hidden, Straddles}
use Rattle.verdict_laws.specs.NearMask.{IsNearMask}

-- what a sight says of a sighting of the model: visible, with its weighed row inside; or not visible
abbrev pub Shows : {N : Level} {c : Case} {t : ℤ} {from : Site} {rec : AlmRecord} → Sight → Sighting N c t from rec → Type 0
Shows {N} {c} {t} {from} {rec} (Visible row) s = (is_seen s ≡ true) × RowLies row (weighed (weight_of c.limits.weights.items rec.prn) (direction_row from (satellite_position s.orbit) s.range))
Shows Hidden s = is_seen s ≡ false
Shows Straddles s = Unit {0}

-- what the sight over a wider piece leaves to that over a piece inside: one that is known is the same there, in a row inside
abbrev pub LeavesSight : (wide inside : Sight) → Type 0
LeavesSight (Visible row) (Visible inside) = RowInside inside row
LeavesSight (Visible row) inside = ⊥
LeavesSight Hidden inside = inside ≡ Hidden
LeavesSight Straddles inside = Unit {0}

-- inside the root pieces of a case
pub record HoldsSights (c : Case) (sight : AlmRecord → ℤ → ℤ → Sight) : Type 0 where
  -- the sight over a piece shows each sighting at each of its milliseconds
  pub encloses : (first last t : ℤ) → InRootPiece c first last → first ≤ℤ t → t ≤ℤ last
      → (N : Level) (leg : OnLeg c.route t) (receiver : ReceiverSolution N (place_on leg)) (rec : AlmRecord) → IsListed c rec
      → (s : Sighting N c t (site receiver) rec) → Shows (sight rec first last) s
  -- it is left to each piece inside
  pub isotone : (first last a b : ℤ) → InRootPiece c first last → first ≤ℤ a → a ≤ℤ b → b ≤ℤ last
      → (rec : AlmRecord) → IsListed c rec → LeavesSight (sight rec first last) (sight rec a b)
  -- and over one millisecond it straddles only near equality
  pub narrow : (t : ℤ) → InRootPiece c t t → (rec : AlmRecord) → IsListed c rec → sight rec t t ≡ Straddles
      → (N : Level) (leg : OnLeg c.route t) (receiver : ReceiverSolution N (place_on leg)) (s : Sighting N c t (site receiver) rec) → IsNearMask s
