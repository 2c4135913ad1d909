-- Satellites that stand near the least distance of 1 Mm, or near the mask.
use Rattle.std.specs.Prelude.{◌≡◌, ℕ, ℤ, pos, ◌^◌, List, Contains, ◌⊎◌, [], ◌∷◌, ⊤, map}
use Rattle.fractions.specs.Fraction.{ratio, oneᶠ, ◌*ᶠ◌, IsNear}
use Rattle.raim_model.specs.declared.almanac.AlmRecord.{AlmRecord}
use Rattle.raim_model.specs.Level.{Level}
use Rattle.raim_model.specs.Vector.{dot}
use Rattle.raim_model.specs.Orbit.{satellite_position}
use Rattle.raim_model.specs.Receiver.{Site, site}
use Rattle.raim_model.specs.Look.{line_of_sight}
use Rattle.raim_model.specs.Solution.{Case, Sighting, Sightings, Solution, usable}

-- a sighting at 1 Mm or at the mask, to 2^-15 Mm, which is about 31 m
abbrev pub IsNearMask : {N : Level} {c : Case} {t : ℤ} {from : Site} {rec : AlmRecord} → Sighting N c t from rec → Type 0
IsNearMask {N} {c} {t} {from} {rec} s =
    IsNear s.range oneᶠ (ratio (pos 1) (2 ^ 15)) ⊎ IsNear (dot from.up (line_of_sight from (satellite_position s.orbit))) (s.sine *ᶠ s.range) (ratio (pos 1) (2 ^ 15))

-- of the sightings of a list of records, each of the satellite prn is near
abbrev pub AreNearMask : (N : Level) (c : Case) (t : ℤ) (from : Site) (prn : ℕ) (recs : List AlmRecord) → Sightings N c t from recs → Type 0
AreNearMask N c t from prn [] s = ⊤
AreNearMask N c t from prn (rec ∷ recs) s = (rec.prn ≡ prn → IsNearMask s.0) × AreNearMask N c t from prn recs s.1

-- the satellite prn is usable at t, and every solution at every level has it near
pub record IsNearMaskAlways (c : Case) (t : ℤ) (prn : ℕ) : Type 0 where
  pub counts : Contains (map (λ rec. rec.prn) (usable c t)) prn
  pub always : (N : Level) (s : Solution N c t) → AreNearMask N c t (site s.receiver) prn (usable c t) s.sightings
