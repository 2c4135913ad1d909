-- The place of a satellite by its almanac: the user algorithm of IS-GPS-200 (20.3.3.4.3, with the almanac's reduced parameters
-- of 20.3.3.5.2 and no harmonic corrections). Lengths in Mm, angles in turns, times in milliseconds.
use Rattle.std.specs.Prelude.{ℤ, pos, ◌-ℤ◌}
use Rattle.std.specs.Int.{int_rem_euclid}
use Rattle.fractions.specs.Fraction.{Fraction, whole, oneᶠ, ◌+ᶠ◌, ◌-ᶠ◌, ◌*ᶠ◌}
use Rattle.fractions.specs.Inverse.{◌/ᶠ◌}
use Rattle.raim_model.specs.declared.almanac.AlmRecord.{AlmRecord}
use Rattle.raim_model.specs.Constants.{tau, mu, earth_rotation, week_ms}
use Rattle.raim_model.specs.Decimal.{value_of, turns_of_angle, turns_of_rate}
use Rattle.raim_model.specs.Level.{Level}
use Rattle.raim_model.specs.Root.{IsRoot}
use Rattle.raim_model.specs.Sine.{IsSineCosine}
use Rattle.raim_model.specs.Kepler.{SolvesKepler}
use Rattle.raim_model.specs.Vector.{Vector}

-- the root of A in roots of Mm; the record has it in roots of a metre
abbrev pub semi_major_root : AlmRecord → Fraction
semi_major_root rec = value_of rec.sqrt_a /ᶠ whole (pos 1000)

-- A, the semi-major axis in Mm
abbrev pub semi_major_axis : AlmRecord → Fraction
semi_major_axis rec = semi_major_root rec *ᶠ semi_major_root rec

-- e
abbrev pub eccentricity : AlmRecord → Fraction
eccentricity rec = value_of rec.e

-- tk, the milliseconds since the time of applicability
abbrev pub elapsed : AlmRecord → ℤ → Fraction
elapsed rec t = whole (t -ℤ rec.toa_ms)

-- M = M0 + n tk in turns, for a mean motion in radians per millisecond
abbrev pub mean_anomaly : AlmRecord → ℤ → Fraction → Fraction
mean_anomaly rec t motion = turns_of_angle rec.m0 +ᶠ motion /ᶠ tau *ᶠ elapsed rec t

-- Omega, the longitude of the ascending node in turns: Omega0, plus the drift relative to the turning Earth since
-- the time of applicability, less the Earth's turn from the start of the week up to that time
abbrev pub node : AlmRecord → ℤ → Fraction
node rec t = turns_of_angle rec.omega0 +ᶠ (turns_of_rate rec.rate -ᶠ earth_rotation) *ᶠ elapsed rec t -ᶠ earth_rotation *ᶠ whole (int_rem_euclid rec.toa_ms (pos week_ms))

-- a choice of fractions that the algorithm admits at level N, for the satellite of rec at the millisecond t
pub record OrbitSolution (N : Level) (rec : AlmRecord) (t : ℤ) : Type 0 where
  -- sqrt(mu / A^3), the mean motion in radians per millisecond
  pub motion : Fraction
  pub motion_root : IsRoot N (mu /ᶠ (semi_major_axis rec *ᶠ semi_major_axis rec *ᶠ semi_major_axis rec)) motion
  -- E, the eccentric anomaly in turns, and its sine and cosine
  pub anomaly : Fraction
  pub anomaly_solves : SolvesKepler N (mean_anomaly rec t motion) (eccentricity rec /ᶠ tau) anomaly
  pub sin_anomaly : Fraction
  pub cos_anomaly : Fraction
  pub at_anomaly : IsSineCosine N anomaly sin_anomaly cos_anomaly
  -- sqrt(1 - e^2), the semi-minor axis over the semi-major one
  pub axis_ratio : Fraction
  pub axis_ratio_root : IsRoot N (oneᶠ -ᶠ eccentricity rec *ᶠ eccentricity rec) axis_ratio
  -- of the argument of perigee, of the node and of the inclination
  pub sin_perigee : Fraction
  pub cos_perigee : Fraction
  pub at_perigee : IsSineCosine N (turns_of_angle rec.perigee) sin_perigee cos_perigee
  pub sin_node : Fraction
  pub cos_node : Fraction
  pub at_node : IsSineCosine N (node rec t) sin_node cos_node
  pub sin_incl : Fraction
  pub cos_incl : Fraction
  pub at_incl : IsSineCosine N (turns_of_angle rec.incl) sin_incl cos_incl

-- in the plane of the orbit, x to the perigee: A (cos E - e) and A sqrt(1 - e^2) sin E
abbrev pub perifocal_x : {N : Level} {rec : AlmRecord} {t : ℤ} → OrbitSolution N rec t → Fraction
perifocal_x {N} {rec} s = semi_major_axis rec *ᶠ (s.cos_anomaly -ᶠ eccentricity rec)

abbrev pub perifocal_y : {N : Level} {rec : AlmRecord} {t : ℤ} → OrbitSolution N rec t → Fraction
perifocal_y {N} {rec} s = semi_major_axis rec *ᶠ s.axis_ratio *ᶠ s.sin_anomaly

-- in the plane of the orbit, x to the ascending node: turned by the argument of perigee
abbrev pub in_plane_x : {N : Level} {rec : AlmRecord} {t : ℤ} → OrbitSolution N rec t → Fraction
in_plane_x s = perifocal_x s *ᶠ s.cos_perigee -ᶠ perifocal_y s *ᶠ s.sin_perigee

abbrev pub in_plane_y : {N : Level} {rec : AlmRecord} {t : ℤ} → OrbitSolution N rec t → Fraction
in_plane_y s = perifocal_x s *ᶠ s.sin_perigee +ᶠ perifocal_y s *ᶠ s.cos_perigee

-- the satellite's place: turned about x by the inclination, and about z by the longitude of the node
abbrev pub satellite_position : {N : Level} {rec : AlmRecord} {t : ℤ} → OrbitSolution N rec t → Vector
satellite_position s = record {
  x = in_plane_x s *ᶠ s.cos_node -ᶠ in_plane_y s *ᶠ s.cos_incl *ᶠ s.sin_node;
  y = in_plane_x s *ᶠ s.sin_node +ᶠ in_plane_y s *ᶠ s.cos_incl *ᶠ s.cos_node;
  z = in_plane_y s *ᶠ s.sin_incl;
}
