-- The sine and the cosine of the eccentric anomaly of any mean anomaly, over intervals: the least intervals round those
-- of each whole turn that the mean anomalies meet.
use Rattle.std.specs.Prelude.{ℤ, pos, ◌^◌, ◌+ℤ◌, ◌-ℤ◌, ◌*ℤ◌, cond, unsigned_abs}
use lib.Signed.{le_z}
use Rattle.whole_numbers.specs.Rounding.{floor_of}
use Rattle.fractions.specs.Fraction.{Fraction}
use Rattle.raim_model.specs.Level.{Level}
use Rattle.raim_model.specs.Sine.{IsSineCosine}
use Rattle.raim_model.specs.Kepler.{SolvesKepler}
use Rattle.fix_interval.specs.Ends.{Ends}
use Rattle.fix_interval.specs.Bounds.{clamp_of}
use Rattle.fix_interval.specs.Sums.{sub_of}
use Rattle.fix_interval.specs.Ranges.{point}
use Rattle.fix_interval.specs.Pairs.{PairEnds, full_pair, hull_from}
use Rattle.trig_laws.specs.SinCos.{sin_cos_of}
use Rattle.kepler_laws.specs.Anomalies.{anomalies_of}

-- the whole turn that is nearest to z units
abbrev pub nearest_turn_of : ℤ → ℤ
nearest_turn_of z = floor_of (z +ℤ pos (2 ^ 37)) (2 ^ 38)

-- what of m is nearest to the whole turn w, from there: at most half a turn either way
unfoldable pub wrapped_of : Ends → ℤ → Ends
wrapped_of m w = clamp_of (sub_of m (point (w *ℤ pos (2 ^ 38)))) (pos (2 ^ 37))

-- the sine and the cosine of the eccentric anomalies of what of m is nearest to the whole turn w
unfoldable pub wrap_pair : Ends → Ends → ℤ → PairEnds
wrap_pair m eps w = sin_cos_of (anomalies_of eps (wrapped_of m w))

-- the sine and the cosine of the eccentric anomalies of the mean anomalies m
unfoldable pub ecc_sin_cos_of : Ends → Ends → PairEnds
ecc_sin_cos_of m eps = cond (le_z (pos (2 ^ 38)) (m.hi -ℤ m.lo)) full_pair (hull_from (wrap_pair m eps) (nearest_turn_of m.lo) (unsigned_abs (nearest_turn_of m.hi -ℤ nearest_turn_of m.lo)))

-- the model admits an eccentric anomaly of the mean anomaly m at level N, with a sine and a cosine
pub record HasAnomaly (N : Level) (m eps : Fraction) : Type 0 where
  pub anomaly : Fraction
  pub sine : Fraction
  pub cosine : Fraction
  pub solves : SolvesKepler N m eps anomaly
  pub pair : IsSineCosine N anomaly sine cosine
