-- The form of an eccentric anomaly, of a form of mean anomalies m and an eccentricity eps over the radians of a turn.
use Rattle.std.specs.Prelude.{ℤ, pos, ◌^◌, ◌+ℤ◌, ◌-ℤ◌, ◌*ℤ◌, unsigned_abs}
use Rattle.whole_numbers.specs.Rounding.{floor_of}
use Rattle.fix_interval.specs.Ends.{Ends}
use Rattle.fix_interval.specs.Ranges.{point}
use Rattle.time_forms.specs.Forms.{Form, size}
use Rattle.time_forms.specs.Operations.{fixed_of, neg_form}
use Rattle.trig_laws.specs.SinCos.{sin_cos_of}
use Rattle.kepler_laws.specs.Anomalies.{anomalies_of}
use Rattle.kepler_laws.specs.EccentricSine.{nearest_turn_of, wrapped_of}
use Rattle.orbit_forms.specs.Lines.{radians_of, line_form}

-- the eccentric anomalies of the centre, by the bracket of `kepler_laws`, put back by the whole turn that is nearest
abbrev pub bracket_at : Form → Ends → Ends
bracket_at m eps = record {
  lo = (anomalies_of eps (wrapped_of (point m.centre) (nearest_turn_of m.centre))).lo +ℤ (nearest_turn_of m.centre *ℤ pos (2 ^ 38));
  hi = (anomalies_of eps (wrapped_of (point m.centre) (nearest_turn_of m.centre))).hi +ℤ (nearest_turn_of m.centre *ℤ pos (2 ^ 38));
}

-- their middle, and how far they are from it
abbrev pub anomaly_at : Form → Ends → Form
anomaly_at m eps = fixed_of (bracket_at m eps)

-- how the mean anomaly rises with the eccentric one there, in units: 1 - e cos E
abbrev pub slope_at : Form → Ends → ℤ
slope_at m eps = pos (2 ^ 38) -ℤ floor_of ((fixed_of (sin_cos_of (point (anomaly_at m eps).centre)).cosine).centre *ℤ radians_of eps.lo) (2 ^ 38)

-- what is lost of the mean anomaly
abbrev pub miss_of : Form → Ends → ℤ
miss_of m eps = (m.remainder +ℤ pos 2 *ℤ (anomaly_at m eps).remainder) +ℤ pos 10

-- how far the mean anomalies are from that of the middle, at most
abbrev pub reach_of : Form → Ends → ℤ
reach_of m eps = ((size m.turning +ℤ m.remainder) +ℤ pos 2 *ℤ (anomaly_at m eps).remainder) +ℤ pos 1

-- how far the eccentric anomaly bends from its line: eps times 25 times the square of that
abbrev pub mean_bend_of : ℤ → ℤ → ℤ
mean_bend_of e q = floor_of (e *ℤ (floor_of ((pos 25 *ℤ q) *ℤ q) (2 ^ 38) +ℤ pos 1)) (2 ^ 38) +ℤ pos 2

unfoldable pub anomaly_form : Form → Ends → Form
anomaly_form m eps = record {
  centre = (anomaly_at m eps).centre;
  turning = floor_of (m.turning *ℤ pos (2 ^ 38)) (unsigned_abs (slope_at m eps));
  remainder = ((miss_of m eps +ℤ floor_of (miss_of m eps) 8) +ℤ pos 1) +ℤ mean_bend_of eps.lo (reach_of m eps);
}

-- how wide the interval answer is at one millisecond
abbrev pub ecc_slack : Form → ℤ
ecc_slack m = pos 64 *ℤ m.remainder +ℤ pos 2048

-- the sine and the cosine of the eccentric anomaly, about those of its middle
unfoldable pub ecc_sine_form : Form → Ends → Form
ecc_sine_form m eps = line_form (fixed_of (sin_cos_of (point (anomaly_form m eps).centre)).sine) (fixed_of (sin_cos_of (point (anomaly_form m eps).centre)).cosine) (anomaly_form m eps) (ecc_slack m)

unfoldable pub ecc_cosine_form : Form → Ends → Form
ecc_cosine_form m eps = line_form (fixed_of (sin_cos_of (point (anomaly_form m eps).centre)).cosine) (neg_form (fixed_of (sin_cos_of (point (anomaly_form m eps).centre)).sine)) (anomaly_form m eps) (ecc_slack m)
