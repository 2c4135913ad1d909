-- What an orbit of the program keeps of its record.
use Rattle.std.specs.Prelude.{◌≡◌}
use Rattle.raim_model.specs.declared.almanac.AlmRecord.{AlmRecord}
use Rattle.raim_model.specs.AlmanacRanges.{IsAlmRecord}
use Rattle.fix_interval.specs.Intervals.{ends}
use Rattle.fix_interval.specs.Pairs.{pair_ends}
use Rattle.trig_laws.specs.SinCos.{sin_cos_of}
use Rattle.orbit_laws.specs.Elements.{elements_of}
use Rattle.almanac_orbit.specs.declared.kept.Kept.{Kept}

-- the elements of an accepted record, the perigee and the inclination by their sines and cosines
pub record IsKept (rec : AlmRecord) (k : Kept) : Type 0 where
  pub accepted : IsAlmRecord rec
  pub semi_major_axis : ends k.semi_major_axis ≡ (elements_of rec).semi_major_axis
  pub motion : ends k.motion ≡ (elements_of rec).motion
  pub eccentricity : ends k.eccentricity ≡ (elements_of rec).eccentricity
  pub in_turns : ends k.in_turns ≡ (elements_of rec).in_turns
  pub semi_minor_axis : ends k.semi_minor_axis ≡ (elements_of rec).semi_minor_axis
  pub mean_anomaly : ends k.mean_anomaly ≡ (elements_of rec).mean_anomaly
  pub node : ends k.node ≡ (elements_of rec).node
  pub perigee : pair_ends k.sin_perigee k.cos_perigee ≡ sin_cos_of (elements_of rec).perigee
  pub inclination : pair_ends k.sin_inclination k.cos_inclination ≡ sin_cos_of (elements_of rec).inclination
  pub drift : ends k.drift ≡ (elements_of rec).drift
  pub turned : ends k.turned ≡ (elements_of rec).turned
