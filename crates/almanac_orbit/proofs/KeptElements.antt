-- What an orbit keeps, as elements: those of its record.
use Rattle.std.specs.Prelude.{◌≡◌, ℤ, ◌-ℤ◌, refl}
use Rattle.std.proofs.Common.{arith, sym, subst, ◌∙◌, to_z, of_z}
use mir.Val.{SFits}
use mir.Syntax.{w64}
use Rattle.std.proofs.lemmas.Int.{ints, to_z-of_z}
use Rattle.raim_model.specs.declared.almanac.AlmRecord.{AlmRecord}
use Rattle.raim_model.specs.AlmanacRanges.{IsApplicable}
use Rattle.fix_interval.specs.Ends.{Ends}
use Rattle.fix_interval.specs.Intervals.{ends}
use Rattle.fix_interval.specs.Pairs.{PairEnds, pair_ends, full_pair, PairInside}
use Rattle.fix_interval.specs.Vectors.{VectorEnds}
use Rattle.trig_laws.specs.SinCos.{sin_cos_of}
use Rattle.trig_laws.proofs.Encloses.{sin_cos_full}
use Rattle.kepler_laws.specs.EccentricSine.{ecc_sin_cos_of}
use Rattle.orbit_laws.specs.Elements.{Elements, elements_of}
use Rattle.orbit_laws.specs.Positions.{mean_anomaly_over, node_over, perifocal_x_of, perifocal_y_of, in_plane_x_of, in_plane_y_of, place_of, orbit_place_of, place_over}
use Rattle.orbit_laws.proofs.Elements.{IsBounded, elements_bounded}
use Rattle.almanac_orbit.specs.declared.kept.Kept.{Kept}
use Rattle.almanac_orbit.specs.Kept.{IsKept}

-- the elements that are kept, with the record's perigee and inclination
abbrev pub kept_elements : AlmRecord → Kept → Elements
kept_elements rec k = record {
  semi_major_axis = ends k.semi_major_axis;
  motion = ends k.motion;
  eccentricity = ends k.eccentricity;
  in_turns = ends k.in_turns;
  semi_minor_axis = ends k.semi_minor_axis;
  mean_anomaly = ends k.mean_anomaly;
  node = ends k.node;
  perigee = (elements_of rec).perigee;
  inclination = (elements_of rec).inclination;
  drift = ends k.drift;
  turned = ends k.turned;
}

pub kept-is : (rec : AlmRecord) (k : Kept) → IsKept rec k → kept_elements rec k ≡ elements_of rec
kept-is rec k i = λ j. record {
  semi_major_axis = i.semi_major_axis j;
  motion = i.motion j;
  eccentricity = i.eccentricity j;
  in_turns = i.in_turns j;
  semi_minor_axis = i.semi_minor_axis j;
  mean_anomaly = i.mean_anomaly j;
  node = i.node j;
  perigee = (elements_of rec).perigee;
  inclination = (elements_of rec).inclination;
  drift = i.drift j;
  turned = i.turned j;
}

pub kept_bounded : (rec : AlmRecord) (k : Kept) → IsKept rec k → IsBounded (kept_elements rec k)
kept_bounded rec k i = subst IsBounded (sym (kept-is rec k i)) (elements_bounded rec i.accepted)

-- the sines and cosines that are kept are from -1 to 1
pub perigee_full : (rec : AlmRecord) (k : Kept) → IsKept rec k → PairInside (pair_ends k.sin_perigee k.cos_perigee) full_pair
perigee_full rec k i = subst (λ p. PairInside p full_pair) (sym i.perigee) (sin_cos_full (elements_of rec).perigee (elements_bounded rec i.accepted).perigee.ordered)

pub inclination_full : (rec : AlmRecord) (k : Kept) → IsKept rec k → PairInside (pair_ends k.sin_inclination k.cos_inclination) full_pair
inclination_full rec k i = subst (λ p. PairInside p full_pair) (sym i.inclination) (sin_cos_full (elements_of rec).inclination (elements_bounded rec i.accepted).inclination.ordered)

-- a place that is found step by step
pub place-is : (e : Elements) (k l : ℤ) (x y u v : Ends) (a w o c : PairEnds) (p : VectorEnds) → p ≡ place_of u v o c → u ≡ in_plane_x_of x y w → v ≡ in_plane_y_of x y w → x ≡ perifocal_x_of e a → y ≡ perifocal_y_of e a
    → a ≡ ecc_sin_cos_of (mean_anomaly_over e k l) e.in_turns → w ≡ sin_cos_of e.perigee → o ≡ sin_cos_of (node_over e k l) → c ≡ sin_cos_of e.inclination → p ≡ place_over e k l
unfolding place_over orbit_place_of
place-is e k l x y u v a w o c p ep eu ev ex ey ea ew eo ec = ep ∙ rw (eu, ev, ex, ey, ea, ew, eo, ec) refl

-- ---- the milliseconds since the time of applicability
pub elapsed_fits : (rec : AlmRecord) (t : ℤ) → SFits w64 t → SFits w64 rec.toa_ms → IsApplicable rec t → SFits w64 (to_z w64 (of_z w64 t) -ℤ to_z w64 (of_z w64 rec.toa_ms))
elapsed_fits rec t f g a = let l = a.not_before in let h = a.not_after in rw (to_z-of_z w64 t f, to_z-of_z w64 rec.toa_ms g) (omega (arith, ints))

pub elapsed-plain : (rec : AlmRecord) (t : ℤ) → SFits w64 t → SFits w64 rec.toa_ms → IsApplicable rec t → to_z w64 (of_z w64 (to_z w64 (of_z w64 t) -ℤ to_z w64 (of_z w64 rec.toa_ms))) ≡ t -ℤ rec.toa_ms
elapsed-plain rec t f g a = to_z-of_z w64 (to_z w64 (of_z w64 t) -ℤ to_z w64 (of_z w64 rec.toa_ms)) (elapsed_fits rec t f g a) ∙ rw (to_z-of_z w64 t f, to_z-of_z w64 rec.toa_ms g) refl
