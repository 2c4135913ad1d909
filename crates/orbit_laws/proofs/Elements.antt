-- The elements of a record: their ends hold them, and are not too great or too wide.
use Rattle.std.specs.Prelude.{◌≡◌, ℕ, ℤ, pos, negsuc, ◌+◌, ◌*◌, ◌^◌, refl, ◌*ℤ◌, ◌≤ℤ◌, [], ◌∷◌}
use Rattle.std.proofs.Common.{arith, sym, subst}
use Rattle.std.proofs.lemmas.Int.{ints}
use Rattle.std.specs.Int.{int_rem_euclid}
use lib.Dec.{lit≤}
use Rattle.whole_numbers.specs.Root.{root_of}
use Rattle.whole_numbers.proofs.Integers.{≤ℤ_refl}
use Rattle.whole_numbers.proofs.Roots.{root_of-unique}
use Rattle.fractions.specs.Fraction.{Fraction, ratio, whole, oneᶠ, ◌-ᶠ◌, ◌*ᶠ◌, ◌≤ᶠ◌}
use Rattle.fractions.specs.Inverse.{◌/ᶠ◌}
use Rattle.fractions.proofs.Certificates.{constants}
use Rattle.fractions.proofs.Laws.{≤ᶠ_refl, ≤ᶠ_trans}
use Rattle.fractions.proofs.Quote.{quote, identity}
use Rattle.raim_model.specs.declared.almanac.AlmRecord.{AlmRecord}
use Rattle.raim_model.specs.AlmanacRanges.{IsAlmRecord}
use Rattle.raim_model.specs.Constants.{tau, mu, earth_rotation, week_ms}
use Rattle.raim_model.specs.Decimal.{value_of, turns_of_angle, turns_of_rate}
use Rattle.raim_model.specs.Level.{Level}
use Rattle.raim_model.specs.Orbit.{semi_major_root, semi_major_axis as model_axis, eccentricity as model_eccentricity}
use Rattle.raim_model.specs.Root.{IsRoot}
use Rattle.fix_interval.specs.Ends.{Ends, IsInside, IsNarrow}
use Rattle.fix_interval.specs.Lies.{Lies}
use Rattle.fix_interval.specs.Products.{mul_of, mul_wide_of, narrow76_of, sqr_wide_of, scale_int_of}
use Rattle.fix_interval.specs.Roots.{sqrt_of}
use Rattle.fix_interval.specs.Sums.{sub_of}
use Rattle.fix_interval.specs.Decimals.{from_dec_of}
use Rattle.fix_interval.proofs.EndDecimals.{dec56_milli_encloses, from_dec_encloses, dec56_milli_inside, dec56_milli_width, from_dec_inside, from_dec_width}
use Rattle.fix_interval.proofs.EndProducts.{mul_encloses, mul_isotone, scale_int_encloses, scale_int_isotone}
use Rattle.fix_interval.proofs.EndRoots.{sqrt_encloses, sqrt_isotone}
use Rattle.fix_interval.proofs.EndSquares.{sqr_wide_encloses, sqr_wide_isotone}
use Rattle.fix_interval.proofs.EndSums.{sub_encloses, sub_isotone}
use Rattle.fix_interval.specs.Quotients.{scale_of}
use Rattle.fix_interval.specs.Ranges.{point, from_to, around}
use Rattle.fix_interval.proofs.EndInsides.{inside_trans}
use Rattle.fix_interval.proofs.EndScales.{scale_encloses, scale_isotone}
use Rattle.fix_interval.proofs.EndWidths.{scale_width, narrow_weaken, sub_width, mul_width, scale_int_width, sqr_wide_width, sqrt_width}
use Rattle.trig_laws.specs.Quarter.{turn_parts}
use Rattle.kepler_laws.specs.Anomalies.{IsEccentricityInTurns}
use Rattle.orbit_laws.specs.Angles.{rate_of, earth_rate}
use Rattle.orbit_laws.specs.Elements.{Elements, elements_of, product_of, semi_major_root_of, semi_major_axis_of, cube_of, in_turns_of, axis_ratio_of, week_time}
use Rattle.orbit_laws.specs.Sizes.{root_ends, cube_ends, axis_ends, eccentricity_ends, ratio_ends}
use Rattle.orbit_laws.proofs.Angles.{turns_encloses, turns_inside, turns_width, rate_encloses, rate_inside, rate_width, earth_rate-is, over_tau-is, record_angles}
use Rattle.orbit_laws.proofs.Motions.{IsCube, motion_encloses, motion_inside, motion_width}
use Rattle.orbit_laws.proofs.Products.{product_encloses, product_isotone}
use Rattle.orbit_laws.proofs.Products.{product_width}

-- from 0 on is around 0
pub from_around : {a : Ends} {m n : ℕ} → IsInside a (from_to m n) → IsInside a (around n)
from_around {a} {m} {n} i =
    let l = i.low in
    let h = i.high in
    record { low = omega (arith, ints); ordered = i.ordered; high = h }

-- ---- the half axis and its powers
root_low : ratio (pos (4 * 2 ^ 56) *ℤ pos 1000) (2 ^ 56) ≤ᶠ whole (pos 4000)
root_low = constants (search quote depth 20) tt

root_high : whole (pos 7000) ≤ᶠ ratio (pos (7 * 2 ^ 56) *ℤ pos 1000) (2 ^ 56)
root_high = constants (search quote depth 20) tt

pub root_inside : (rec : AlmRecord) → IsAlmRecord rec → IsInside (semi_major_root_of rec) root_ends
unfolding semi_major_root_of
root_inside rec i = dec56_milli_inside rec.sqrt_a (pos (4 * 2 ^ 56)) (pos (7 * 2 ^ 56)) (≤ᶠ_trans root_low i.root.at_least) (≤ᶠ_trans i.root.at_most root_high)

root_width : (rec : AlmRecord) → IsNarrow (semi_major_root_of rec) 1
unfolding semi_major_root_of
root_width rec = dec56_milli_width rec.sqrt_a

root_encloses : (rec : AlmRecord) → Lies (semi_major_root_of rec) 56 (semi_major_root rec)
unfolding semi_major_root_of
root_encloses rec = dec56_milli_encloses rec.sqrt_a refl

-- roots from 4 to 7, their squares and cubes
not_negative_ends : {a : Ends} {m n : ℕ} → IsInside a (from_to m n) → pos 0 ≤ℤ a.lo
not_negative_ends {a} {m} {n} i = let l = i.low in omega (arith, ints)

square_widest : IsInside (product_of 56 root_ends root_ends) (from_to (16 * 2 ^ 56) (49 * 2 ^ 56))
unfolding product_of
square_widest = record { low = record { le = tt }; ordered = record { le = tt }; high = record { le = tt } }

cube_widest : IsInside (product_of 56 (from_to (16 * 2 ^ 56) (49 * 2 ^ 56)) root_ends) cube_ends
unfolding product_of
cube_widest = record { low = record { le = tt }; ordered = record { le = tt }; high = record { le = tt } }

axis_widest : IsInside (product_of 74 root_ends root_ends) axis_ends
unfolding product_of
axis_widest = record { low = record { le = tt }; ordered = record { le = tt }; high = record { le = tt } }

pub square_inside : (s : Ends) → IsInside s root_ends → IsInside (product_of 56 s s) (from_to (16 * 2 ^ 56) (49 * 2 ^ 56))
square_inside s i = inside_trans (product_isotone 56 (record { le = tt }) (record { le = tt }) i i) square_widest

pub axis_inside : (s : Ends) → IsInside s root_ends → IsInside (semi_major_axis_of s) axis_ends
unfolding semi_major_axis_of
axis_inside s i = inside_trans (product_isotone 74 (record { le = tt }) (record { le = tt }) i i) axis_widest

pub cube_inside : (s : Ends) → IsInside s root_ends → IsInside (cube_of s) cube_ends
unfolding cube_of
cube_inside s i = inside_trans (product_isotone 56 (record { le = tt }) (record { le = tt }) (square_inside s i) i) cube_widest

pub is_cube : (s : Ends) → IsInside s root_ends → IsCube (cube_of s)
is_cube s i = let c = cube_inside s i in record { low = c.low; ordered = c.ordered; high = c.high }

axis_width : (s : Ends) → IsInside s root_ends → IsNarrow s 1 → IsNarrow (semi_major_axis_of s) 2
unfolding semi_major_axis_of
axis_width s i n = product_width 74 (7 * 2 ^ 56) (7 * 2 ^ 56) 1 1 1 (from_around i) (from_around i) n n (lit≤ tt)

cube_width : (s : Ends) → IsInside s root_ends → IsNarrow s 1 → IsNarrow (cube_of s) 163
unfolding cube_of
cube_width s i n =
    let square : IsNarrow (product_of 56 s s) 15 = product_width 56 (7 * 2 ^ 56) (7 * 2 ^ 56) 1 1 14 (from_around i) (from_around i) n n (lit≤ tt) in
    product_width 56 (49 * 2 ^ 56) (7 * 2 ^ 56) 15 1 162 (from_around (square_inside s i)) (from_around i) square n (lit≤ tt)

axis_encloses : (s : Ends) (x : Fraction) → IsInside s root_ends → Lies s 56 x → Lies (semi_major_axis_of s) 38 (x *ᶠ x)
unfolding semi_major_axis_of
axis_encloses s x i l = product_encloses s s 74 56 56 38 refl (not_negative_ends i) (not_negative_ends i) x x l l

cube_encloses : (s : Ends) (x : Fraction) → IsInside s root_ends → Lies s 56 x → Lies (cube_of s) 56 ((x *ᶠ x) *ᶠ x)
unfolding cube_of
cube_encloses s x i l = product_encloses (product_of 56 s s) s 56 56 56 56 refl (not_negative_ends (square_inside s i)) (not_negative_ends i) (x *ᶠ x) x (product_encloses s s 56 56 56 56 refl (not_negative_ends i) (not_negative_ends i) x x l l) l

-- ---- the eccentricity
eccentricity_low : ratio (pos 0) (2 ^ 38) ≤ᶠ whole (pos 0)
eccentricity_low = constants (search quote depth 20) tt

eccentricity_high : ratio (pos 3125) 100000 ≤ᶠ ratio (pos (2 ^ 33)) (2 ^ 38)
eccentricity_high = constants (search quote depth 20) tt

pub eccentricity_inside : (rec : AlmRecord) → IsAlmRecord rec → IsInside (from_dec_of rec.e) eccentricity_ends
eccentricity_inside rec i = from_dec_inside rec.e (pos 0) (pos (2 ^ 33)) (≤ᶠ_trans eccentricity_low i.eccentricity.at_least) (≤ᶠ_trans i.eccentricity.at_most eccentricity_high)

in_turns_widest : IsInside (scale_of eccentricity_ends (10 ^ 13) turn_parts) (from_to 0 (2 ^ 31))
unfolding scale_of
in_turns_widest = record { low = record { le = tt }; ordered = record { le = tt }; high = record { le = tt } }

in_turns_inside : (e : Ends) → IsInside e eccentricity_ends → IsInside (in_turns_of e) (from_to 0 (2 ^ 31))
unfolding in_turns_of
in_turns_inside e i = inside_trans (scale_isotone (10 ^ 13) turn_parts (lit≤ tt) i) in_turns_widest

pub is_eccentric : (e : Ends) → IsInside e eccentricity_ends → IsEccentricityInTurns (in_turns_of e)
is_eccentric e i = let c = in_turns_inside e i in record { low = c.low; ordered = c.ordered; high = c.high }

in_turns_width : (e : Ends) → IsNarrow e 1 → IsNarrow (in_turns_of e) 2
unfolding in_turns_of
in_turns_width e n = scale_width (10 ^ 13) turn_parts 1 1 (lit≤ tt) n (lit≤ tt)

in_turns_encloses : (e : Ends) (x : Fraction) → Lies e 38 x → Lies (in_turns_of e) 38 (x /ᶠ tau)
unfolding in_turns_of
in_turns_encloses e x l = subst (Lies (scale_of e (10 ^ 13) turn_parts) 38) (sym (over_tau-is x)) (scale_encloses (10 ^ 13) turn_parts refl (lit≤ tt) 38 x l)

-- ---- the semi-minor axis over the semi-major one
square_of_eccentricity_widest : IsInside (sqr_wide_of eccentricity_ends) (from_to 0 (2 ^ 66))
unfolding sqr_wide_of
square_of_eccentricity_widest = record { low = record { le = tt }; ordered = record { le = tt }; high = record { le = tt } }

pub square_of_eccentricity : (e : Ends) → IsInside e eccentricity_ends → IsInside (sqr_wide_of e) (from_to 0 (2 ^ 66))
square_of_eccentricity e i = inside_trans (sqr_wide_isotone refl eccentricity_ends i) square_of_eccentricity_widest

at_one : IsInside (point (pos (2 ^ 76))) (point (pos (2 ^ 76)))
at_one = record { low = record { le = tt }; ordered = record { le = tt }; high = record { le = tt } }

radicand_widest : IsInside (sub_of (point (pos (2 ^ 76))) (from_to 0 (2 ^ 66))) (from_to (2 ^ 74) (2 ^ 76))
unfolding sub_of
radicand_widest = record { low = record { le = tt }; ordered = record { le = tt }; high = record { le = tt } }

pub radicand_inside : (e : Ends) → IsInside e eccentricity_ends → IsInside (sub_of (point (pos (2 ^ 76))) (sqr_wide_of e)) (from_to (2 ^ 74) (2 ^ 76))
radicand_inside e i = inside_trans (sub_isotone refl (point (pos (2 ^ 76))) (from_to 0 (2 ^ 66)) at_one (square_of_eccentricity e i)) radicand_widest

ratio_widest : IsInside (sqrt_of (from_to (2 ^ 74) (2 ^ 76))) ratio_ends
unfolding sqrt_of
ratio_widest =
    let l : root_of (pos (2 ^ 74)) ≡ 2 ^ 37 = root_of-unique (pos (2 ^ 74)) (2 ^ 37) (record { le = tt }) (record { lt = tt }) in
    let h : root_of (pos (2 ^ 76)) ≡ 2 ^ 38 = root_of-unique (pos (2 ^ 76)) (2 ^ 38) (record { le = tt }) (record { lt = tt }) in
    rw (l, h) record { low = record { le = tt }; ordered = record { le = tt }; high = record { le = tt } }

pub ratio_inside : (e : Ends) → IsInside e eccentricity_ends → IsInside (axis_ratio_of e) ratio_ends
unfolding axis_ratio_of
ratio_inside e i = inside_trans (sqrt_isotone refl (from_to (2 ^ 74) (2 ^ 76)) (record { le = tt }) (radicand_inside e i)) ratio_widest

ratio_width : (e : Ends) → IsInside e eccentricity_ends → IsNarrow e 1 → IsNarrow (axis_ratio_of e) 4
unfolding axis_ratio_of
ratio_width e i n =
    let r = radicand_inside e i in
    let square : IsNarrow (sqr_wide_of e) (2 ^ 34) = sqr_wide_width (2 ^ 33) 1 (2 ^ 34) (from_around i) n (lit≤ tt) in
    let none : IsNarrow (point (pos (2 ^ 76))) 0 = record { width = record { le = tt } } in
    sqrt_width (2 ^ 37) r.low r.ordered (narrow_weaken (lit≤ tt) (sub_width none square))

one_lies76 : Lies (point (pos (2 ^ 76))) 76 oneᶠ
one_lies76 = record { low = constants (search quote depth 20) tt; high = constants (search quote depth 20) tt }

ratio_encloses : (e : Ends) (x w : Fraction) (N : Level) → IsInside e eccentricity_ends → Lies e 38 x → IsRoot N (oneᶠ -ᶠ x *ᶠ x) w → Lies (axis_ratio_of e) 38 w
unfolding axis_ratio_of
ratio_encloses e x w N i l r =
    let c = radicand_inside e i in
    let cl = c.low in
    sqrt_encloses refl (omega (arith, ints)) N (oneᶠ -ᶠ x *ᶠ x) w (sub_encloses refl 76 oneᶠ (x *ᶠ x) one_lies76 (sqr_wide_encloses refl 38 x l)) r

-- ---- the time of the week
pub week_inside : (rec : AlmRecord) → IsInside (point (week_time rec)) (from_to 0 604800000)
week_inside rec = record { low = low rec.toa_ms; ordered = ≤ℤ_refl (week_time rec); high = high rec.toa_ms }
  where
    low : (z : ℤ) → pos 0 ≤ℤ int_rem_euclid z (pos 604800000)
    low (pos a) = omega (arith, ints)
    low (negsuc a) = omega (arith, ints)

    high : (z : ℤ) → int_rem_euclid z (pos 604800000) ≤ℤ pos 604800000
    high (pos a) = omega (arith, ints)
    high (negsuc a) = omega (arith, ints)

-- ---- all elements
-- how great they are
pub record IsBounded (e : Elements) : Type 0 where
  pub semi_major_axis : IsInside e.semi_major_axis axis_ends
  pub motion : IsInside e.motion (from_to 0 (2 ^ 52))
  pub eccentricity : IsInside e.eccentricity eccentricity_ends
  pub in_turns : IsEccentricityInTurns e.in_turns
  pub semi_minor_axis : IsInside e.semi_minor_axis (around (50 * 2 ^ 38))
  pub mean_anomaly : IsInside e.mean_anomaly (around (2 ^ 41))
  pub node : IsInside e.node (around (2 ^ 41))
  pub perigee : IsInside e.perigee (around (2 ^ 41))
  pub inclination : IsInside e.inclination (around (2 ^ 41))
  pub drift : IsInside e.drift (around (2 ^ 51))
  pub turned : IsInside e.turned (around (2 ^ 80))

-- how wide they are
pub record IsFine (e : Elements) : Type 0 where
  pub semi_major_axis : IsNarrow e.semi_major_axis 2
  pub motion : IsNarrow e.motion 4
  pub eccentricity : IsNarrow e.eccentricity 1
  pub in_turns : IsNarrow e.in_turns 2
  pub semi_minor_axis : IsNarrow e.semi_minor_axis 201
  pub mean_anomaly : IsNarrow e.mean_anomaly 2
  pub node : IsNarrow e.node 2
  pub perigee : IsNarrow e.perigee 2
  pub inclination : IsNarrow e.inclination 2
  pub drift : IsNarrow e.drift 4
  pub turned : IsNarrow e.turned (2 ^ 31)

-- what they hold
pub record Holds (rec : AlmRecord) (e : Elements) : Type 0 where
  pub semi_major_axis : Lies e.semi_major_axis 38 (model_axis rec)
  pub motion : (N : Level) (r : Fraction) → IsRoot N (mu /ᶠ (model_axis rec *ᶠ model_axis rec *ᶠ model_axis rec)) r → Lies e.motion 76 (r /ᶠ tau)
  pub eccentricity : Lies e.eccentricity 38 (model_eccentricity rec)
  pub in_turns : Lies e.in_turns 38 (model_eccentricity rec /ᶠ tau)
  pub semi_minor_axis : (N : Level) (w : Fraction) → IsRoot N (oneᶠ -ᶠ model_eccentricity rec *ᶠ model_eccentricity rec) w → Lies e.semi_minor_axis 38 (model_axis rec *ᶠ w)
  pub mean_anomaly : Lies e.mean_anomaly 38 (turns_of_angle rec.m0)
  pub node : Lies e.node 38 (turns_of_angle rec.omega0)
  pub perigee : Lies e.perigee 38 (turns_of_angle rec.perigee)
  pub inclination : Lies e.inclination 38 (turns_of_angle rec.incl)
  pub drift : Lies e.drift 76 (turns_of_rate rec.rate -ᶠ earth_rotation)
  pub turned : Lies e.turned 76 (earth_rotation *ᶠ whole (int_rem_euclid rec.toa_ms (pos week_ms)))

lesser_widest : IsInside (mul_of axis_ends ratio_ends) (around (50 * 2 ^ 38))
unfolding mul_of mul_wide_of narrow76_of
lesser_widest = record { low = record { le = tt }; ordered = record { le = tt }; high = record { le = tt } }

earth_rate_inside : IsInside (rate_of earth_rate) (from_to 876906561865126 876906561865127)
earth_rate_inside = rw earth_rate-is record { low = record { le = tt }; ordered = record { le = tt }; high = record { le = tt } }

drift_widest : IsInside (sub_of (around (2 ^ 47)) (from_to 876906561865126 876906561865127)) (around (2 ^ 51))
unfolding sub_of
drift_widest = record { low = record { le = tt }; ordered = record { le = tt }; high = record { le = tt } }

turned_widest : IsInside (scale_int_of (from_to 876906561865126 876906561865127) (pos 0) (pos 604800000)) (around (2 ^ 80))
unfolding scale_int_of mul_wide_of
turned_widest = record { low = record { le = tt }; ordered = record { le = tt }; high = record { le = tt } }

pub elements_bounded : (rec : AlmRecord) → IsAlmRecord rec → IsBounded (elements_of rec)
unfolding elements_of
elements_bounded rec i =
    let s = root_inside rec i in
    let e = eccentricity_inside rec i in
    let g = record_angles rec i.angles in
    let w = week_inside rec in
    record {
      semi_major_axis = axis_inside (semi_major_root_of rec) s;
      motion = motion_inside (cube_of (semi_major_root_of rec)) (is_cube (semi_major_root_of rec) s);
      eccentricity = e;
      in_turns = is_eccentric (from_dec_of rec.e) e;
      semi_minor_axis = inside_trans (mul_isotone refl axis_ends ratio_ends (axis_inside (semi_major_root_of rec) s) (ratio_inside (from_dec_of rec.e) e)) lesser_widest;
      mean_anomaly = turns_inside rec.m0 g.m0;
      node = turns_inside rec.omega0 g.omega0;
      perigee = turns_inside rec.perigee g.perigee;
      inclination = turns_inside rec.incl g.incl;
      drift = inside_trans (sub_isotone refl (around (2 ^ 47)) (from_to 876906561865126 876906561865127) (rate_inside rec.rate g.rate) earth_rate_inside) drift_widest;
      turned = inside_trans (scale_int_isotone (week_time rec) (week_time rec) refl (≤ℤ_refl (week_time rec)) (from_to 876906561865126 876906561865127) (from_to 0 604800000) earth_rate_inside w.low w.high) turned_widest;
    }

pub elements_fine : (rec : AlmRecord) → IsAlmRecord rec → IsFine (elements_of rec)
unfolding elements_of
elements_fine rec i =
    let s = root_inside rec i in
    let sw = root_width rec in
    let e = eccentricity_inside rec i in
    let ew = from_dec_width rec.e in
    let w = week_inside rec in
    record {
      semi_major_axis = axis_width (semi_major_root_of rec) s sw;
      motion = motion_width (cube_of (semi_major_root_of rec)) (is_cube (semi_major_root_of rec) s) (cube_width (semi_major_root_of rec) s sw);
      eccentricity = ew;
      in_turns = in_turns_width (from_dec_of rec.e) ew;
      semi_minor_axis = mul_width (49 * 2 ^ 38) (2 ^ 38 + 2) 2 4 199 (from_around (axis_inside (semi_major_root_of rec) s)) (from_around (ratio_inside (from_dec_of rec.e) e)) (axis_width (semi_major_root_of rec) s sw) (ratio_width (from_dec_of rec.e) e ew) (lit≤ tt);
      mean_anomaly = turns_width rec.m0;
      node = turns_width rec.omega0;
      perigee = turns_width rec.perigee;
      inclination = turns_width rec.incl;
      drift = sub_width (rate_width rec.rate) (rate_width earth_rate);
      turned = narrow_weaken (lit≤ tt) (scale_int_width (2 ^ 50) 604800000 2 (week_time rec) (inside_trans earth_rate_inside (record { low = record { le = tt }; ordered = record { le = tt }; high = record { le = tt } })) (from_around w) (rate_width earth_rate));
    }

pub elements_hold : (rec : AlmRecord) → IsAlmRecord rec → Holds rec (elements_of rec)
unfolding elements_of
elements_hold rec i =
    let x : Fraction = semi_major_root rec in
    let s = root_inside rec i in
    let sl = root_encloses rec in
    let e = eccentricity_inside rec i in
    let el = from_dec_encloses rec.e refl in
    record {
      semi_major_axis = axis_encloses (semi_major_root_of rec) x s sl;
      motion = λ N r root. motion_encloses (cube_of (semi_major_root_of rec)) ((x *ᶠ x) *ᶠ x) (is_cube (semi_major_root_of rec) s) (cube_encloses (semi_major_root_of rec) x s sl) N (model_axis rec *ᶠ model_axis rec *ᶠ model_axis rec) r (sixth x) root;
      eccentricity = el;
      in_turns = in_turns_encloses (from_dec_of rec.e) (value_of rec.e) el;
      semi_minor_axis = λ N w root. mul_encloses refl (model_axis rec) w (axis_encloses (semi_major_root_of rec) x s sl) (ratio_encloses (from_dec_of rec.e) (model_eccentricity rec) w N e el root);
      mean_anomaly = turns_encloses rec.m0;
      node = turns_encloses rec.omega0;
      perigee = turns_encloses rec.perigee;
      inclination = turns_encloses rec.incl;
      drift = sub_encloses refl 76 (turns_of_rate rec.rate) earth_rotation (rate_encloses rec.rate) (rate_encloses earth_rate);
      turned = scale_int_encloses (week_time rec) (week_time rec) refl 76 earth_rotation (whole (week_time rec)) (rate_encloses earth_rate) (≤ᶠ_refl (whole (week_time rec))) (≤ᶠ_refl (whole (week_time rec)));
    }
  where
    sixth : (x : Fraction) → (x *ᶠ x) *ᶠ (x *ᶠ x) *ᶠ (x *ᶠ x) ≡ ((x *ᶠ x) *ᶠ x) *ᶠ ((x *ᶠ x) *ᶠ x)
    sixth x = identity (x ∷ []) (search quote depth 20) tt
