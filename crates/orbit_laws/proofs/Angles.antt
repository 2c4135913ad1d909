-- Angles and rates: their ends hold them, and are not too great or too wide.
use Rattle.std.specs.Prelude.{◌≡◌, ℕ, pos, ◌*◌, ◌^◌, ◌<◌, refl, neg_ℤ, ◌≢◌, ◌⊎◌, [], ◌∷◌}
use Rattle.std.proofs.Common.{arith, sym, ◌∙◌, subst, inl, inr}
use Rattle.std.proofs.lemmas.Int.{ints}
use Rattle.std.proofs.lemmas.Nat.{pow_pos}
use lib.Dec.{lit≤}
use Rattle.fractions.specs.Fraction.{Fraction, ratio, whole, zeroᶠ, ◌+ᶠ◌, ◌*ᶠ◌, ◌≤ᶠ◌}
use Rattle.fractions.specs.Inverse.{◌/ᶠ◌}
use Rattle.fractions.proofs.Certificates.{constants, positive}
use Rattle.fractions.proofs.Laws.{≤ᶠ_refl, ≤ᶠ_trans}
use Rattle.fractions.proofs.Quote.{quote, identity}
use Rattle.fractions.proofs.Ratios.{ratio-mul, ratio-same}
use Rattle.fractions.proofs.StrictOrder.{positive_apart}
use Rattle.raim_model.specs.declared.decimal.Dec.{Dec}
use Rattle.raim_model.specs.declared.decimal.Angle.{Angle}
use Rattle.raim_model.specs.declared.decimal.Angle.TheVariants.{Rad, Semi, Semi30}
use Rattle.raim_model.specs.AlmanacRanges.{IsRadians, IsSemicircles, IsSemicirclesAbove, slowest_drift, fastest_drift, HasYumaAngles, HasSemAngles}
use Rattle.raim_model.specs.Ranges.{IsDecimalBetween}
use Rattle.raim_model.specs.declared.almanac.AlmRecord.{AlmRecord}
use Rattle.raim_model.specs.Constants.{tau}
use Rattle.raim_model.specs.Decimal.{value_of, turns_of_angle, turns_of_rate}
use Rattle.fix_interval.specs.Ends.{Ends, IsInside, IsNarrow}
use Rattle.fix_interval.specs.Lies.{Lies}
use Rattle.fix_interval.specs.Decimals.{dec76_of}
use Rattle.fix_interval.specs.Quotients.{div_int_of, outward_of, scale_of}
use Rattle.fix_interval.specs.Sums.{add_of}
use Rattle.fix_interval.proofs.EndDecimals.{dec76_encloses, dec76_inside, dec76_width}
use Rattle.fix_interval.proofs.EndQuotients.{div_int_encloses, div_int_isotone}
use Rattle.fix_interval.proofs.EndSums.{add_encloses, add_isotone}
use Rattle.fix_interval.proofs.EndInsides.{inside_trans}
use Rattle.fix_interval.proofs.EndScales.{scale_encloses, coarser, scale_coarser, scale_isotone}
use Rattle.fix_interval.specs.Ranges.{around}
use Rattle.fix_interval.proofs.EndWidths.{scale_width, div_int_width, add_width}
use Rattle.trig_laws.specs.Quarter.{turn_parts}
use Rattle.orbit_laws.specs.Angles.{turns_of, rate_of, above_three_tenths, three_tenths, earth_rate, IsAngle, IsRate}
use Rattle.orbit_laws.proofs.Products.{over-is}

-- ---- enclosure
above_encloses : (d : Dec) → Lies (above_three_tenths d) 76 (value_of d +ᶠ ratio (pos 3) 10)
unfolding above_three_tenths
above_encloses d = add_encloses refl 76 (value_of d) (value_of three_tenths) (dec76_encloses d refl) (dec76_encloses three_tenths refl)

-- x / tau, and x / (1000 tau)
tau_apart : tau ≢ zeroᶠ
tau_apart = positive_apart (search positive)

thousand_tau_apart : whole (pos 1000) *ᶠ tau ≢ zeroᶠ
thousand_tau_apart = positive_apart (search positive)

pub over_tau-is : (x : Fraction) → x /ᶠ tau ≡ ratio (pos (10 ^ 13)) turn_parts *ᶠ x
over_tau-is x = over-is x tau (ratio (pos (10 ^ 13)) turn_parts) tau_apart (identity [] (search quote depth 20) tt)

over_thousand_tau-is : (x : Fraction) → x /ᶠ (whole (pos 1000) *ᶠ tau) ≡ ratio (pos (10 ^ 10)) turn_parts *ᶠ x
over_thousand_tau-is x = over-is x (whole (pos 1000) *ᶠ tau) (ratio (pos (10 ^ 10)) turn_parts) thousand_tau_apart (identity [] (search quote depth 20) tt)

over_whole-is : (x : Fraction) (k : ℕ) → 0 < k → x /ᶠ whole (pos k) ≡ ratio (pos 1) k *ᶠ x
over_whole-is x k h = over-is x (whole (pos k)) (ratio (pos 1) k) (positive_apart (search positive)) (ratio-mul (pos 1) (pos k) k 1 h (lit≤ tt) ∙ ratio-same (pos (1 * k)) (pos 1) (k * 1) 1 (omega arith) (lit≤ tt) (omega (arith, ints)))

-- a half of x, from scale 76 to scale 38
half_encloses : (a : Ends) (x : Fraction) → Lies a 76 x → Lies (div_int_of a (2 ^ 39)) 38 (x /ᶠ whole (pos 2))
half_encloses a x l =
    subst (Lies (div_int_of a (2 ^ 39)) 38) (sym (over_whole-is x 2 (lit≤ tt)))
    (coarser (ratio (pos 1) 2 *ᶠ x) (subst (Lies (div_int_of a (2 ^ 39)) 76) (split x) (div_int_encloses (2 ^ 39) refl (pow_pos 39) 76 x l)))
  where
    split : (x : Fraction) → ratio (pos 1) (2 ^ 39) *ᶠ x ≡ ratio (pos 1) (2 ^ 38) *ᶠ (ratio (pos 1) 2 *ᶠ x)
    split x = identity (x ∷ []) (search quote depth 20) tt

-- an angle lies in its turns
pub turns_encloses : (a : Angle) → Lies (turns_of a) 38 (turns_of_angle a)
unfolding turns_of
turns_encloses (Rad d) = subst (Lies (scale_of (dec76_of d) (10 ^ 13) (turn_parts * 2 ^ 38)) 38) (sym (over_tau-is (value_of d))) (scale_coarser (10 ^ 13) turn_parts refl (lit≤ tt) (value_of d) (dec76_encloses d refl))
turns_encloses (Semi d) = half_encloses (dec76_of d) (value_of d) (dec76_encloses d refl)
turns_encloses (Semi30 d) = half_encloses (above_three_tenths d) (value_of d +ᶠ ratio (pos 3) 10) (above_encloses d)

-- and a rate in its turns per millisecond
pub rate_encloses : (a : Angle) → Lies (rate_of a) 76 (turns_of_rate a)
unfolding rate_of
rate_encloses (Rad d) = subst (Lies (scale_of (dec76_of d) (10 ^ 10) turn_parts) 76) (sym (over_thousand_tau-is (value_of d))) (scale_encloses (10 ^ 10) turn_parts refl (lit≤ tt) 76 (value_of d) (dec76_encloses d refl))
rate_encloses (Semi d) = subst (Lies (div_int_of (dec76_of d) 2000) 76) (sym (over_whole-is (value_of d) 2000 (lit≤ tt))) (div_int_encloses 2000 refl (lit≤ tt) 76 (value_of d) (dec76_encloses d refl))
rate_encloses (Semi30 d) = subst (Lies (div_int_of (above_three_tenths d) 2000) 76) (sym (over_whole-is (value_of d +ᶠ ratio (pos 3) 10) 2000 (lit≤ tt))) (div_int_encloses 2000 refl (lit≤ tt) 76 (value_of d +ᶠ ratio (pos 3) 10) (above_encloses d))

-- ---- magnitudes
-- decimals from -10 to 10 at scale 76
abbrev pub ten_ends : Ends
ten_ends = around (10 * 2 ^ 76)

ten_low : ratio (neg_ℤ (pos (10 * 2 ^ 76))) (2 ^ 76) ≤ᶠ whole (neg_ℤ (pos 10))
ten_low = constants (search quote depth 20) tt

ten_high : whole (pos 10) ≤ᶠ ratio (pos (10 * 2 ^ 76)) (2 ^ 76)
ten_high = constants (search quote depth 20) tt

pub ten_inside : (d : Dec) → IsDecimalBetween (whole (neg_ℤ (pos 10))) (whole (pos 10)) d → IsInside (dec76_of d) ten_ends
ten_inside d i = dec76_inside d (neg_ℤ (pos (10 * 2 ^ 76))) (pos (10 * 2 ^ 76)) (≤ᶠ_trans ten_low i.at_least) (≤ᶠ_trans i.at_most ten_high)

pub three_inside : IsInside (dec76_of three_tenths) (around (2 ^ 76))
unfolding dec76_of outward_of
three_inside = record { low = record { le = tt }; ordered = record { le = tt }; high = record { le = tt } }

above_inside : (d : Dec) → IsDecimalBetween (whole (neg_ℤ (pos 10))) (whole (pos 10)) d → IsInside (above_three_tenths d) (add_of ten_ends (around (2 ^ 76)))
unfolding above_three_tenths
above_inside d i = add_isotone refl ten_ends (around (2 ^ 76)) (ten_inside d i) three_inside

radians_widest : IsInside (scale_of ten_ends (10 ^ 13) (turn_parts * 2 ^ 38)) (around (2 ^ 41))
unfolding scale_of
radians_widest = record { low = record { le = tt }; ordered = record { le = tt }; high = record { le = tt } }

semicircles_widest : IsInside (div_int_of ten_ends (2 ^ 39)) (around (2 ^ 41))
unfolding div_int_of
semicircles_widest = record { low = record { le = tt }; ordered = record { le = tt }; high = record { le = tt } }

above_widest : IsInside (div_int_of (add_of ten_ends (around (2 ^ 76))) (2 ^ 39)) (around (2 ^ 41))
unfolding div_int_of add_of
above_widest = record { low = record { le = tt }; ordered = record { le = tt }; high = record { le = tt } }

-- angles are within eight turns
pub turns_inside : (a : Angle) → IsAngle a → IsInside (turns_of a) (around (2 ^ 41))
unfolding turns_of
turns_inside (Rad d) i = inside_trans (scale_isotone (10 ^ 13) (turn_parts * 2 ^ 38) (lit≤ tt) (ten_inside d i)) radians_widest
turns_inside (Semi d) i = inside_trans (div_int_isotone (2 ^ 39) refl (pow_pos 39) ten_ends (ten_inside d i)) semicircles_widest
turns_inside (Semi30 d) i = inside_trans (div_int_isotone (2 ^ 39) refl (pow_pos 39) (add_of ten_ends (around (2 ^ 76))) (above_inside d i)) above_widest

-- millionths at scale 76
abbrev pub millionth_ends : Ends
millionth_ends = around (2 ^ 57)

millionth_low : ratio (neg_ℤ (pos (2 ^ 57))) (2 ^ 76) ≤ᶠ slowest_drift
millionth_low = constants (search quote depth 20) tt

millionth_high : fastest_drift ≤ᶠ ratio (pos (2 ^ 57)) (2 ^ 76)
millionth_high = constants (search quote depth 20) tt

pub millionth_inside : (d : Dec) → IsDecimalBetween slowest_drift fastest_drift d → IsInside (dec76_of d) millionth_ends
millionth_inside d i = dec76_inside d (neg_ℤ (pos (2 ^ 57))) (pos (2 ^ 57)) (≤ᶠ_trans millionth_low i.at_least) (≤ᶠ_trans i.at_most millionth_high)

radian_rate_widest : IsInside (scale_of millionth_ends (10 ^ 10) turn_parts) (around (2 ^ 47))
unfolding scale_of
radian_rate_widest = record { low = record { le = tt }; ordered = record { le = tt }; high = record { le = tt } }

semicircle_rate_widest : IsInside (div_int_of millionth_ends 2000) (around (2 ^ 47))
unfolding div_int_of
semicircle_rate_widest = record { low = record { le = tt }; ordered = record { le = tt }; high = record { le = tt } }

pub rate_inside : (a : Angle) → IsRate a → IsInside (rate_of a) (around (2 ^ 47))
unfolding rate_of
rate_inside (Rad d) i = inside_trans (scale_isotone (10 ^ 10) turn_parts (lit≤ tt) (millionth_inside d i)) radian_rate_widest
rate_inside (Semi d) i = inside_trans (div_int_isotone 2000 refl (lit≤ tt) millionth_ends (millionth_inside d i)) semicircle_rate_widest
rate_inside (Semi30 d) i = absurd i

-- the Earth's rotation in numbers
pub earth_rate-is : rate_of earth_rate ≡ record { lo = pos 876906561865126; hi = pos 876906561865127 }
unfolding rate_of dec76_of outward_of scale_of
earth_rate-is = refl

-- ---- widths
above_width : (d : Dec) → IsNarrow (above_three_tenths d) 2
unfolding above_three_tenths
above_width d = add_width (dec76_width d) (dec76_width three_tenths)

pub turns_width : (a : Angle) → IsNarrow (turns_of a) 2
unfolding turns_of
turns_width (Rad d) = scale_width (10 ^ 13) (turn_parts * 2 ^ 38) 1 1 (lit≤ tt) (dec76_width d) (lit≤ tt)
turns_width (Semi d) = div_int_width (2 ^ 39) 1 1 (lit≤ tt) (dec76_width d) (lit≤ tt)
turns_width (Semi30 d) = div_int_width (2 ^ 39) 2 1 (lit≤ tt) (above_width d) (lit≤ tt)

pub rate_width : (a : Angle) → IsNarrow (rate_of a) 2
unfolding rate_of
rate_width (Rad d) = scale_width (10 ^ 10) turn_parts 1 1 (lit≤ tt) (dec76_width d) (lit≤ tt)
rate_width (Semi d) = div_int_width 2000 1 1 (lit≤ tt) (dec76_width d) (lit≤ tt)
rate_width (Semi30 d) = div_int_width 2000 2 1 (lit≤ tt) (above_width d) (lit≤ tt)

-- ---- the records
radians_angle : (a : Angle) (low high : Fraction) → whole (neg_ℤ (pos 10)) ≤ᶠ low → high ≤ᶠ whole (pos 10) → IsRadians low high a → IsAngle a
radians_angle (Rad d) low high p q i = record { canonical = i.canonical; at_least = ≤ᶠ_trans p i.at_least; at_most = ≤ᶠ_trans i.at_most q }
radians_angle (Semi d) low high p q i = absurd i
radians_angle (Semi30 d) low high p q i = absurd i

semicircles_angle : (a : Angle) (low high : Fraction) → whole (neg_ℤ (pos 10)) ≤ᶠ low → high ≤ᶠ whole (pos 10) → IsSemicircles low high a → IsAngle a
semicircles_angle (Rad d) low high p q i = absurd i
semicircles_angle (Semi d) low high p q i = record { canonical = i.canonical; at_least = ≤ᶠ_trans p i.at_least; at_most = ≤ᶠ_trans i.at_most q }
semicircles_angle (Semi30 d) low high p q i = absurd i

above_angle : (a : Angle) (low high : Fraction) → whole (neg_ℤ (pos 10)) ≤ᶠ low → high ≤ᶠ whole (pos 10) → IsSemicirclesAbove low high a → IsAngle a
above_angle (Rad d) low high p q i = absurd i
above_angle (Semi d) low high p q i = absurd i
above_angle (Semi30 d) low high p q i = record { canonical = i.canonical; at_least = ≤ᶠ_trans p i.at_least; at_most = ≤ᶠ_trans i.at_most q }

radians_rate : (a : Angle) → IsRadians slowest_drift fastest_drift a → IsRate a
radians_rate (Rad d) i = i
radians_rate (Semi d) i = absurd i
radians_rate (Semi30 d) i = absurd i

semicircles_rate : (a : Angle) → IsSemicircles slowest_drift fastest_drift a → IsRate a
semicircles_rate (Rad d) i = absurd i
semicircles_rate (Semi d) i = i
semicircles_rate (Semi30 d) i = absurd i

-- the angles of a record, whatever its format
pub record HasAngles (rec : AlmRecord) : Type 0 where
  pub incl : IsAngle rec.incl
  pub rate : IsRate rec.rate
  pub omega0 : IsAngle rec.omega0
  pub perigee : IsAngle rec.perigee
  pub m0 : IsAngle rec.m0

pub record_angles : (rec : AlmRecord) → HasYumaAngles rec ⊎ HasSemAngles rec → HasAngles rec
record_angles rec (inl y) = record {
  incl = radians_angle rec.incl (whole (pos 0)) (ratio (pos 31415926535898) (10 ^ 13)) (constants (search quote depth 20) tt) (constants (search quote depth 20) tt) y.incl;
  rate = radians_rate rec.rate y.rate;
  omega0 = radians_angle rec.omega0 (whole (neg_ℤ (pos 10))) (whole (pos 10)) (≤ᶠ_refl (whole (neg_ℤ (pos 10)))) (≤ᶠ_refl (whole (pos 10))) y.omega0;
  perigee = radians_angle rec.perigee (whole (neg_ℤ (pos 10))) (whole (pos 10)) (≤ᶠ_refl (whole (neg_ℤ (pos 10)))) (≤ᶠ_refl (whole (pos 10))) y.perigee;
  m0 = radians_angle rec.m0 (whole (neg_ℤ (pos 10))) (whole (pos 10)) (≤ᶠ_refl (whole (neg_ℤ (pos 10)))) (≤ᶠ_refl (whole (pos 10))) y.m0;
}
record_angles rec (inr s) = record {
  incl = above_angle rec.incl (ratio (neg_ℤ (pos 30)) 100) (ratio (pos 70) 100) (constants (search quote depth 20) tt) (constants (search quote depth 20) tt) s.incl;
  rate = semicircles_rate rec.rate s.rate;
  omega0 = semicircles_angle rec.omega0 (whole (neg_ℤ (pos 4))) (whole (pos 4)) (constants (search quote depth 20) tt) (constants (search quote depth 20) tt) s.omega0;
  perigee = semicircles_angle rec.perigee (whole (neg_ℤ (pos 4))) (whole (pos 4)) (constants (search quote depth 20) tt) (constants (search quote depth 20) tt) s.perigee;
  m0 = semicircles_angle rec.m0 (whole (neg_ℤ (pos 4))) (whole (pos 4)) (constants (search quote depth 20) tt) (constants (search quote depth 20) tt) s.m0;
}
