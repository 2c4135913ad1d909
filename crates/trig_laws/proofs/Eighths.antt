-- The sine and cosine of a quarter enclose what the model admits.
use Rattle.std.specs.Prelude.{◌≡◌, ℕ, zero, suc, pos, ◌+◌, ◌*◌, ◌^◌, ◌≤◌, refl, List, [], ◌∷◌}
use Rattle.std.proofs.Common.{arith, subst}
use Rattle.std.proofs.lemmas.Nat.{pow_pos}
use Rattle.std.proofs.Math.Nat.{mul-pos}
use lib.Dec.{lit≤}
use Rattle.fractions.specs.Fraction.{Fraction, ratio, oneᶠ, ◌*ᶠ◌, neg, abs, ◌≤ᶠ◌, IsNear}
use Rattle.fractions.proofs.Near.{near_weaken}
use Rattle.fractions.proofs.Quote.{quote, identity}
use Rattle.fractions.proofs.Ratios.{ratio-same, ratio_anti, neg-ratio}
use Rattle.raim_model.specs.Constants.{tau}
use Rattle.raim_model.specs.Series.{sine_series, cosine_series, sine_remainder, cosine_remainder}
use Rattle.fix_interval.specs.Ends.{Ends}
use Rattle.fix_interval.specs.Lies.{Lies}
use Rattle.fix_interval.proofs.EndBounds.{clamp_encloses}
use Rattle.fix_interval.proofs.EndProducts.{mul_encloses}
use Rattle.fix_interval.proofs.EndQuotients.{div_int_encloses}
use Rattle.fix_interval.proofs.EndSquares.{sqr_encloses}
use Rattle.fix_interval.proofs.EndSums.{sub_encloses}
use Rattle.fix_interval.specs.Ranges.{one_ends}
use Rattle.fix_interval.proofs.EndScales.{scale_encloses, widen_encloses, one_lies}
use Rattle.series_laws.proofs.Bracket.{sine_near, cosine_near, fifth_unit}
use Rattle.series_laws.proofs.Nest.{nest, step, cosine_series-nest, sine_series-nest}
use Rattle.trig_laws.specs.Quarter.{nested_of, trimmed, radians_of, sine_of, cosine_of, turn_parts}
use Rattle.std.proofs.Common.{sym}

-- the divisors of n steps from j on
divisors : ℕ → ℕ → List ℕ
divisors j zero = []
divisors j (suc n) = (j + 1) * (j + 2) ∷ divisors (j + 2) n

nested_encloses : (y : Ends) (Y : Fraction) (j n : ℕ) → Lies y 38 Y → Lies (nested_of y (divisors j n)) 38 (nest Y j (suc n))
unfolding nested_of divisors
nested_encloses y Y j zero l = subst (λ t. Lies one_ends 38 t) (identity (step Y j ∷ []) (search quote depth 20) tt) one_lies
nested_encloses y Y j (suc n) l =
    subst (λ t. Lies (nested_of y (divisors j (suc n))) 38 t)
    (identity (Y ∷ ratio (pos 1) ((j + 1) * (j + 2)) ∷ nest Y (j + 2) (suc n) ∷ []) (search quote depth 20) tt)
    (sub_encloses refl 38 _ _ one_lies (div_int_encloses ((j + 1) * (j + 2)) refl (mul-pos {m = j + 1} {n = j + 2} (omega arith) (omega arith)) 38 _ (mul_encloses refl _ _ l (nested_encloses y Y (j + 2) n l))))

sine_nested : (y : Ends) (Y : Fraction) → Lies y 38 Y → Lies (nested_of y (6 ∷ 20 ∷ 42 ∷ 72 ∷ 110 ∷ 156 ∷ [])) 38 (nest Y 1 7)
unfolding divisors
sine_nested y Y l = nested_encloses y Y 1 6 l

cosine_nested : (y : Ends) (Y : Fraction) → Lies y 38 Y → Lies (nested_of y (2 ∷ 12 ∷ 30 ∷ 56 ∷ 90 ∷ 132 ∷ [])) 38 (nest Y 0 7)
unfolding divisors
cosine_nested y Y l = nested_encloses y Y 0 6 l

radians_enclose : (r : Ends) (u : Fraction) → Lies r 38 u → Lies (radians_of r) 38 (tau *ᶠ u)
radians_enclose r u l = scale_encloses turn_parts (10 ^ 13) refl (lit≤ tt) 38 u l

unit_wide : fifth_unit ≤ᶠ ratio (pos 1) (2 ^ 38)
unit_wide = ratio_anti (2 ^ 38) (5 * 2 ^ 38) (pow_pos 38) (lit≤ tt)

one-scaled : ratio (pos (2 ^ 38)) (2 ^ 38) ≡ oneᶠ
one-scaled = ratio-same (pos (2 ^ 38)) (pos 1) (2 ^ 38) 1 (pow_pos 38) (lit≤ tt) refl

trimmed_encloses : (a : Ends) (x y : Fraction) → Lies a 38 x → IsNear y x fifth_unit → neg oneᶠ ≤ᶠ y → y ≤ᶠ oneᶠ → Lies (trimmed a) 38 y
trimmed_encloses a x y l h low high = clamp_encloses (pos (2 ^ 38)) refl 38 y (widen_encloses refl 38 x y l (near_weaken unit_wide h)) (rw (sym (neg-ratio (pos (2 ^ 38)) (2 ^ 38)), one-scaled) low) (rw one-scaled high)

pub sine_encloses : (N : ℕ) (r : Ends) (u s : Fraction) → 7 ≤ N → Lies r 38 u → abs (tau *ᶠ u) ≤ᶠ ratio (pos 4) 5
    → IsNear s (sine_series N (tau *ᶠ u)) (sine_remainder N (tau *ᶠ u)) → neg oneᶠ ≤ᶠ s → s ≤ᶠ oneᶠ → Lies (sine_of r) 38 s
unfolding sine_of
sine_encloses N r u s hN l hx p low high = trimmed_encloses _ _ s (mul_encloses refl _ _ (radians_enclose r u l) (sine_nested _ _ (sqr_encloses refl _ (radians_enclose r u l)))) (rw (sine_series-nest 7 (tau *ᶠ u)) at (sine_near N (tau *ᶠ u) s hN hx p)) low high

pub cosine_encloses : (N : ℕ) (r : Ends) (u c : Fraction) → 8 ≤ N → Lies r 38 u → abs (tau *ᶠ u) ≤ᶠ ratio (pos 4) 5
    → IsNear c (cosine_series N (tau *ᶠ u)) (cosine_remainder N (tau *ᶠ u)) → neg oneᶠ ≤ᶠ c → c ≤ᶠ oneᶠ → Lies (cosine_of r) 38 c
unfolding cosine_of
cosine_encloses N r u c hN l hx p low high = trimmed_encloses _ _ c (cosine_nested _ _ (sqr_encloses refl _ (radians_enclose r u l))) (rw (cosine_series-nest 7 (tau *ᶠ u)) at (cosine_near N (tau *ᶠ u) c hN hx p)) low high
