-- The series by nested multiplication, and how near its sums are to one another.
use Rattle.std.specs.Prelude.{◌≡◌, ℕ, zero, suc, pos, ◌+◌, ◌*◌, ◌<◌, ◌≤◌, refl, [], ◌∷◌}
use Rattle.std.proofs.Common.{arith, ap, ap₂, sym, ◌∙◌}
use Rattle.std.proofs.Math.Nat.{mul-pos}
use lib.Dec.{lit≤}
use Rattle.fractions.specs.Fraction.{Fraction, ratio, zeroᶠ, oneᶠ, ◌+ᶠ◌, ◌-ᶠ◌, ◌*ᶠ◌, pow, ◌≤ᶠ◌, IsNear}
use Rattle.fractions.proofs.Certificates.{at_most, not_negative}
use Rattle.fractions.proofs.Laws.{≤ᶠ_refl, not_negative_product, *ᶠ_mono, *ᶠ_one, *ᶠ_zero, not_negative_sub}
use Rattle.fractions.proofs.Quote.{quote, identity}
use Rattle.fractions.proofs.Ratios.{ratio-mul, ratio_anti, not_negative_ratio}
use Rattle.raim_model.specs.Series.{factorial, power_part, sine_series, cosine_series}
use Rattle.raim_model.specs.Series.{sign_of}

-- ((j + 1) (j + 2)) ((j + 3) (j + 4)) .. of n pairs
abbrev pub rise : ℕ → ℕ → ℕ
rise j zero = 1
rise j (suc n) = ((j + 1) * (j + 2)) * rise (j + 2) n

-- y / ((j + 1) (j + 2))
abbrev pub step : Fraction → ℕ → Fraction
step y j = y *ᶠ ratio (pos 1) ((j + 1) * (j + 2))

-- 1 - step (1 - step (1 - ..)), of n terms
abbrev pub nest : Fraction → ℕ → ℕ → Fraction
nest y j zero = zeroᶠ
nest y j (suc n) = oneᶠ -ᶠ step y j *ᶠ nest y (j + 2) n

-- the product of n steps
abbrev pub rest : Fraction → ℕ → ℕ → Fraction
rest y j zero = oneᶠ
rest y j (suc n) = step y j *ᶠ rest y (j + 2) n

pub rise_pos : (j n : ℕ) → 0 < rise j n
rise_pos j zero = omega arith
rise_pos j (suc n) = mul-pos (mul-pos (omega arith) (omega arith)) (rise_pos (j + 2) n)

pub factorial-rise : (j n : ℕ) → factorial (j + 2 * n) ≡ rise j n * factorial j
factorial-rise j zero = rw (at_zero j) (omega arith)
  where
    at_zero : (j : ℕ) → j + 2 * 0 ≡ j
    at_zero j = omega arith
factorial-rise j (suc n) =
    ap factorial (shift j n) ∙ factorial-rise (j + 2) n ∙ ap (λ k. rise (j + 2) n * factorial k) (two j) ∙ regroup (rise (j + 2) n) j (factorial j)
  where
    shift : (j n : ℕ) → j + 2 * suc n ≡ (j + 2) + 2 * n
    shift j n = omega arith

    two : (j : ℕ) → j + 2 ≡ suc (suc j)
    two j = omega arith

    regroup : (r j f : ℕ) → r * (suc (suc j) * (suc j * f)) ≡ ((j + 1) * (j + 2)) * r * f
    regroup r j f = omega arith

-- ---- bounds of a step
step_low : (y : Fraction) (j : ℕ) → zeroᶠ ≤ᶠ y → zeroᶠ ≤ᶠ step y j
step_low y j h = not_negative_product _ _ h (not_negative_ratio 1 ((j + 1) * (j + 2)))

step_high : (y : Fraction) (j : ℕ) → zeroᶠ ≤ᶠ y → y ≤ᶠ oneᶠ → step y j ≤ᶠ oneᶠ
step_high y j n h = rw (*ᶠ_one oneᶠ) at (*ᶠ_mono (not_negative_ratio 1 1) (not_negative_ratio 1 ((j + 1) * (j + 2))) h (ratio_anti 1 ((j + 1) * (j + 2)) (lit≤ tt) (mul-pos {m = j + 1} {n = j + 2} (omega arith) (omega arith))))

-- ---- every sum of alternating falling terms lies from 0 to 1
pub record IsUnit (x : Fraction) : Type 0 where
  pub low : zeroᶠ ≤ᶠ x
  pub high : x ≤ᶠ oneᶠ

product_unit : (x y : Fraction) → IsUnit x → IsUnit y → IsUnit (x *ᶠ y)
product_unit x y p q = record { low = not_negative_product _ _ p.low q.low; high = rw (*ᶠ_one oneᶠ) at (*ᶠ_mono (not_negative_ratio 1 1) q.low p.high q.high) }

rest_unit' : (x : Fraction) → IsUnit x → IsUnit (oneᶠ -ᶠ x)
rest_unit' x p = record { low = not_negative_sub _ _ p.high; high = at_most (x ∷ []) x p.low (search quote depth 20) tt }

pub nest_unit : (y : Fraction) (j n : ℕ) → IsUnit y → IsUnit (nest y j n)
nest_unit y j zero p = record { low = ≤ᶠ_refl zeroᶠ; high = not_negative_ratio 1 1 }
nest_unit y j (suc n) p = rest_unit' _ (product_unit _ _ record { low = step_low y j p.low; high = step_high y j p.low p.high } (nest_unit y (j + 2) n p))

pub rest_unit : (y : Fraction) (j n : ℕ) → IsUnit y → IsUnit (rest y j n)
rest_unit y j zero p = record { low = not_negative_ratio 1 1; high = ≤ᶠ_refl oneᶠ }
rest_unit y j (suc n) p = product_unit _ _ record { low = step_low y j p.low; high = step_high y j p.low p.high } (rest_unit y (j + 2) n p)

-- ---- the rest falls
pub rest_falls : (y : Fraction) (j n N : ℕ) → IsUnit y → n ≤ N → rest y j N ≤ᶠ rest y j n
rest_falls y j zero N p h = (rest_unit y j N p).high
rest_falls y j (suc n) zero p h = absurd (omega arith)
rest_falls y j (suc n) (suc N) p h = *ᶠ_mono (step_low y j p.low) (rest_unit y (j + 2) N p).low (≤ᶠ_refl (step y j)) (rest_falls y (j + 2) n N p (omega arith))

-- ---- two sums are as near as the first term that the shorter leaves out
near_step : (r a b e : Fraction) → zeroᶠ ≤ᶠ r → IsNear a b e → IsNear (oneᶠ -ᶠ r *ᶠ a) (oneᶠ -ᶠ r *ᶠ b) (r *ᶠ e)
near_step r a b e n h = record {
  low = at_most (r ∷ a ∷ b ∷ e ∷ []) (r *ᶠ ((a +ᶠ e) -ᶠ b)) (search not_negative) (search quote depth 20) tt;
  high = at_most (r ∷ a ∷ b ∷ e ∷ []) (r *ᶠ ((b +ᶠ e) -ᶠ a)) (search not_negative) (search quote depth 20) tt;
}

pub near_zero : (x : Fraction) → IsUnit x → IsNear x zeroᶠ oneᶠ
near_zero x p = record { low = at_most (x ∷ []) (oneᶠ -ᶠ x) (search not_negative) (search quote depth 20) tt; high = at_most (x ∷ []) (x +ᶠ oneᶠ) (search not_negative) (search quote depth 20) tt }

pub nest_near : (y : Fraction) (j n N : ℕ) → IsUnit y → n ≤ N → IsNear (nest y j N) (nest y j n) (rest y j n)
nest_near y j zero N p h = near_zero _ (nest_unit y j N p)
nest_near y j (suc n) zero p h = absurd (omega arith)
nest_near y j (suc n) (suc N) p h = near_step (step y j) _ _ _ (step_low y j p.low) (nest_near y (j + 2) n N p (omega arith))

-- ---- one term more
pub nest-suc : (y : Fraction) (j n : ℕ) → nest y j (suc n) ≡ nest y j n +ᶠ sign_of n *ᶠ rest y j n
unfolding pow
nest-suc y j zero = identity (step y j ∷ []) (search quote depth 20) tt
nest-suc y j (suc n) =
    ap (λ t. oneᶠ -ᶠ step y j *ᶠ t) (nest-suc y (j + 2) n)
    ∙ identity (step y j ∷ nest y (j + 2) n ∷ sign_of n ∷ rest y (j + 2) n ∷ []) (search quote depth 20) tt

-- ---- the rest as a power over a product
pub rest-is : (y : Fraction) (j n : ℕ) → rest y j n ≡ pow y n *ᶠ ratio (pos 1) (rise j n)
unfolding pow
rest-is y j zero = sym (*ᶠ_one oneᶠ)
rest-is y j (suc n) =
    ap (λ t. step y j *ᶠ t) (rest-is y (j + 2) n)
    ∙ identity (y ∷ ratio (pos 1) ((j + 1) * (j + 2)) ∷ pow y n ∷ ratio (pos 1) (rise (j + 2) n) ∷ []) (search quote depth 20) tt
    ∙ ap (λ t. (y *ᶠ pow y n) *ᶠ t) (ratio-mul (pos 1) (pos 1) ((j + 1) * (j + 2)) (rise (j + 2) n) (mul-pos {m = j + 1} {n = j + 2} (omega arith) (omega arith)) (rise_pos (j + 2) n))

pow-double : (x : Fraction) (n : ℕ) → pow x (2 * n) ≡ pow (x *ᶠ x) n
unfolding pow
pow-double x zero = refl
pow-double x (suc n) =
    ap (pow x) (twice n) ∙ ap (λ t. x *ᶠ (x *ᶠ t)) (pow-double x n) ∙ identity (x ∷ pow (x *ᶠ x) n ∷ []) (search quote depth 20) tt
  where
    twice : (n : ℕ) → 2 * suc n ≡ suc (suc (2 * n))
    twice n = omega arith

-- the terms of the definition
pub cosine_part : (x : Fraction) (n : ℕ) → power_part x (2 * n) ≡ rest (x *ᶠ x) 0 n
cosine_part x n = ap₂ (λ p k. p *ᶠ ratio (pos 1) k) (pow-double x n) (ap factorial (from_zero n) ∙ factorial-rise 0 n ∙ one_more (rise 0 n)) ∙ sym (rest-is (x *ᶠ x) 0 n)
  where
    from_zero : (n : ℕ) → 2 * n ≡ 0 + 2 * n
    from_zero n = omega arith

    one_more : (r : ℕ) → r * 1 ≡ r
    one_more r = omega arith

pub sine_part : (x : Fraction) (n : ℕ) → power_part x (2 * n + 1) ≡ x *ᶠ rest (x *ᶠ x) 1 n
unfolding pow
sine_part x n =
    ap₂ (λ p k. p *ᶠ ratio (pos 1) k) (ap (pow x) (after n) ∙ ap (λ t. x *ᶠ t) (pow-double x n)) (ap factorial (before n) ∙ factorial-rise 1 n ∙ one_more (rise 1 n))
    ∙ identity (x ∷ pow (x *ᶠ x) n ∷ ratio (pos 1) (rise 1 n) ∷ []) (search quote depth 20) tt
    ∙ ap (λ t. x *ᶠ t) (sym (rest-is (x *ᶠ x) 1 n))
  where
    after : (n : ℕ) → 2 * n + 1 ≡ suc (2 * n)
    after n = omega arith

    before : (n : ℕ) → 2 * n + 1 ≡ 1 + 2 * n
    before n = omega arith

    one_more : (r : ℕ) → r * (1 * 1) ≡ r
    one_more r = omega arith

pub cosine_series-nest : (n : ℕ) (x : Fraction) → cosine_series n x ≡ nest (x *ᶠ x) 0 n
unfolding cosine_series
cosine_series-nest zero x = refl
cosine_series-nest (suc n) x = ap₂ (λ s t. s +ᶠ sign_of n *ᶠ t) (cosine_series-nest n x) (cosine_part x n) ∙ sym (nest-suc (x *ᶠ x) 0 n)

pub sine_series-nest : (n : ℕ) (x : Fraction) → sine_series n x ≡ x *ᶠ nest (x *ᶠ x) 1 n
unfolding sine_series
sine_series-nest zero x = sym (*ᶠ_zero x)
sine_series-nest (suc n) x =
    ap₂ (λ s t. s +ᶠ sign_of n *ᶠ t) (sine_series-nest n x) (sine_part x n)
    ∙ identity (x ∷ nest (x *ᶠ x) 1 n ∷ sign_of n ∷ rest (x *ᶠ x) 1 n ∷ []) (search quote depth 20) tt
    ∙ ap (λ t. x *ᶠ t) (sym (nest-suc (x *ᶠ x) 1 n))
