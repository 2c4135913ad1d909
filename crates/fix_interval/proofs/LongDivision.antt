-- A quotient to more places is the quotient to fewer, and that of its remainder.
use mir.Val.{SFits}
use mir.Syntax.{w128}
use Rattle.std.specs.Prelude.{◌≡◌, ℕ, ℤ, pos, neg_ℤ, ◌*◌, ◌^◌, ◌<◌, ◌≤◌, unsigned_abs, ◌+ℤ◌, ◌-ℤ◌, ◌*ℤ◌, ◌≤ℤ◌, ◌<ℤ◌, [], ◌∷◌}
use Rattle.std.proofs.Common.{arith, ap, sym, ◌∙◌, subst}
use Rattle.std.proofs.lemmas.Int.{ints}
use lib.Dec.{lit≤}
use Rattle.whole_numbers.specs.Rounding.{floor_of, ceil_of}
use Rattle.whole_numbers.proofs.Quote.{quote, identity}
use Rattle.whole_numbers.proofs.Integers.{≤ℤ_trans, not_negative_natural, not_negative_product, neg_ℤ-*ℤ}
use Rattle.whole_numbers.proofs.Products.{*ℤ_mono_left}
use Rattle.whole_numbers.proofs.Divisions.{floor_of_low, floor_of_high, floor_of-add, ceil_of_high, ceil_of_low, ceil_of-unique, at_most-floor_of, ceil_of-at_most, floor_of-at_most-ceil_of}
use Rattle.fractions.specs.Fraction.{ratio, whole, abs, ◌≤ᶠ◌}
use Rattle.fractions.proofs.Laws.{≤ᶠ_trans}
use Rattle.fractions.proofs.Ratios.{neg-ratio, ratio_at_most_out}
use Rattle.fractions.proofs.AbsoluteValues.{abs_at_least, abs_at_least_neg}

-- what is left of z after whole multiples of k
abbrev pub rest_of : ℤ → ℕ → ℤ
rest_of z k = z -ℤ floor_of z k *ℤ pos k

-- it is not negative, and below k
pub rest_bounds : (z : ℤ) (k : ℕ) → 0 < k → (pos 0 ≤ℤ rest_of z k) × (rest_of z k <ℤ pos k)
rest_bounds z k h = (let l = floor_of_low z k h in omega (arith, ints), let u = floor_of_high z k h in omega (arith, ints))

-- a multiple that is added passes through the ceiling
ceil_of-add : (z q : ℤ) (d : ℕ) → 0 < d → ceil_of (z +ℤ q *ℤ pos d) d ≡ ceil_of z d +ℤ q
ceil_of-add z q d h =
    let c = ceil_of z d in
    let high = ceil_of_high z d h in
    let low = ceil_of_low z d h in
    let e = sum_times c q d in
    sym (ceil_of-unique (z +ℤ q *ℤ pos d) (c +ℤ q) d h (omega (arith, ints)) (omega (arith, ints)))
  where
    sum_times : (f q : ℤ) (d : ℕ) → (f +ℤ q) *ℤ pos d ≡ f *ℤ pos d +ℤ q *ℤ pos d
    sum_times f q d = identity (f ∷ q ∷ pos d ∷ []) (search quote depth 12) tt

-- z in finer units is its whole multiples and the rest
finer : (z f : ℤ) (k m : ℕ) → (z -ℤ f *ℤ pos k) *ℤ pos m +ℤ (f *ℤ pos m) *ℤ pos k ≡ z *ℤ pos m
finer z f k m = identity (z ∷ f ∷ pos k ∷ pos m ∷ []) (search quote depth 20) tt

-- the floor in finer units
pub finer_floor : (z : ℤ) (k m : ℕ) → 0 < k → floor_of (z *ℤ pos m) k ≡ floor_of (rest_of z k *ℤ pos m) k +ℤ floor_of z k *ℤ pos m
finer_floor z k m h = sym (ap (λ (t : ℤ). floor_of t k) (finer z (floor_of z k) k m)) ∙ floor_of-add (rest_of z k *ℤ pos m) (floor_of z k *ℤ pos m) k h

-- the ceiling in finer units
pub finer_ceil : (z : ℤ) (k m : ℕ) → 0 < k → ceil_of (z *ℤ pos m) k ≡ ceil_of (rest_of z k *ℤ pos m) k +ℤ floor_of z k *ℤ pos m
finer_ceil z k m h = sym (ap (λ (t : ℤ). ceil_of t k) (finer z (floor_of z k) k m)) ∙ ceil_of-add (rest_of z k *ℤ pos m) (floor_of z k *ℤ pos m) k h

-- the rest in finer units gives at most m of them
pub finer_bounds : (r : ℤ) (k m : ℕ) → 0 < k → pos 0 ≤ℤ r → r <ℤ pos k → (pos 0 ≤ℤ floor_of (r *ℤ pos m) k) × (ceil_of (r *ℤ pos m) k ≤ℤ pos m)
finer_bounds r k m h n l =
    let product = not_negative_product r (pos m) n (not_negative_natural m) in
    let grown = *ℤ_mono_left r (pos k) (pos m) (not_negative_natural m) (omega (arith, ints)) in
    ((at_most-floor_of (pos 0) (r *ℤ pos m) k h).1 (omega (arith, ints)), (ceil_of-at_most (r *ℤ pos m) (pos m) k h).1 (omega (arith, ints)))

-- a quotient of what is at most b times k either way is at most b either way
pub floor_within : (z : ℤ) (b k : ℕ) → 0 < k → neg_ℤ (pos b *ℤ pos k) ≤ℤ z → z ≤ℤ (pos b *ℤ pos k) → (neg_ℤ (pos b) ≤ℤ floor_of z k) × (ceil_of z k ≤ℤ pos b)
floor_within z b k h l u = (
  (at_most-floor_of (neg_ℤ (pos b)) z k h).1 (subst (λ t. t ≤ℤ z) (sym (neg_ℤ-*ℤ (pos b) (pos k))) l),
  (ceil_of-at_most z (pos b) k h).1 u,
)

-- a ratio of magnitude at most n has a numerator of at most n times its denominator
pub numerator_within : (m : ℤ) (k n : ℕ) → 0 < k → abs (ratio m k) ≤ᶠ whole (pos n) → (neg_ℤ (pos n *ℤ pos k) ≤ℤ m) × (m ≤ℤ (pos n *ℤ pos k))
numerator_within m k n h p =
    let high = ratio_at_most_out m (pos n) k 1 h (lit≤ tt) (≤ᶠ_trans (abs_at_least (ratio m k)) p) in
    let low = ratio_at_most_out (neg_ℤ m) (pos n) k 1 h (lit≤ tt) (subst (λ t. t ≤ᶠ whole (pos n)) (neg-ratio m k) (≤ᶠ_trans (abs_at_least_neg (ratio m k)) p)) in
    (omega (arith, ints), omega (arith, ints))

-- and in finer units of at most as many times more
pub numerator_finer : (m : ℤ) (k n t : ℕ) → neg_ℤ (pos n *ℤ pos k) ≤ℤ m → m ≤ℤ (pos n *ℤ pos k) → (neg_ℤ ((pos n *ℤ pos t) *ℤ pos k) ≤ℤ (m *ℤ pos t)) × ((m *ℤ pos t) ≤ℤ ((pos n *ℤ pos t) *ℤ pos k))
numerator_finer m k n t l h =
    let up = *ℤ_mono_left m (pos n *ℤ pos k) (pos t) (not_negative_natural t) h in
    let down = *ℤ_mono_left (neg_ℤ (pos n *ℤ pos k)) m (pos t) (not_negative_natural t) l in
    let e = turned (pos n) (pos k) (pos t) in
    let f = neg_ℤ-*ℤ (pos n *ℤ pos k) (pos t) in
    (omega (arith, ints), omega (arith, ints))
  where
    turned : (a b c : ℤ) → (a *ℤ b) *ℤ c ≡ (a *ℤ c) *ℤ b
    turned a b c = identity (a ∷ b ∷ c ∷ []) (search quote depth 12) tt

-- each step of a division to twelve more places stays within 128 bits
pub record StepsFit (z : ℤ) (k : ℕ) : Type 0 where
  pub multiple : SFits w128 (floor_of z k *ℤ pos k)
  pub rest : SFits w128 (rest_of z k)
  pub scaled : SFits w128 (rest_of z k *ℤ pos 4096)
  pub shifted : SFits w128 (floor_of z k *ℤ pos 4096)
  pub low : SFits w128 (floor_of (rest_of z k *ℤ pos 4096) k +ℤ floor_of z k *ℤ pos 4096)
  pub high : SFits w128 (ceil_of (rest_of z k *ℤ pos 4096) k +ℤ floor_of z k *ℤ pos 4096)

-- where the quotient has at most 68 bits
pub steps_fit : (z : ℤ) (k : ℕ) → 0 < k → k ≤ 10 ^ 30 → unsigned_abs z ≤ 2 ^ 124 → neg_ℤ (pos (10 * 2 ^ 64) *ℤ pos k) ≤ℤ z → z ≤ℤ (pos (10 * 2 ^ 64) *ℤ pos k) → StepsFit z k
steps_fit z k h ks zs l u =
    let within = floor_within z (10 * 2 ^ 64) k h l u in
    let order = floor_of-at_most-ceil_of z k h in
    let left = rest_bounds z k h in
    let parts = finer_bounds (rest_of z k) k 4096 h left.0 left.1 in
    let ordered = floor_of-at_most-ceil_of (rest_of z k *ℤ pos 4096) k h in
    record {
      multiple = multiple_fits z (floor_of z k *ℤ pos k) k ks zs (floor_of_low z k h) (floor_of_high z k h);
      rest = rest_fits (rest_of z k) k ks left.0 left.1;
      scaled = scaled_fits (rest_of z k) k ks left.0 left.1;
      shifted = shifted_fits (floor_of z k) (ceil_of z k) within.0 order within.1;
      low = sum_fits (floor_of z k) (ceil_of z k) (floor_of (rest_of z k *ℤ pos 4096) k) within.0 order within.1 parts.0 (≤ℤ_trans _ (ceil_of (rest_of z k *ℤ pos 4096) k) _ ordered parts.1);
      high = sum_fits (floor_of z k) (ceil_of z k) (ceil_of (rest_of z k *ℤ pos 4096) k) within.0 order within.1 (≤ℤ_trans _ (floor_of (rest_of z k *ℤ pos 4096) k) _ parts.0 ordered) parts.1;
    }
  where
    multiple_fits : (z p : ℤ) (k : ℕ) → k ≤ 10 ^ 30 → unsigned_abs z ≤ 2 ^ 124 → p ≤ℤ z → z <ℤ (p +ℤ pos k) → SFits w128 p
    multiple_fits z p k ks zs low high = omega (arith, ints)

    rest_fits : (r : ℤ) (k : ℕ) → k ≤ 10 ^ 30 → pos 0 ≤ℤ r → r <ℤ pos k → SFits w128 r
    rest_fits r k ks low high = omega (arith, ints)

    scaled_fits : (r : ℤ) (k : ℕ) → k ≤ 10 ^ 30 → pos 0 ≤ℤ r → r <ℤ pos k → SFits w128 (r *ℤ pos 4096)
    scaled_fits r k ks low high = omega (arith, ints)

    shifted_fits : (f c : ℤ) → neg_ℤ (pos (10 * 2 ^ 64)) ≤ℤ f → f ≤ℤ c → c ≤ℤ pos (10 * 2 ^ 64) → SFits w128 (f *ℤ pos 4096)
    shifted_fits f c low order high = omega (arith, ints)

    sum_fits : (f c g : ℤ) → neg_ℤ (pos (10 * 2 ^ 64)) ≤ℤ f → f ≤ℤ c → c ≤ℤ pos (10 * 2 ^ 64) → pos 0 ≤ℤ g → g ≤ℤ pos 4096 → SFits w128 (g +ℤ f *ℤ pos 4096)
    sum_fits f c g low order high some few = omega (arith, ints)
