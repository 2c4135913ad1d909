-- Quotients by a constant, and products of what is not negative by so many places fewer: what they hold, that they are isotone, and
-- how wide they are.
use Rattle.std.specs.Prelude.{◌≡◌, ℕ, ℤ, pos, ◌+◌, ◌*◌, ◌^◌, ◌≤◌, ◌+ℤ◌, ◌-ℤ◌, ◌*ℤ◌, ◌≤ℤ◌, ◌≢◌, [], ◌∷◌}
use Rattle.std.proofs.Common.{arith, ap, sym, ◌∙◌}
use Rattle.std.proofs.lemmas.Int.{ints}
use Rattle.std.proofs.lemmas.Nat.{pow_pos, pow-add}
use Rattle.whole_numbers.proofs.Divisions.{floor_of_mono, ceil_of_mono}
use Rattle.whole_numbers.proofs.Integers.{≤ℤ_trans}
use Rattle.whole_numbers.proofs.Products.{*ℤ_mono_left, *ℤ_mono_right}
use Rattle.fractions.specs.Fraction.{Fraction, zeroᶠ, oneᶠ, ◌*ᶠ◌}
use Rattle.fractions.specs.Inverse.{inverse, ◌/ᶠ◌}
use Rattle.fractions.proofs.Floors.{ratio-floor_of, ratio-ceil_of}
use Rattle.fractions.proofs.Laws.{≤ᶠ_trans, *ᶠ_mono, *ᶠ_one}
use Rattle.fractions.proofs.Quote.{quote, identity}
use Rattle.fractions.proofs.Ratios.{not_negative_constant}
use Rattle.fractions.proofs.StrictOrder.{*ᶠ-inverse_cancel}
use Rattle.fix_interval.specs.Ends.{Ends, IsInside, IsNarrow}
use Rattle.fix_interval.specs.Lies.{Lies}
use Rattle.fix_interval.proofs.EndProducts.{rounded_ordered, corner}
use Rattle.fix_interval.proofs.EndWidths.{products_apart, rounded_width}
use Rattle.fix_interval.specs.Ranges.{around}
use Rattle.orbit_laws.specs.Elements.{product_of}

-- ---- division by a constant
-- a quotient by c is the product with r, where r c = 1
pub over-is : (x c r : Fraction) → c ≢ zeroᶠ → r *ᶠ c ≡ oneᶠ → x /ᶠ c ≡ r *ᶠ x
over-is x c r apart e =
    let once : (r *ᶠ x) *ᶠ c ≡ x = regroup r x c ∙ ap (λ t. x *ᶠ t) e ∙ *ᶠ_one x in
    ap (λ t. t /ᶠ c) (sym once) ∙ *ᶠ-inverse_cancel (r *ᶠ x) c apart
  where
    regroup : (r x c : Fraction) → (r *ᶠ x) *ᶠ c ≡ x *ᶠ (r *ᶠ c)
    regroup r x c = identity (r ∷ x ∷ c ∷ []) (search quote depth 20) tt

-- a quotient times its divisor
pub over-times : (x c : Fraction) → c ≢ zeroᶠ → (x /ᶠ c) *ᶠ c ≡ x
over-times x c apart = swap x (inverse c) c ∙ *ᶠ-inverse_cancel x c apart
  where
    swap : (x i c : Fraction) → (x *ᶠ i) *ᶠ c ≡ (x *ᶠ c) *ᶠ i
    swap x i c = identity (x ∷ i ∷ c ∷ []) (search quote depth 20) tt

-- ---- products of what is not negative
-- the product of two choices lies in the product, where the places add up
pub product_encloses : (a b : Ends) (k s t u : ℕ) → s + t ≡ k + u → pos 0 ≤ℤ a.lo → pos 0 ≤ℤ b.lo → (x y : Fraction) → Lies a s x → Lies b t y → Lies (product_of k a b) u (x *ᶠ y)
unfolding product_of
product_encloses a b k s t u e na nb x y p q =
    let nx = not_negative_constant a.lo (2 ^ s) na in
    let ny = not_negative_constant b.lo (2 ^ t) nb in
    record {
      low = ≤ᶠ_trans (ratio-floor_of (a.lo *ℤ b.lo) (2 ^ k) (2 ^ u) (pow_pos k) (pow_pos u)) (rw (sym (places k u s t e), sym (corner a.lo b.lo s t)) (*ᶠ_mono (≤ᶠ_trans nx p.low) ny p.low q.low));
      high = ≤ᶠ_trans (*ᶠ_mono (≤ᶠ_trans nx (≤ᶠ_trans p.low p.high)) (≤ᶠ_trans ny q.low) p.high q.high) (rw (corner a.hi b.hi s t, places k u s t e) (ratio-ceil_of (a.hi *ℤ b.hi) (2 ^ k) (2 ^ u) (pow_pos k) (pow_pos u)));
    }
  where
    places : (k u s t : ℕ) → s + t ≡ k + u → 2 ^ (s + t) ≡ 2 ^ k * 2 ^ u
    places k u s t e = ap (λ n. 2 ^ n) e ∙ pow-add 2 k u

-- wider ends have a wider product
pub product_isotone : {a b c d : Ends} (k : ℕ) → pos 0 ≤ℤ c.lo → pos 0 ≤ℤ d.lo → IsInside a c → IsInside b d → IsInside (product_of k a b) (product_of k c d)
unfolding product_of
product_isotone {a} {b} {c} {d} k nc nd p q =
    let na = ≤ℤ_trans (pos 0) c.lo a.lo nc p.low in
    let nb = ≤ℤ_trans (pos 0) d.lo b.lo nd q.low in
    record {
      low = floor_of_mono (c.lo *ℤ d.lo) (a.lo *ℤ b.lo) (2 ^ k) (pow_pos k) (grows na nd p.low q.low);
      ordered = rounded_ordered (a.lo *ℤ b.lo) (a.hi *ℤ b.hi) (2 ^ k) (pow_pos k) (grows (≤ℤ_trans (pos 0) a.lo a.hi na p.ordered) nb p.ordered q.ordered);
      high = ceil_of_mono (a.hi *ℤ b.hi) (c.hi *ℤ d.hi) (2 ^ k) (pow_pos k) (grows (≤ℤ_trans (pos 0) a.hi c.hi (≤ℤ_trans (pos 0) a.lo a.hi na p.ordered) p.high) (≤ℤ_trans (pos 0) b.lo b.hi nb q.ordered) p.high q.high);
    }
  where
    grows : {x y u v : ℤ} → pos 0 ≤ℤ y → pos 0 ≤ℤ u → x ≤ℤ y → u ≤ℤ v → (x *ℤ u) ≤ℤ (y *ℤ v)
    grows {x} {y} {u} {v} ny nu h k = ≤ℤ_trans (x *ℤ u) (y *ℤ u) (y *ℤ v) (*ℤ_mono_left x y u nu h) (*ℤ_mono_right u v y ny k)

-- as wide as its ends and their magnitudes say
pub product_width : {a b : Ends} (k A B v w n : ℕ) → IsInside a (around A) → IsInside b (around B) → IsNarrow a v → IsNarrow b w → A * w + B * v ≤ n * 2 ^ k → IsNarrow (product_of k a b) (n + 1)
unfolding product_of
product_width {a} {b} k A B v w n i j p q h =
    let il = i.low in
    let io = i.ordered in
    let ih = i.high in
    let jl = j.low in
    let jo = j.ordered in
    let jh = j.high in
    let pw = p.width in
    let qw = q.width in
    let apart = products_apart (pos A) (pos B) (pos v) (pos w) a.hi b.hi a.lo b.lo (omega (arith, ints)) (omega (arith, ints)) (omega (arith, ints)) (omega (arith, ints)) (omega (arith, ints)) (omega (arith, ints)) (omega (arith, ints)) (omega (arith, ints)) in
    let most : (pos A *ℤ pos w +ℤ pos B *ℤ pos v) ≤ℤ (pos n *ℤ pos (2 ^ k)) = omega (arith, ints) in
    record { width = rounded_width (a.lo *ℤ b.lo) (a.hi *ℤ b.hi) (2 ^ k) n (pow_pos k) (≤ℤ_trans (a.hi *ℤ b.hi -ℤ a.lo *ℤ b.lo) (pos A *ℤ pos w +ℤ pos B *ℤ pos v) (pos n *ℤ pos (2 ^ k)) apart most) }
