-- Products and the order: products by one factor, and the products over a box, which lie between its corners.
use Rattle.std.proofs.Common.{⊎_elim, [], ◌∷◌, ℤ, pos, ◌+ℤ◌, ◌-ℤ◌, ◌*ℤ◌, ◌≤ℤ◌}
use Rattle.std.proofs.Common.{arith}
use Rattle.std.proofs.lemmas.Int.{ints}
use Rattle.whole_numbers.specs.Algebra.{IsCompatibleOrder}
use Rattle.whole_numbers.specs.Corners.{least_corner, greatest_corner}
use Rattle.whole_numbers.proofs.FourNumbers.{least_least, greatest_greatest}
use Rattle.whole_numbers.proofs.Integers.{≤ℤ_trans, ≤ℤ_total}
use Rattle.whole_numbers.proofs.Quote.{quote}
use Rattle.whole_numbers.proofs.Certificates.{at_most, not_negative}

-- a product by what is not negative grows with the left factor
pub *ℤ_mono_left : (a b k : ℤ) → pos 0 ≤ℤ k → a ≤ℤ b → (a *ℤ k) ≤ℤ (b *ℤ k)
*ℤ_mono_left a b k h p = at_most (a ∷ b ∷ k ∷ []) ((b -ℤ a) *ℤ k) (search not_negative) (search quote depth 20) tt

-- and with the right one
pub *ℤ_mono_right : (a b k : ℤ) → pos 0 ≤ℤ k → a ≤ℤ b → (k *ℤ a) ≤ℤ (k *ℤ b)
*ℤ_mono_right a b k h p = at_most (a ∷ b ∷ k ∷ []) ((b -ℤ a) *ℤ k) (search not_negative) (search quote depth 20) tt

-- a product by what is not positive falls as the left factor grows
pub *ℤ_anti_left : (a b k : ℤ) → k ≤ℤ pos 0 → a ≤ℤ b → (b *ℤ k) ≤ℤ (a *ℤ k)
*ℤ_anti_left a b k h p = at_most (a ∷ b ∷ k ∷ []) ((b -ℤ a) *ℤ (pos 0 -ℤ k)) (search not_negative) (search quote depth 20) tt

-- and as the right one does
pub *ℤ_anti_right : (a b k : ℤ) → k ≤ℤ pos 0 → a ≤ℤ b → (k *ℤ b) ≤ℤ (k *ℤ a)
*ℤ_anti_right a b k h p = at_most (a ∷ b ∷ k ∷ []) ((b -ℤ a) *ℤ (pos 0 -ℤ k)) (search not_negative) (search quote depth 20) tt

-- the order is that of an ordered ring
pub order_is_compatible : IsCompatibleOrder (pos 0) ◌+ℤ◌ ◌*ℤ◌ ◌≤ℤ◌
order_is_compatible = record { add_mono = shift; mul_mono = λ x y z n h. *ℤ_mono_left x y z n h }
  where
    shift : (x y z : ℤ) → x ≤ℤ y → (x +ℤ z) ≤ℤ (y +ℤ z)
    shift x y z h = omega (arith, ints)

-- a product over a box is at most what bounds the four corners from above
pub corners_below : (a b c d x y m : ℤ) → a ≤ℤ x → x ≤ℤ b → c ≤ℤ y → y ≤ℤ d
    → (a *ℤ c) ≤ℤ m → (a *ℤ d) ≤ℤ m → (b *ℤ c) ≤ℤ m → (b *ℤ d) ≤ℤ m → (x *ℤ y) ≤ℤ m
corners_below a b c d x y m ax xb cy yd ac ad bc bd = ⊎_elim up_side down_side (≤ℤ_total (pos 0) y)
  where
    up_side : pos 0 ≤ℤ y → (x *ℤ y) ≤ℤ m
    up_side p = ≤ℤ_trans _ (b *ℤ y) _ (*ℤ_mono_left x b y p xb)
        (⊎_elim (λ q. ≤ℤ_trans _ (b *ℤ d) _ (*ℤ_mono_right y d b q yd) bd) (λ q. ≤ℤ_trans _ (b *ℤ c) _ (*ℤ_anti_right c y b q cy) bc) (≤ℤ_total (pos 0) b))

    down_side : y ≤ℤ pos 0 → (x *ℤ y) ≤ℤ m
    down_side p = ≤ℤ_trans _ (a *ℤ y) _ (*ℤ_anti_left a x y p ax)
        (⊎_elim (λ q. ≤ℤ_trans _ (a *ℤ d) _ (*ℤ_mono_right y d a q yd) ad) (λ q. ≤ℤ_trans _ (a *ℤ c) _ (*ℤ_anti_right c y a q cy) ac) (≤ℤ_total (pos 0) a))

-- and at least what bounds them from below
pub corners_above : (a b c d x y m : ℤ) → a ≤ℤ x → x ≤ℤ b → c ≤ℤ y → y ≤ℤ d
    → m ≤ℤ (a *ℤ c) → m ≤ℤ (a *ℤ d) → m ≤ℤ (b *ℤ c) → m ≤ℤ (b *ℤ d) → m ≤ℤ (x *ℤ y)
corners_above a b c d x y m ax xb cy yd ac ad bc bd = ⊎_elim up_side down_side (≤ℤ_total (pos 0) y)
  where
    up_side : pos 0 ≤ℤ y → m ≤ℤ (x *ℤ y)
    up_side p = ≤ℤ_trans _ (a *ℤ y) _
        (⊎_elim (λ q. ≤ℤ_trans _ (a *ℤ c) _ ac (*ℤ_mono_right c y a q cy)) (λ q. ≤ℤ_trans _ (a *ℤ d) _ ad (*ℤ_anti_right y d a q yd)) (≤ℤ_total (pos 0) a))
        (*ℤ_mono_left a x y p ax)

    down_side : y ≤ℤ pos 0 → m ≤ℤ (x *ℤ y)
    down_side p = ≤ℤ_trans _ (b *ℤ y) _
        (⊎_elim (λ q. ≤ℤ_trans _ (b *ℤ c) _ bc (*ℤ_mono_right c y b q cy)) (λ q. ≤ℤ_trans _ (b *ℤ d) _ bd (*ℤ_anti_right y d b q yd)) (≤ℤ_total (pos 0) b))
        (*ℤ_anti_left x b y p xb)

-- a product over a box is at least the least corner
pub least_corner-least : (a b c d x y : ℤ) → a ≤ℤ x → x ≤ℤ b → c ≤ℤ y → y ≤ℤ d → least_corner a b c d ≤ℤ (x *ℤ y)
least_corner-least a b c d x y ax xb cy yd =
    let m = least_least (a *ℤ c) (a *ℤ d) (b *ℤ c) (b *ℤ d) in
    corners_above a b c d x y (least_corner a b c d) ax xb cy yd m.0 m.1 m.2 m.3

-- and at most the greatest
pub greatest_corner-greatest : (a b c d x y : ℤ) → a ≤ℤ x → x ≤ℤ b → c ≤ℤ y → y ≤ℤ d → (x *ℤ y) ≤ℤ greatest_corner a b c d
greatest_corner-greatest a b c d x y ax xb cy yd =
    let m = greatest_greatest (a *ℤ c) (a *ℤ d) (b *ℤ c) (b *ℤ d) in
    corners_below a b c d x y (greatest_corner a b c d) ax xb cy yd m.0 m.1 m.2 m.3
