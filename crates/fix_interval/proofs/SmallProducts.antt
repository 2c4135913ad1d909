-- A product of numbers of the program that stays within 2^126, as it went to bits and is read again.
use Rattle.std.proofs.Common.{◌≡◌, ◌≤◌, ◌*◌, ◌^◌, ℕ, ℤ, ◌*ℤ◌, ◌≤ℤ◌, to_z, of_z, arith, FitsSigned, ap₂, ◌∙◌}
use mir.Val.{SFits}
use mir.Syntax.{w128}
use Rattle.std.proofs.lemmas.Int.{ints, to_z-of_z, fits_signed_mul}
use Rattle.std.specs.Int.RustNames.{unsigned_abs}
use Rattle.whole_numbers.proofs.Casts.{plain}

-- it fits
pub product_fits : (x y : ℤ) (m n : ℕ) → SFits w128 x → SFits w128 y → unsigned_abs x ≤ m → unsigned_abs y ≤ n → m * n ≤ 2 ^ 126 → FitsSigned w128 (to_z w128 (of_z w128 x) *ℤ to_z w128 (of_z w128 y))
product_fits x y m n f g p q h = rw (to_z-of_z w128 x f, to_z-of_z w128 y g) (fits_signed_mul w128 x y m n p q (omega arith))

-- it is read as it was, where it fits
pub product-plain : {x y : ℤ} → SFits w128 x → SFits w128 y → FitsSigned w128 (to_z w128 (of_z w128 x) *ℤ to_z w128 (of_z w128 y)) → to_z w128 (of_z w128 (to_z w128 (of_z w128 x) *ℤ to_z w128 (of_z w128 y))) ≡ x *ℤ y
product-plain {x} {y} f g h = plain h ∙ ap₂ ◌*ℤ◌ (plain f) (plain g)

-- and so by the bound
pub small_product : (x y : ℤ) (m n : ℕ) → SFits w128 x → SFits w128 y → unsigned_abs x ≤ m → unsigned_abs y ≤ n → m * n ≤ 2 ^ 126 → to_z w128 (of_z w128 (to_z w128 (of_z w128 x) *ℤ to_z w128 (of_z w128 y))) ≡ x *ℤ y
small_product x y m n f g p q h = product-plain f g (product_fits x y m n f g p q h)

-- from a least below a number to a greatest above it
pub spans : {a b b' p c c' d : ℤ} → a ≤ℤ b' → b' ≡ b → b ≤ℤ p → p ≤ℤ c → c' ≡ c → c' ≤ℤ d → a ≤ℤ d
spans h e i j f k = omega (arith, ints)

-- a square that stays within 2^126 fits
pub square_fits : (x : ℤ) (m : ℕ) → unsigned_abs x ≤ m → m * m ≤ 2 ^ 126 → SFits w128 (x *ℤ x)
square_fits x m p h = fits_signed_mul w128 x x m m p p (omega arith)
