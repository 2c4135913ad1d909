-- Vectors and directions that are equal in each part.
use Rattle.std.specs.Prelude.{◌≡◌, List, [], ◌∷◌, length, refl}
use Rattle.std.proofs.Common.{arith, get_or}
use Rattle.fix_interval.specs.declared.Iv.{Iv}
use Rattle.fix_interval.specs.Ends.{Ends}
use Rattle.fix_interval.specs.Intervals.{ends}
use Rattle.fix_interval.specs.Vectors.{VectorEnds, vector_ends}
use Rattle.site_laws.specs.Sights.{DirectionEnds}

pub same_vector : {a b c x y z : Ends} → a ≡ x → b ≡ y → c ≡ z → (let p : VectorEnds = record { x = a; y = b; z = c } in let q : VectorEnds = record { x = x; y = y; z = z } in p ≡ q)
same_vector p q r = λ i. record { x = p i; y = q i; z = r i }

pub same_direction : {a b c x y z : Ends} → a ≡ x → b ≡ y → c ≡ z → (let p : DirectionEnds = record { east = a; north = b; up = c } in let q : DirectionEnds = record { east = x; north = y; up = z } in p ≡ q)
same_direction p q r = λ i. record { east = p i; north = q i; up = r i }

-- the three members of an array
pub three : (vs : List Iv) (d e f : Iv) → length vs ≡ 3 → (let p : VectorEnds = record { x = ends (get_or vs 0 d); y = ends (get_or vs 1 e); z = ends (get_or vs 2 f) } in p ≡ vector_ends vs)
three [] d e f h = absurd (omega arith)
three (a ∷ []) d e f h = absurd (omega arith)
three (a ∷ b ∷ []) d e f h = absurd (omega arith)
three (a ∷ b ∷ c ∷ []) d e f h = refl
three (a ∷ b ∷ c ∷ x ∷ xs) d e f h = absurd (omega arith)
