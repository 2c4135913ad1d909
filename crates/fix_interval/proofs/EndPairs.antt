-- Pairs of ends: their hulls hold what either holds, and are isotone, also over a range of whole numbers.
use Rattle.std.specs.Prelude.{◌≡◌, ℕ, zero, suc, ℤ, pos, refl, ◌+ℤ◌, ◌-ℤ◌, ◌≤ℤ◌, Bool, true, false, unsigned_abs, ◌⊎◌}
use Rattle.std.proofs.Common.{arith, ap, ◌∙◌, subst, inl, inr}
use Rattle.std.proofs.lemmas.Int.{ints, clamps}
use lib.Signed.{le_z}
use Rattle.fractions.specs.Fraction.{Fraction}
use Rattle.fix_interval.specs.Bounds.{hull_of}
use Rattle.fix_interval.specs.Ends.{Ends, IsInside}
use Rattle.fix_interval.specs.Pairs.{PairEnds, PairLies, PairInside, full_pair, pair_hull, hull_from}
use Rattle.fix_interval.proofs.EndBounds.{hull_encloses}
use Rattle.fix_interval.proofs.EndInsides.{inside_trans}

-- pairs are equal where both parts are
pub same_pair : {p q : PairEnds} → p.sine ≡ q.sine → p.cosine ≡ q.cosine → p ≡ q
same_pair e f = λ i. record { sine = e i; cosine = f i }

-- what is inside what is inside is inside
pub pair_trans : {p q r : PairEnds} → PairInside p q → PairInside q r → PairInside p r
pair_trans h k = record { sine = inside_trans h.sine k.sine; cosine = inside_trans h.cosine k.cosine }

-- the full pair is inside itself
pub full_self : PairInside full_pair full_pair
full_self = record { sine = record { low = record { le = tt }; ordered = record { le = tt }; high = record { le = tt } }; cosine = record { low = record { le = tt }; ordered = record { le = tt }; high = record { le = tt } } }

-- ---- the hull of two
-- it holds what either holds
pub hull_lies : (p q : PairEnds) (s c : Fraction) → PairLies p s c ⊎ PairLies q s c → PairLies (pair_hull p q) s c
unfolding pair_hull
hull_lies p q s c (inl h) = record { sine = hull_encloses refl 38 s (inl h.sine); cosine = hull_encloses refl 38 c (inl h.cosine) }
hull_lies p q s c (inr h) = record { sine = hull_encloses refl 38 s (inr h.sine); cosine = hull_encloses refl 38 c (inr h.cosine) }

-- what is inside the first is inside the hull
pub hull_left : (p q r : PairEnds) → PairInside p q → PairInside p (pair_hull q r)
unfolding pair_hull hull_of
hull_left p q r h = record { sine = left p.sine q.sine r.sine h.sine; cosine = left p.cosine q.cosine r.cosine h.cosine }
  where
    left : (a b c : Ends) → IsInside a b → IsInside a (hull_of b c)
    left a b c h = record { low = omega (arith, ints, clamps); ordered = h.ordered; high = omega (arith, ints, clamps) }

-- and what is inside the second
pub hull_right : (p q r : PairEnds) → PairInside p r → PairInside p (pair_hull q r)
unfolding pair_hull hull_of
hull_right p q r h = record { sine = right p.sine q.sine r.sine h.sine; cosine = right p.cosine q.cosine r.cosine h.cosine }
  where
    right : (a b c : Ends) → IsInside a c → IsInside a (hull_of b c)
    right a b c h = record { low = omega (arith, ints, clamps); ordered = h.ordered; high = omega (arith, ints, clamps) }

-- the hull is inside what both are inside of
pub hull_least : (p q r : PairEnds) → PairInside p r → PairInside q r → PairInside (pair_hull p q) r
unfolding pair_hull hull_of
hull_least p q r h k = record { sine = both p.sine q.sine r.sine h.sine k.sine; cosine = both p.cosine q.cosine r.cosine h.cosine k.cosine }
  where
    both : (a b c : Ends) → IsInside a c → IsInside b c → IsInside (hull_of a b) c
    both a b c h k = record { low = omega (arith, ints, clamps); ordered = omega (arith, ints, clamps); high = omega (arith, ints, clamps) }

-- ---- the hull of a function over n + 1 whole numbers
-- it holds what one of them holds
pub hulls_lie : (f : ℤ → PairEnds) (v w : ℤ) (n : ℕ) (s c : Fraction) → v ≤ℤ w → w ≤ℤ (v +ℤ pos n) → PairLies (f w) s c → PairLies (hull_from f v n) s c
unfolding hull_from
hulls_lie f v w zero s c h k l = let e : w ≡ v = omega (arith, ints) in subst (λ t. PairLies (f t) s c) e l
hulls_lie f v w (suc n) s c h k l = by_last (λ g. hulls_lie f v w n s c h g l) (le_z w (v +ℤ pos n)) refl
  where
    by_last : (w ≤ℤ (v +ℤ pos n) → PairLies (hull_from f v n) s c) → (t : Bool) → le_z w (v +ℤ pos n) ≡ t → PairLies (pair_hull (hull_from f v n) (f (v +ℤ pos (suc n)))) s c
    by_last g true e = hull_lies _ _ s c (inl (g (omega (arith, ints))))
    by_last g false e = let d : w ≡ v +ℤ pos (suc n) = omega (arith, ints) in hull_lies _ _ s c (inr (subst (λ t. PairLies (f t) s c) d l))

-- what is inside one of them is inside the hull
pub hulls_above : (f : ℤ → PairEnds) (p : PairEnds) (v w : ℤ) (n : ℕ) → v ≤ℤ w → w ≤ℤ (v +ℤ pos n) → PairInside p (f w) → PairInside p (hull_from f v n)
unfolding hull_from
hulls_above f p v w zero h k l = let e : w ≡ v = omega (arith, ints) in subst (λ t. PairInside p (f t)) e l
hulls_above f p v w (suc n) h k l = by_last (λ g. hulls_above f p v w n h g l) (le_z w (v +ℤ pos n)) refl
  where
    by_last : (w ≤ℤ (v +ℤ pos n) → PairInside p (hull_from f v n)) → (t : Bool) → le_z w (v +ℤ pos n) ≡ t → PairInside p (pair_hull (hull_from f v n) (f (v +ℤ pos (suc n))))
    by_last g true e = hull_left p _ _ (g (omega (arith, ints)))
    by_last g false e = let d : w ≡ v +ℤ pos (suc n) = omega (arith, ints) in hull_right p _ _ (subst (λ t. PairInside p (f t)) d l)

-- the hull is inside what each is inside of
pub hulls_least : (f : ℤ → PairEnds) (p : PairEnds) (v : ℤ) (n : ℕ) → ((w : ℤ) → v ≤ℤ w → w ≤ℤ (v +ℤ pos n) → PairInside (f w) p) → PairInside (hull_from f v n) p
unfolding hull_from
hulls_least f p v zero h = h v (omega (arith, ints)) (omega (arith, ints))
hulls_least f p v (suc n) h = hull_least _ _ p (hulls_least f p v n (λ w i j. h w i (omega (arith, ints)))) (h (v +ℤ pos (suc n)) (omega (arith, ints)) (omega (arith, ints)))

-- the last of the numbers
pub last_of_range : (f l : ℤ) → f ≤ℤ l → f +ℤ pos (unsigned_abs (l -ℤ f)) ≡ l
last_of_range f l h = omega (arith, ints)

-- ---- from f on, one number after another
-- the hull over one number
pub one_number : (g : ℤ → PairEnds) (f : ℤ) → g f ≡ hull_from g f (unsigned_abs (f -ℤ f))
unfolding hull_from
one_number g f = let z : f -ℤ f ≡ pos 0 = omega (arith, ints) in rw z refl

-- the hull over one number more
pub next_number : (g : ℤ → PairEnds) (f k : ℤ) → f ≤ℤ k → pair_hull (hull_from g f (unsigned_abs (k -ℤ f))) (g (k +ℤ pos 1)) ≡ hull_from g f (unsigned_abs ((k +ℤ pos 1) -ℤ f))
unfolding hull_from
next_number g f k h =
    let n : ℕ = unsigned_abs (k -ℤ f) in
    let e : suc n ≡ unsigned_abs ((k +ℤ pos 1) -ℤ f) = omega (arith, ints) in
    let l : k +ℤ pos 1 ≡ f +ℤ pos (suc n) = omega (arith, ints) in
    ap (λ z. pair_hull (hull_from g f n) (g z)) l ∙ ap (λ m. hull_from g f m) e
