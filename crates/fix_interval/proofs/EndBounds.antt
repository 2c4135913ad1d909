-- Hulls, parts within a bound, and comparisons: what they hold, and that they are isotone.
use Rattle.std.specs.Prelude.{◌≡◌, ℕ, ℤ, pos, ◌^◌, ◌<◌, ◌-ℤ◌, ◌*ℤ◌, neg_ℤ, ◌≤ℤ◌, ◌<ℤ◌, ◌⊎◌, Bool, true, false, cond, [], ◌∷◌}
use Rattle.std.proofs.Common.{arith, inl, inr}
use Rattle.std.proofs.lemmas.Int.{ints, clamps}
use Rattle.std.proofs.lemmas.Nat.{pow_pos}
use Rattle.std.specs.Int.{int_min, int_max}
use lib.Signed.{lt_z}
use Rattle.fractions.specs.Fraction.{Fraction, ratio, ◌≤ᶠ◌, ◌<ᶠ◌}
use Rattle.fractions.proofs.Laws.{≤ᶠ_trans}
use Rattle.fractions.proofs.Ratios.{ratio_mono}
use Rattle.fractions.proofs.StrictOrder.{ratio_below, ≤ᶠ_<ᶠ_trans, <ᶠ_≤ᶠ_trans}
use Rattle.whole_numbers.proofs.Quote.{quote}
use Rattle.whole_numbers.proofs.Certificates.{positive, below}
use Rattle.fix_interval.specs.Ends.{Ends, IsInside}
use Rattle.fix_interval.specs.Lies.{Lies}
use Rattle.fix_interval.specs.Bounds.{hull_of, clamp_of}

-- what lies in ends lies in ends around them
pub wider : {a c : Ends} (s : ℕ) (x : Fraction) → c.lo ≤ℤ a.lo → a.hi ≤ℤ c.hi → Lies a s x → Lies c s x
wider {a} {c} s x low high p = record { low = ≤ᶠ_trans (ratio_mono (2 ^ s) low) p.low; high = ≤ᶠ_trans p.high (ratio_mono (2 ^ s) high) }

-- the hull holds what either holds
pub hull_encloses : {a b r : Ends} → r ≡ hull_of a b → (s : ℕ) (x : Fraction) → Lies a s x ⊎ Lies b s x → Lies r s x
unfolding hull_of
hull_encloses {a} {b} {r} e s x (inl p) = rw e (wider s x (omega (arith, ints, clamps)) (omega (arith, ints, clamps)) p)
hull_encloses {a} {b} {r} e s x (inr p) = rw e (wider s x (omega (arith, ints, clamps)) (omega (arith, ints, clamps)) p)

-- wider ends have a wider hull
pub hull_isotone : {a b r : Ends} → r ≡ hull_of a b → (c d : Ends) → IsInside a c → IsInside b d → IsInside r (hull_of c d)
unfolding hull_of
hull_isotone {a} {b} {r} e c d p q = rw e record { low = omega (arith, ints, clamps); ordered = omega (arith, ints, clamps); high = omega (arith, ints, clamps) }

-- a fraction that two ratios are at most is at least that of the greater
greater : (y z : ℤ) (k : ℕ) (x : Fraction) → ratio y k ≤ᶠ x → ratio z k ≤ᶠ x → ratio (int_max y z) k ≤ᶠ x
greater y z k x p q = pick (lt_z z y) p q
  where
    pick : (t : Bool) → ratio y k ≤ᶠ x → ratio z k ≤ᶠ x → ratio (cond t y z) k ≤ᶠ x
    pick true p q = p
    pick false p q = q

-- and one that is at most two ratios is at most that of the smaller
smaller : (y z : ℤ) (k : ℕ) (x : Fraction) → x ≤ᶠ ratio y k → x ≤ᶠ ratio z k → x ≤ᶠ ratio (int_min y z) k
smaller y z k x p q = pick (lt_z z y) p q
  where
    pick : (t : Bool) → x ≤ᶠ ratio y k → x ≤ᶠ ratio z k → x ≤ᶠ ratio (cond t z y) k
    pick true p q = q
    pick false p q = p

-- the part from -m to m holds what the interval holds from -m to m
pub clamp_encloses : {a r : Ends} (m : ℤ) → r ≡ clamp_of a m → (s : ℕ) (x : Fraction) → Lies a s x → ratio (neg_ℤ m) (2 ^ s) ≤ᶠ x → x ≤ᶠ ratio m (2 ^ s) → Lies r s x
unfolding clamp_of
clamp_encloses {a} {r} m e s x l h k = rw e record {
  low = greater a.lo (neg_ℤ m) (2 ^ s) x l.low h;
  high = smaller a.hi m (2 ^ s) x l.high k;
}

-- wider ends have a wider part within a bound, where the narrower ones have one
pub clamp_isotone : {a r : Ends} (m : ℤ) → r ≡ clamp_of a m → r.lo ≤ℤ r.hi → (c : Ends) → IsInside a c → IsInside r (clamp_of c m)
unfolding clamp_of
clamp_isotone {a} {r} m e o c p = rw e record { low = omega (arith, ints, clamps); ordered = rw e at o; high = omega (arith, ints, clamps) }

-- where one interval ends before another begins, its choices are at most the other's
pub below_encloses : {a b : Ends} → a.hi ≤ℤ b.lo → (s : ℕ) (x y : Fraction) → Lies a s x → Lies b s y → x ≤ᶠ y
below_encloses h s x y p q = ≤ᶠ_trans p.high (≤ᶠ_trans (ratio_mono (2 ^ s) h) q.low)

-- ratios over one denominator are strictly ordered as their numerators
ratio_strict : (m n : ℤ) (k : ℕ) → 0 < k → m <ℤ n → ratio m k <ᶠ ratio n k
ratio_strict m n k p h = ratio_below m n k k p p (times m n k p h)
  where
    times : (m n : ℤ) (k : ℕ) → 0 < k → m <ℤ n → (m *ℤ pos k) <ℤ (n *ℤ pos k)
    times m n k p h = below (m ∷ n ∷ pos k ∷ []) ((n -ℤ m) *ℤ pos k) (search positive) (search quote depth 20) tt

-- and below them where a unit lies between
pub strictly_below_encloses : {a b : Ends} → a.hi <ℤ b.lo → (s : ℕ) (x y : Fraction) → Lies a s x → Lies b s y → x <ᶠ y
strictly_below_encloses {a} {b} h s x y p q = ≤ᶠ_<ᶠ_trans p.high (<ᶠ_≤ᶠ_trans (ratio_strict a.hi b.lo (2 ^ s) (pow_pos s) h) q.low)
