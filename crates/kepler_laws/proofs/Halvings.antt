-- Halving a bracket finds the one place where a test changes.
use Rattle.std.specs.Prelude.{◌≡◌, ℕ, zero, suc, ℤ, pos, ◌^◌, refl, ◌+ℤ◌, ◌-ℤ◌, ◌≤ℤ◌, ◌<ℤ◌, Bool, true, false, cond, not, unsigned_abs}
use Rattle.std.proofs.Common.{arith, sym, ◌∙◌, subst}
use Rattle.std.proofs.lemmas.Int.{ints}
use Rattle.std.proofs.Math.Nat.{pow-suc}
use lib.Dec.{lit≤}
use lib.Signed.{le_z}
use Rattle.whole_numbers.proofs.Divisions.{floor_parts_high, floor_parts_low}
use Rattle.fix_interval.specs.Searches.{IsLastPassing}
use Rattle.kepler_laws.specs.Anomalies.{middle, lower_end, IsGreatest, IsLeast}

no_both : {b : Bool} → b ≡ true → b ≡ false → ⊥
no_both {b} p q = clash (sym p ∙ q)
  where
    clash : true ≡ false → ⊥
    clash e = cc

-- a test whose negation fails holds, and one whose negation holds does not
pub held : (b : Bool) → not b ≡ false → b ≡ true
held true e = refl
held false e = absurd (no_both refl e)

pub unheld : (b : Bool) → not b ≡ true → b ≡ false
unheld true e = absurd (no_both e refl)
unheld false e = refl

middle_low : (a b : ℤ) → a <ℤ b → a ≤ℤ middle a b
middle_low a b h = omega (arith, ints, floor_parts_high (a +ℤ b) 2 (lit≤ tt))

middle_high : (a b : ℤ) → a <ℤ b → middle a b <ℤ b
middle_high a b h = omega (arith, ints, floor_parts_low (a +ℤ b) 2 (lit≤ tt))

middle_left : (a b : ℤ) (n : ℕ) → b ≤ℤ (a +ℤ pos (2 ^ suc n)) → middle a b ≤ℤ (a +ℤ pos (2 ^ n))
middle_left a b n h = omega (arith, ints, floor_parts_low (a +ℤ b) 2 (lit≤ tt), pow-suc 2 n)

middle_right : (a b : ℤ) (n : ℕ) → b ≤ℤ (a +ℤ pos (2 ^ suc n)) → b ≤ℤ (middle a b +ℤ pos (2 ^ n))
middle_right a b n h = omega (arith, ints, floor_parts_high (a +ℤ b) 2 (lit≤ tt), pow-suc 2 n)

apart : (f : ℤ → Bool) (a m : ℤ) → a ≤ℤ m → f a ≡ true → f m ≡ false → a <ℤ m
apart f a m h p q = by_test (le_z m a) refl
  where
    by_test : (t : Bool) → le_z m a ≡ t → a <ℤ m
    by_test true e = let g : a ≡ m = omega (arith, ints) in absurd (no_both p (subst (λ z. f z ≡ false) (sym g) q))
    by_test false e = omega (arith, ints)

wider : {f : ℤ → Bool} {a b c d r : ℤ} → a ≤ℤ c → d ≤ℤ b → IsLastPassing f c d r → IsLastPassing f a b r
wider h k p = record { low = omega (arith, ints, p.low); high = omega (arith, ints, p.high); holds = p.holds; fails = p.fails }

less : {a b : ℤ} → a <ℤ b → a ≤ℤ b
less h = omega (arith, ints)

self : (a : ℤ) → a ≤ℤ a
self a = omega (arith, ints)

pub lower_last : (f : ℤ → Bool) (n : ℕ) (a b : ℤ) → f a ≡ true → f b ≡ false → a <ℤ b → b ≤ℤ (a +ℤ pos (2 ^ n)) → IsLastPassing f a b (lower_end f n a b)
unfolding lower_end
lower_last f zero a b p q h k = let e : b ≡ a +ℤ pos 1 = omega (arith, ints) in record { low = self a; high = h; holds = p; fails = subst (λ z. f z ≡ false) e q }
lower_last f (suc n) a b p q h k = by_test (f (middle a b)) refl
    (λ e. wider (middle_low a b h) (self b) (lower_last f n (middle a b) b e q (middle_high a b h) (middle_right a b n k)))
    (λ e. wider (self a) (less (middle_high a b h)) (lower_last f n a (middle a b) p e (apart f a (middle a b) (middle_low a b h) p e) (middle_left a b n k)))
  where
    by_test : (t : Bool) → f (middle a b) ≡ t → (f (middle a b) ≡ true → IsLastPassing f a b (lower_end f n (middle a b) b)) → (f (middle a b) ≡ false → IsLastPassing f a b (lower_end f n a (middle a b)))
        → IsLastPassing f a b (lower_end f n (cond t (middle a b) a) (cond t b (middle a b)))
    by_test true e g i = g e
    by_test false e g i = i e

-- ---- a test that changes once
pub Falls : (ℤ → Bool) → Type 0
Falls f = (k : ℤ) → f (k +ℤ pos 1) ≡ true → f k ≡ true

pub Rises : (ℤ → Bool) → Type 0
Rises f = (k : ℤ) → f k ≡ true → f (k +ℤ pos 1) ≡ true

down : (f : ℤ → Bool) → ((k : ℤ) → f (k +ℤ pos 1) ≡ true → f k ≡ true) → (n : ℕ) (k : ℤ) → f (k +ℤ pos n) ≡ true → f k ≡ true
down f g zero k p = let e : k +ℤ pos 0 ≡ k = omega (arith, ints) in subst (λ z. f z ≡ true) e p
down f g (suc n) k p = let e : k +ℤ pos (suc n) ≡ (k +ℤ pos 1) +ℤ pos n = omega (arith, ints) in g k (down f g n (k +ℤ pos 1) (subst (λ z. f z ≡ true) e p))

pub is_greatest : (f : ℤ → Bool) (a b r : ℤ) → ((k : ℤ) → f (k +ℤ pos 1) ≡ true → f k ≡ true) → IsLastPassing f a b r → IsGreatest f a b r
is_greatest f a b r g p = record { low = p.low; high = p.high; holds = p.holds; greatest = λ k h e. by_test k e (le_z k r) refl }
  where
    by_test : (k : ℤ) → f k ≡ true → (t : Bool) → le_z k r ≡ t → k ≤ℤ r
    by_test k e true d = omega (arith, ints)
    by_test k e false d = let c : k ≡ (r +ℤ pos 1) +ℤ pos (unsigned_abs (k -ℤ (r +ℤ pos 1))) = omega (arith, ints) in absurd (no_both (down f g _ (r +ℤ pos 1) (subst (λ z. f z ≡ true) c e)) p.fails)

-- the number after the last at which a rising test does not hold
pub is_least : (f : ℤ → Bool) (a b r : ℤ) → ((k : ℤ) → f k ≡ true → f (k +ℤ pos 1) ≡ true) → IsLastPassing (λ k. not (f k)) a b r → IsLeast f a b (r +ℤ pos 1)
is_least f a b r g p =
    let l = p.low in
    let h = p.high in
    record { low = omega (arith, ints); high = omega (arith, ints); holds = held _ p.fails; least = λ k h e. by_test k e (le_z k r) refl }
  where
    falls : (k : ℤ) → not (f (k +ℤ pos 1)) ≡ true → not (f k) ≡ true
    falls k e = by_value (f k) refl
      where
        by_value : (t : Bool) → f k ≡ t → not t ≡ true
        by_value true i = absurd (no_both (g k i) (unheld _ e))
        by_value false i = refl

    by_test : (k : ℤ) → f k ≡ true → (t : Bool) → le_z k r ≡ t → (r +ℤ pos 1) ≤ℤ k
    by_test k e false d = omega (arith, ints)
    by_test k e true d = let c : r ≡ k +ℤ pos (unsigned_abs (r -ℤ k)) = omega (arith, ints) in absurd (no_both e (unheld _ (down (λ z. not (f z)) falls _ k (subst (λ z. not (f z) ≡ true) c p.holds))))

-- ---- any search that finds such a number finds the same one
pub greatest_is : (f : ℤ → Bool) (a b r s : ℤ) → IsGreatest f a b r → IsGreatest f a b s → r ≡ s
greatest_is f a b r s p q = omega (arith, ints, p.greatest s q.high q.holds, q.greatest r p.high p.holds)

pub least_is : (f : ℤ → Bool) (a b r s : ℤ) → IsLeast f a b r → IsLeast f a b s → r ≡ s
least_is f a b r s p q = omega (arith, ints, p.least s q.low q.holds, q.least r p.low p.holds)
