-- The sine of a pair that is turned by a quarter from 0 to 3.
use Rattle.std.specs.Prelude.{◌≡◌, ℤ, pos, neg_ℤ, ◌^◌, ◌≤ℤ◌}
use Rattle.std.proofs.Common.{arith, ap, sym, ◌∙◌}
use Rattle.std.proofs.lemmas.Int.{ints}
use Rattle.fix_interval.specs.Ends.{Ends}
use Rattle.fix_interval.specs.Ranges.{point}
use Rattle.fix_interval.specs.Pairs.{PairEnds}
use Rattle.fix_interval.specs.Sums.{neg_of}
use Rattle.trig_laws.specs.SinCos.{turn_of, sin_cos_of}
use Rattle.trig_laws.proofs.Encloses.{sin_cos_full}

turned : (a b : Ends) (l : ℤ) {p : PairEnds} {k : ℤ} → p ≡ turn_of k a b → k ≡ l → (turn_of l a b).sine ≡ p.sine
turned a b l e f = sym (ap (λ (q : PairEnds). q.sine) (e ∙ ap (λ z. turn_of z a b) f))

pub not_turned : (a b : Ends) {p : PairEnds} {k : ℤ} → p ≡ turn_of k a b → k ≡ pos 0 → a ≡ p.sine
not_turned a b e f = turned a b (pos 0) e f

pub turned_once : (a b : Ends) {p : PairEnds} {k : ℤ} → p ≡ turn_of k a b → k ≡ pos 1 → b ≡ p.sine
turned_once a b e f = turned a b (pos 1) e f

pub turned_twice : (a b : Ends) {p : PairEnds} {k : ℤ} → p ≡ turn_of k a b → k ≡ pos 2 → neg_of a ≡ p.sine
turned_twice a b e f = turned a b (pos 2) e f

pub turned_thrice : (a b : Ends) {p : PairEnds} {k : ℤ} → p ≡ turn_of k a b → k ≡ pos 3 → neg_of b ≡ p.sine
turned_thrice a b e f = turned a b (pos 3) e f

-- the sine of one number of units lies from -1 to 1
pub low_within : (k : ℤ) → (neg_ℤ (pos (2 ^ 38)) ≤ℤ (sin_cos_of (point k)).sine.lo) × ((sin_cos_of (point k)).sine.lo ≤ℤ pos (2 ^ 38))
low_within k = let o : k ≤ℤ k = omega (arith, ints) in let f = (sin_cos_full (point k) o).sine in (f.low, through f.ordered f.high)
  where
    through : {x y z : ℤ} → x ≤ℤ y → y ≤ℤ z → x ≤ℤ z
    through h k = omega (arith, ints)

pub high_within : (k : ℤ) → (neg_ℤ (pos (2 ^ 38)) ≤ℤ (sin_cos_of (point k)).sine.hi) × ((sin_cos_of (point k)).sine.hi ≤ℤ pos (2 ^ 38))
high_within k = let o : k ≤ℤ k = omega (arith, ints) in let f = (sin_cos_full (point k) o).sine in (through f.low f.ordered, f.high)
  where
    through : {x y z : ℤ} → x ≤ℤ y → y ≤ℤ z → x ≤ℤ z
    through h k = omega (arith, ints)
