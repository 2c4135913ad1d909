-- Eccentric anomalies over intervals, in units of 2^-38 of a turn: where E - eps sin E, the mean anomaly, passes that
-- which is given. eps is the eccentricity over tau.
use Rattle.std.specs.Prelude.{ℕ, zero, suc, ℤ, pos, ◌^◌, ◌*◌, ◌+ℤ◌, ◌-ℤ◌, ◌≤ℤ◌, ◌<ℤ◌, neg_ℤ, cond, not, Bool, IsTrue}
use lib.Signed.{le_z}
use Rattle.whole_numbers.specs.Rounding.{floor_of}
use Rattle.fix_interval.specs.Ends.{Ends}
use Rattle.fix_interval.specs.Sums.{sub_of}
use Rattle.fix_interval.specs.Products.{mul_of}
use Rattle.fix_interval.specs.Ranges.{point}
use Rattle.trig_laws.specs.SinCos.{sin_cos_of}

-- an eccentricity over tau: from 0 to 2^-7
pub record IsEccentricityInTurns (eps : Ends) : Type 0 where
  pub low : pos 0 ≤ℤ eps.lo
  pub ordered : eps.lo ≤ℤ eps.hi
  pub high : eps.hi ≤ℤ pos (2 ^ 31)

-- mean anomalies of at most half a turn either way
pub record IsWithinHalfTurn (m : Ends) : Type 0 where
  pub low : neg_ℤ (pos (2 ^ 37)) ≤ℤ m.lo
  pub ordered : m.lo ≤ℤ m.hi
  pub high : m.hi ≤ℤ pos (2 ^ 37)

-- the mean anomaly of the eccentric anomaly k
unfoldable pub mean_of : Ends → ℤ → Ends
mean_of eps k = sub_of (point k) (mul_of eps (sin_cos_of (point k)).sine)

-- whether the mean anomaly of k is certainly at most m, and whether it is certainly at least m
abbrev pub is_below : Ends → ℤ → ℤ → Bool
is_below eps m k = le_z (mean_of eps k).hi m

abbrev pub is_above : Ends → ℤ → ℤ → Bool
is_above eps m k = le_z m (mean_of eps k).lo

-- five eighths of a turn: eccentric anomalies of at most half a turn of mean anomaly are within it
abbrev pub bracket : ℤ
bracket = pos (5 * 2 ^ 35)

abbrev pub middle : ℤ → ℤ → ℤ
middle a b = floor_of (a +ℤ b) 2

-- n halvings of a bracket from a to b, where f holds at a and not at b: the lower end that is left
unfoldable pub lower_end : (ℤ → Bool) → ℕ → ℤ → ℤ → ℤ
lower_end f zero a b = a
lower_end f (suc n) a b = lower_end f n (cond (f (middle a b)) (middle a b) a) (cond (f (middle a b)) b (middle a b))

-- the last eccentric anomaly whose mean anomaly is certainly at most m, and the first whose is certainly at least m
abbrev pub last_below : Ends → ℤ → ℤ
last_below eps m = lower_end (is_below eps m) 40 (neg_ℤ bracket) bracket

abbrev pub first_above : Ends → ℤ → ℤ
first_above eps m = lower_end (λ k. not (is_above eps m k)) 40 (neg_ℤ bracket) bracket +ℤ pos 1

-- the eccentric anomalies of mean anomalies of at most half a turn either way, a unit outward
unfoldable pub anomalies_of : Ends → Ends → Ends
anomalies_of eps m = record { lo = last_below eps m.lo -ℤ pos 1; hi = first_above eps m.hi +ℤ pos 1 }

-- r is the greatest number from a on and below b at which f holds
pub record IsGreatest (f : ℤ → Bool) (a b r : ℤ) : Type 0 where
  pub low : a ≤ℤ r
  pub high : r <ℤ b
  pub holds : IsTrue (f r)
  pub greatest : (k : ℤ) → k <ℤ b → IsTrue (f k) → k ≤ℤ r

-- r is the least number above a and up to b at which f holds
pub record IsLeast (f : ℤ → Bool) (a b r : ℤ) : Type 0 where
  pub low : a <ℤ r
  pub high : r ≤ℤ b
  pub holds : IsTrue (f r)
  pub least : (k : ℤ) → a <ℤ k → IsTrue (f k) → r ≤ℤ k
