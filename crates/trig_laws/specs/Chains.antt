-- The ends of a series by nested multiplication on numbers from 0 to 1, in units of 2^-38: each is one chain of products.
use Rattle.std.specs.Prelude.{ℕ, ℤ, pos, neg_ℤ, ◌+◌, ◌-◌, ◌*◌, ◌/◌, ◌^◌, ◌+ℤ◌, ◌-ℤ◌, ◌*ℤ◌, Bool, if◌then◌else◌, true, false, List, [], ◌∷◌}
use Rattle.std.specs.Int.{int_min, int_max}
use lib.Signed.{le_z}
use Rattle.whole_numbers.specs.Rounding.{floor_of, ceil_of}
use Rattle.fix_interval.specs.Ends.{Ends}
use Rattle.trig_laws.specs.Quarter.{sine_divisors, cosine_divisors}

-- 1 - y h / k, rounded down
unfoldable pub step_down : ℕ → ℕ → ℕ → ℕ
step_down y h k = 2 ^ 38 - ((y * h + (2 ^ 38 - 1)) / 2 ^ 38 + (k - 1)) / k

-- and rounded up
unfoldable pub step_up : ℕ → ℕ → ℕ → ℕ
step_up y h k = 2 ^ 38 - y * h / 2 ^ 38 / k

-- the upper or the lower end of 1 - y (1 - y (1 - ..) / k2) / k1 for y from low to high: each step turns one end into the other
unfoldable pub nest_end : (up : Bool) → (low high : ℕ) → List ℕ → ℕ
nest_end up low high [] = 2 ^ 38
nest_end true low high (k ∷ ks) = step_up low (nest_end false low high ks) k
nest_end false low high (k ∷ ks) = step_down high (nest_end true low high ks) k

-- the lower end of the sine where the radians begin at x and the nested product lies from low to high: a unit outward, and
-- at least -1
abbrev pub eighth_sine_low_of : ℤ → (low high : ℕ) → ℤ
eighth_sine_low_of x low high = int_max (floor_of (x *ℤ pos (if le_z (pos 0) x then low else high)) (2 ^ 38) -ℤ pos 1) (neg_ℤ (pos (2 ^ 38)))

-- the upper end where they end at x
abbrev pub eighth_sine_high_of : ℤ → (low high : ℕ) → ℤ
eighth_sine_high_of x low high = int_min (ceil_of (x *ℤ pos (if le_z (pos 0) x then high else low)) (2 ^ 38) +ℤ pos 1) (pos (2 ^ 38))

-- the ends of the cosine
abbrev pub eighth_cosine_low_of : ℕ → ℤ
eighth_cosine_low_of low = int_max (pos low -ℤ pos 1) (neg_ℤ (pos (2 ^ 38)))

abbrev pub eighth_cosine_high_of : ℕ → ℤ
eighth_cosine_high_of high = int_min (pos high +ℤ pos 1) (pos (2 ^ 38))

-- the sine of the radians x, whose square lies from l to h
abbrev pub sine_ends : Ends → ℕ → ℕ → Ends
sine_ends x l h = record {
  lo = eighth_sine_low_of x.lo (nest_end false l h sine_divisors) (nest_end true l h sine_divisors);
  hi = eighth_sine_high_of x.hi (nest_end false l h sine_divisors) (nest_end true l h sine_divisors);
}

-- and the cosine
abbrev pub cosine_ends : ℕ → ℕ → Ends
cosine_ends l h = record { lo = eighth_cosine_low_of (nest_end false l h cosine_divisors); hi = eighth_cosine_high_of (nest_end true l h cosine_divisors) }
