-- The sine and the cosine of at most an eighth of a turn, as intervals of units of 2^-38: the first seven terms of
-- each series by nested multiplication.
use Rattle.std.specs.Prelude.{ℕ, ℤ, pos, neg_ℤ, ◌^◌, ◌*ℤ◌, List, [], ◌∷◌}
use Rattle.fix_interval.specs.Ends.{Ends}
use Rattle.fix_interval.specs.Bounds.{clamp_of, widen_of}
use Rattle.fix_interval.specs.Sums.{sub_of}
use Rattle.fix_interval.specs.Products.{mul_of, sqr_of}
use Rattle.fix_interval.specs.Quotients.{div_int_of, scale_of}
use Rattle.fix_interval.specs.Ranges.{point, one_ends}

-- a turn is turn_parts / 10^13 radians
abbrev pub turn_parts : ℕ
turn_parts = 62831853071796

-- turns in radians
abbrev pub radians_of : Ends → Ends
radians_of r = scale_of r turn_parts (10 ^ 13)

-- 1 - y (1 - y (1 - ..) / k2) / k1, for the divisors k1, k2, ..
unfoldable pub nested_of : Ends → List ℕ → Ends
nested_of y [] = one_ends
nested_of y (k ∷ ks) = sub_of one_ends (div_int_of (mul_of y (nested_of y ks)) k)

-- the products of two factors each that lead from one term of a series to the next
abbrev pub sine_divisors : List ℕ
sine_divisors = 6 ∷ 20 ∷ 42 ∷ 72 ∷ 110 ∷ 156 ∷ []

abbrev pub cosine_divisors : List ℕ
cosine_divisors = 2 ∷ 12 ∷ 30 ∷ 56 ∷ 90 ∷ 132 ∷ []

-- a unit outward, for what seven terms leave out, and from -1 to 1
abbrev pub trimmed : Ends → Ends
trimmed a = clamp_of (widen_of a) (pos (2 ^ 38))

-- the sine and the cosine of the turns r, which are at most an eighth of a turn either way
unfoldable pub sine_of : Ends → Ends
sine_of r = trimmed (mul_of (radians_of r) (nested_of (sqr_of (radians_of r)) sine_divisors))

unfoldable pub cosine_of : Ends → Ends
cosine_of r = trimmed (nested_of (sqr_of (radians_of r)) cosine_divisors)

-- what of a is nearest to the quarter turn q, from there: at most an eighth of a turn either way
unfoldable pub left_of : Ends → ℤ → Ends
left_of a q = clamp_of (sub_of a (point (q *ℤ pos (2 ^ 36)))) (pos (2 ^ 35))

-- at most an eighth of a turn either way
abbrev pub eighth_ends : Ends
eighth_ends = record { lo = neg_ℤ (pos (2 ^ 35)); hi = pos (2 ^ 35) }

-- at most four fifths of a radian either way
abbrev pub radian_ends : Ends
radian_ends = record { lo = neg_ℤ (pos 219902325555); hi = pos 219902325555 }
