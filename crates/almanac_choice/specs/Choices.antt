-- Which of some times serves a time best: the nearest, of several the earliest, of several of one time the first.
use Rattle.std.specs.Prelude.{◌≡◌, ◌≢◌, ℕ, ◌≤◌, ◌<◌, ℤ, pos, ◌-ℤ◌, ◌≤ℤ◌, ◌<ℤ◌, unsigned_abs, List, slice_index_or}

-- how far x is from t
abbrev pub apart : (t x : ℤ) → ℕ
apart t x = unsigned_abs (t -ℤ x)

-- x serves t better than y
pub record IsBetter (t x y : ℤ) : Type 0 where
  pub nearer : apart t x ≤ apart t y
  pub earlier : apart t x ≡ apart t y → x <ℤ y

-- it does not
pub record IsNotBetter (t x y : ℤ) : Type 0 where
  pub as_near : apart t y ≤ apart t x
  pub not_later : apart t y ≡ apart t x → y ≤ℤ x

-- the time at a place
abbrev pub time_in : List ℤ → ℕ → ℤ
time_in times k = slice_index_or times k (pos 0)

-- of the first n times the one at the place best is nearest to t, of several the earliest, of several of one time the
-- first
pub record IsFirstBest (t : ℤ) (times : List ℤ) (n best : ℕ) : Type 0 where
  pub serves : (k : ℕ) → k < n → IsNotBetter t (time_in times k) (time_in times best)
  pub first : (k : ℕ) → k < best → time_in times k ≢ time_in times best
