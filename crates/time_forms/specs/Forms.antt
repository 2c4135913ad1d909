-- Time forms: of a piece of time with a middle and half length h, at a time d after the middle, a form stands for the whole numbers
-- from centre + turning d / h - remainder to centre + turning d / h + remainder.
use Rattle.std.specs.Prelude.{ℕ, ℤ, pos, neg_ℤ, ◌<◌, ◌+ℤ◌, ◌-ℤ◌, ◌*ℤ◌, ◌≤ℤ◌, unsigned_abs}
use Rattle.fix_interval.specs.Ends.{Ends}

pub record Form : Type 0 where
  pub centre : ℤ
  pub turning : ℤ
  pub remainder : ℤ

-- d is a time of a piece of half length h, from its middle
pub record IsTime (h : ℕ) (d : ℤ) : Type 0 where
  pub some : 0 < h
  pub after : neg_ℤ (pos h) ≤ℤ d
  pub before : d ≤ℤ pos h

-- the number z lies in the form at d
pub record LiesIn (h : ℕ) (d : ℤ) (f : Form) (z : ℤ) : Type 0 where
  pub low : (pos h *ℤ (f.centre -ℤ f.remainder) +ℤ f.turning *ℤ d) ≤ℤ (pos h *ℤ z)
  pub high : (pos h *ℤ z) ≤ℤ (pos h *ℤ (f.centre +ℤ f.remainder) +ℤ f.turning *ℤ d)

-- e is an interval, and lies in the form at d
pub record Holds (h : ℕ) (d : ℤ) (f : Form) (e : Ends) : Type 0 where
  pub low : (pos h *ℤ (f.centre -ℤ f.remainder) +ℤ f.turning *ℤ d) ≤ℤ (pos h *ℤ e.lo)
  pub ordered : e.lo ≤ℤ e.hi
  pub high : (pos h *ℤ e.hi) ≤ℤ (pos h *ℤ (f.centre +ℤ f.remainder) +ℤ f.turning *ℤ d)

-- the absolute value
abbrev pub size : ℤ → ℤ
size z = pos (unsigned_abs z)

-- the least and the greatest number that a form holds at any time of its piece
unfoldable pub least_of : Form → ℤ
least_of f = (f.centre -ℤ size f.turning) -ℤ f.remainder

unfoldable pub greatest_of : Form → ℤ
greatest_of f = (f.centre +ℤ size f.turning) +ℤ f.remainder

unfoldable pub span_of : Form → Ends
span_of f = record { lo = least_of f; hi = greatest_of f }
