-- Where a test of whole numbers changes.
use Rattle.std.specs.Prelude.{◌≡◌, ℤ, pos, ◌+ℤ◌, ◌≤ℤ◌, ◌<ℤ◌, Bool, true, false}

-- r lies from a on and below b, and f holds at r, and not at the next number
pub record IsLastPassing (f : ℤ → Bool) (a b r : ℤ) : Type 0 where
  pub low : a ≤ℤ r
  pub high : r <ℤ b
  pub holds : f r ≡ true
  pub fails : f (r +ℤ pos 1) ≡ false
