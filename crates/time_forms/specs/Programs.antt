-- How contracts see the forms of the program, and which forms fit it.
use Rattle.std.specs.Prelude.{ℕ, ℤ, pos, neg_ℤ, ◌^◌, ◌≤ℤ◌, Bool, if◌then◌else◌, ◌&&◌, Option, Some, None}
use lib.Signed.{lt_z}
use Rattle.time_forms.specs.declared.time_form.TimeForm.{TimeForm}
use Rattle.time_forms.specs.declared.wide_form.WideForm.{WideForm}
use Rattle.time_forms.specs.Forms.{Form}

abbrev pub form : TimeForm → Form
form a = record { centre = a.centre; turning = a.turning; remainder = a.remainder }

abbrev pub wide : WideForm → Form
wide a = record { centre = a.centre; turning = a.turning; remainder = a.remainder }

-- the form of three numbers
abbrev pub form_from : ℤ → ℤ → ℤ → Form
form_from c v r = record { centre = c; turning = v; remainder = r }

-- z has a magnitude of at most m
pub record IsNumberWithin (z : ℤ) (m : ℕ) : Type 0 where
  pub low : neg_ℤ (pos m) ≤ℤ z
  pub high : z ≤ℤ pos m

-- each of the three has a magnitude of at most m
pub record IsFormWithin (f : Form) (m : ℕ) : Type 0 where
  pub centre_low : neg_ℤ (pos m) ≤ℤ f.centre
  pub centre_high : f.centre ≤ℤ pos m
  pub turning_low : neg_ℤ (pos m) ≤ℤ f.turning
  pub turning_high : f.turning ≤ℤ pos m
  pub remainder_low : neg_ℤ (pos m) ≤ℤ f.remainder
  pub remainder_high : f.remainder ≤ℤ pos m

-- whether z has a magnitude below m
abbrev pub is_below : ℤ → ℕ → Bool
is_below z m = lt_z (neg_ℤ (pos m)) z && lt_z z (pos m)

-- whether each of the three has one below 2^58
abbrev pub is_short : Form → Bool
is_short f = is_below f.centre (2 ^ 58) && (is_below f.turning (2 ^ 58) && is_below f.remainder (2 ^ 58))

-- the form, where each of the three has one below 2^58, and otherwise none
unfoldable pub short_of : Form → Option Form
short_of f = if is_short f then Some f else None
