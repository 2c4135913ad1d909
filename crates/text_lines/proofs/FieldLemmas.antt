-- Tests that follow one another.
use Rattle.std.proofs.Common.{◌≡◌, Bool, true, false, Result, Ok, Err, refl}
use Rattle.raim_model.specs.declared.TextWhy.{TextWhy}
use Rattle.text_lines.specs.Fields.{◌>>=◌, unless}

-- where two tests pass, the first passes, and then the second does
pub bind_then : {A B : Type 0} (r : Result A TextWhy) (f : A → Result B TextWhy) (y : B) → (r >>= f) ≡ Ok y → (x : A) × (r ≡ Ok x) × (f x ≡ Ok y)
bind_then (Ok x) f y h = (x, refl, h)
bind_then (Err e) f y h = cc

-- one answer has one value
pub ok_is : {A : Type 0} (x y : A) → ◌≡◌ {A = Result A TextWhy} (Ok x) (Ok y) → x ≡ y
ok_is x y h = cc

-- no answer is a value and a fault
pub ok_or_err : {A : Type 0} (r : Result A TextWhy) (x : A) (why : TextWhy) → r ≡ Ok x → r ≡ Err why → ⊥
ok_or_err r x why o e = cc

-- where a test that refuses is passed, it did not hold
pub unless_then : {A : Type 0} (b : Bool) (w : TextWhy) (r : Result A TextWhy) (y : A) → unless b w r ≡ Ok y → (b ≡ false) × (r ≡ Ok y)
unless_then true w r y h = cc
unless_then false w r y h = (refl, h)
