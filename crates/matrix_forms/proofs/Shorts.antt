-- A form of 64 bits is the form that it was made of, and there is one where that fits.
use Rattle.std.specs.Prelude.{ℕ, ℤ, neg_ℤ, ◌^◌, ◌&&◌, ◌≡◌, Some, None, Bool, true, false, cond, IfSome, IsSome, IsTrue, refl}
use Rattle.std.specs.declared.option.Option.{Option}
use Rattle.std.specs.Option.{option_map}
use Rattle.std.proofs.Common.{sym, subst, arith}
use Rattle.std.proofs.lemmas.Int.{ints}
use Rattle.time_forms.specs.declared.time_form.TimeForm.{TimeForm}
use Rattle.time_forms.specs.Forms.{Form}
use Rattle.time_forms.specs.Programs.{form, is_below, is_short, short_of}
use Rattle.time_forms.specs.Operations.{neg_form}
use Rattle.time_forms.proofs.Shorts.{short_same}
use Rattle.matrix_forms.specs.Shorts.{IsShort}

pub short_is : (r : Option TimeForm) (f : Form) → option_map form r ≡ short_of f → IfSome r (λ g. form g ≡ f)
short_is None f e = tt
short_is (Some g) f e = short_same f (form g) (sym e)

chosen : (r : Option TimeForm) (b : Bool) (f : Form) → option_map form r ≡ cond b (Some f) None → IsTrue b → IsSome r
chosen None true f e t = cc
chosen None false f e t = cc
chosen (Some g) b f e t = refl

pub short_some : (r : Option TimeForm) (f : Form) → option_map form r ≡ short_of f → IsShort f → IsSome r
unfolding short_of
short_some r f e t = chosen r (is_short f) f e t

-- what holds of a form holds of the form of the program that is the same, where there is one
pub if_same : (r : Option TimeForm) (f : Form) (P : Form → Type 0) → IfSome r (λ g. form g ≡ f) → P f → IfSome r (λ g. P (form g))
if_same None f P e p = tt
if_same (Some g) f P e p = subst P (sym e) p

-- a number and its negative are below a bound together
negative_below : (z : ℤ) (m : ℕ) → IsTrue (is_below (neg_ℤ z) m) → IsTrue (is_below z m)
negative_below z m e = grind (arith, ints)

both : (a b : Bool) → IsTrue (a && b) → IsTrue a × IsTrue b
both true b e = (refl, e)
both false b e = cc

joined : (a b : Bool) → IsTrue a → IsTrue b → IsTrue (a && b)
joined true b p q = q
joined false b p q = cc

pub negative_short : (f : Form) → IsShort (neg_form f) → IsShort f
unfolding neg_form
negative_short f e =
    let p = both (is_below (neg_ℤ f.centre) (2 ^ 58)) (is_below (neg_ℤ f.turning) (2 ^ 58) && is_below f.remainder (2 ^ 58)) e in
    let q = both (is_below (neg_ℤ f.turning) (2 ^ 58)) (is_below f.remainder (2 ^ 58)) p.1 in
    joined (is_below f.centre (2 ^ 58)) (is_below f.turning (2 ^ 58) && is_below f.remainder (2 ^ 58)) (negative_below f.centre (2 ^ 58) p.0)
    (joined (is_below f.turning (2 ^ 58)) (is_below f.remainder (2 ^ 58)) (negative_below f.turning (2 ^ 58) q.0) q.1)
