-- What the test whether a form fits 64 bits tells.
use Rattle.std.proofs.Common.{sym, ◌≡◌, ap, ap₂, ◌∙◌, subst, refl, arith, ◌^◌, ℕ, ℤ, pos, neg_ℤ, ◌≤ℤ◌, ◌<ℤ◌, Bool, true, false, cond, ◌&&◌, Option, Some, None, to_z, of_z}
use Rattle.std.proofs.lemmas.Int.{ints}
use Rattle.std.specs.Option.{option_map}
use Rattle.std.specs.Prelude.{IfSome, is_some}
use mir.Val.{SFits}
use mir.Syntax.{w64, w128}
use lib.Dec.{T}
use lib.Signed.{le_z, lt_z}
use Rattle.whole_numbers.proofs.Casts.{plain}
use Rattle.time_forms.specs.declared.time_form.TimeForm.{TimeForm}
use Rattle.time_forms.specs.Forms.{Form, least_of}
use Rattle.time_forms.specs.Programs.{IsNumberWithin, IsFormWithin, is_below, is_short, short_of, form}
use Rattle.time_forms.proofs.Bits.{form_within}

-- both parts of a test that holds hold
pub both_hold : (a b : Bool) → true ≡ (a && b) → (true ≡ a) × (true ≡ b)
both_hold true b e = (refl, e)
both_hold false b e = absurd (subst T e tt)

-- a number that passes lies between the bounds
is_lower : {y z : ℤ} → true ≡ lt_z y z → y <ℤ z
is_lower e = record { lt = subst T e tt }

short_number : (z : ℤ) → true ≡ is_below z (2 ^ 58) → IsNumberWithin z (2 ^ 58)
short_number z e = let p = both_hold (lt_z (neg_ℤ (pos (2 ^ 58))) z) (lt_z z (pos (2 ^ 58))) e in within z (is_lower p.0) (is_lower p.1)
  where
    within : (z : ℤ) → neg_ℤ (pos (2 ^ 58)) <ℤ z → z <ℤ pos (2 ^ 58) → IsNumberWithin z (2 ^ 58)
    within z p q = record { low = omega (arith, ints); high = omega (arith, ints) }

-- and is read from 64 bits as it was
pub short_plain : (z : ℤ) → SFits w128 z → true ≡ is_below z (2 ^ 58) → to_z w64 (of_z w64 (to_z w128 (of_z w128 z))) ≡ z
short_plain z f e = let p = short_number z e in rw (plain f) (within z p)
  where
    within : (z : ℤ) → IsNumberWithin z (2 ^ 58) → to_z w64 (of_z w64 z) ≡ z
    within z p = let l = p.low in let h = p.high in omega (arith, ints)

-- a choice that was made
pub chosen : {A : Type 0} (t : Bool) (x y : A) → true ≡ t → x ≡ cond t x y
chosen t x y e = ap (λ (b : Bool). cond b x y) e

pub not_chosen : {A : Type 0} (t : Bool) (x y : A) → false ≡ t → y ≡ cond t x y
not_chosen t x y e = ap (λ (b : Bool). cond b x y) e

-- a form that fits is within 2^58
fitting_within : (f : Form) → true ≡ is_short f → IsFormWithin f (2 ^ 58)
fitting_within f e =
    let p = both_hold (is_below f.centre (2 ^ 58)) (is_below f.turning (2 ^ 58) && is_below f.remainder (2 ^ 58)) e in
    let q = both_hold (is_below f.turning (2 ^ 58)) (is_below f.remainder (2 ^ 58)) p.1 in
    form_within f (2 ^ 58) (short_number f.centre p.0) (short_number f.turning q.0) (short_number f.remainder q.1)

-- what a chosen form is
taken : {f g : Form} (t : Bool) → cond t (Some f) None ≡ Some g → (g ≡ f) × (true ≡ t)
taken {f} {g} true e = (sym (ap (λ (o : Option Form). value o) e), refl)
  where
    value : Option Form → Form
    value None = f
    value (Some k) = k
taken {f} {g} false e = absurd (subst T (sym (ap (λ (o : Option Form). is_some o) e)) tt)

pub short_same : (f g : Form) → short_of f ≡ Some g → g ≡ f
unfolding short_of
short_same f g e = (taken (is_short f) e).0

pub short_within : (f g : Form) → short_of f ≡ Some g → IsFormWithin g (2 ^ 58)
unfolding short_of
short_within f g e = let p = taken {f = f} {g = g} (is_short f) e in subst (λ (k : Form). IsFormWithin k (2 ^ 58)) (sym p.0) (fitting_within f p.1)

-- what holds of a form holds of the form of the program that is its short one
pub if_short : (r : Option TimeForm) (f : Form) → option_map form r ≡ short_of f → (P : Form → Type 0) → P f → IfSome r (λ t. P (form t))
if_short None f e P p = tt
if_short (Some t) f e P p = subst P (sym (short_same f (form t) (sym e))) p

pub if_short_within : (r : Option TimeForm) (f : Form) → option_map form r ≡ short_of f → IfSome r (λ t. IsFormWithin (form t) (2 ^ 58))
if_short_within None f e = tt
if_short_within (Some t) f e = short_within f (form t) (sym e)

-- a number below a bound lies within it
pub below_within : (z : ℤ) (m : ℕ) → true ≡ is_below z m → IsNumberWithin z m
below_within z m e = let p = both_hold (lt_z (neg_ℤ (pos m)) z) (lt_z z (pos m)) e in within z (is_lower p.0) (is_lower p.1)
  where
    within : (z : ℤ) → neg_ℤ (pos m) <ℤ z → z <ℤ pos m → IsNumberWithin z m
    within z p q = record { low = omega (arith, ints); high = omega (arith, ints) }

-- both of two numbers are above 0
pub from_one : {z : ℤ} → true ≡ le_z (pos 1) z → pos 1 ≤ℤ z
from_one e = record { le = subst T e tt }

-- what holds of a form, where a test passes, holds of the form of the program that is its short one then
pub if_checked : (r : Option TimeForm) (b : Bool) (f : Form) → option_map form r ≡ cond b (short_of f) None → (P : Form → Type 0) → (true ≡ b → P f) → IfSome r (λ t. P (form t))
if_checked None b f e P p = tt
if_checked (Some t) true f e P p = if_short (Some t) f e P (p refl)
if_checked (Some t) false f e P p = absurd (subst T (ap (λ (o : Option Form). is_some o) e) tt)

pub if_checked_within : (r : Option TimeForm) (b : Bool) (f : Form) → option_map form r ≡ cond b (short_of f) None → IfSome r (λ t. IsFormWithin (form t) (2 ^ 58))
if_checked_within None b f e = tt
if_checked_within (Some t) true f e = if_short_within (Some t) f e
if_checked_within (Some t) false f e = absurd (subst T (ap (λ (o : Option Form). is_some o) e) tt)

-- the test whether the form is above 0
pub tested : (f : Form) (l : ℤ) (b : Bool) → SFits w128 l → SFits w128 f.centre → l ≡ least_of f → b ≡ (le_z (pos 1) (to_z w128 (of_z w128 l)) && le_z (pos 1) (to_z w128 (of_z w128 f.centre)))
    → b ≡ (le_z (pos 1) (least_of f) && le_z (pos 1) f.centre)
tested f l b lf cf i e = e ∙ ap₂ (λ x y. le_z (pos 1) x && le_z (pos 1) y) (plain lf ∙ i) (plain cf)
