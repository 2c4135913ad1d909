-- What a form that was found step by step tells of its steps.
use Rattle.std.proofs.Common.{sym, subst, ap, refl, ◌≡◌, ◌^◌, ℕ, ℤ, ◌≤ℤ◌, Bool, true, false, cond, List, Option, Some, None}
use Rattle.std.specs.Prelude.{IfSome}
use Rattle.std.specs.Option.{option_map}
use Rattle.std.proofs.lemmas.Option.{none-some, same_Some}
use lib.Dec.{T}
use lib.Signed.{le_z}
use Rattle.fix_interval.specs.Ends.{Ends}
use Rattle.time_forms.specs.declared.time_form.TimeForm.{TimeForm}
use Rattle.time_forms.specs.Forms.{Form, Holds}
use Rattle.time_forms.specs.Operations.{neg_form}
use Rattle.time_forms.specs.Programs.{short_of}
use Rattle.time_forms.proofs.Shorts.{short_same, short_within}
use Rattle.orbit_forms.specs.Lines.{line_form}
use Rattle.orbit_forms.specs.Positions.{PairForm, VectorForm}
use Rattle.angle_forms.specs.declared.sine_cosine.SineCosine.{SineCosine}
use Rattle.angle_forms.specs.Pairs.{pair_form, IsPairWithin}
use Rattle.angle_forms.specs.Vectors.{vector_form}
use Rattle.angle_forms.specs.Checked.{◌>>=◌, short_lines}

-- what follows from a value was found from it
pub then_some : {A B P : Type 0} (f : A → Option B) (o : Option A) (y : B) → (o >>= f) ≡ Some y → ((x : A) → o ≡ Some x → f x ≡ Some y → P) → P
then_some f None y e k = absurd (none-some y e)
then_some f (Some x) y e k = k x refl e

-- where a test decides that there is none
pub if_tested : {A : Type 0} (b : Bool) (o : Option A) (y : A) → cond b o None ≡ Some y → (true ≡ b) × (o ≡ Some y)
if_tested true o y e = (refl, e)
if_tested false o y e = absurd (none-some y e)

pub at_most_z : {y z : ℤ} → true ≡ le_z y z → y ≤ℤ z
at_most_z e = record { le = subst T e tt }

-- what holds of the pair that is seen holds of the program's
pub if_pair : (r : Option SineCosine) (o : Option PairForm) → option_map pair_form r ≡ o → (P : PairForm → Type 0) → ((p : PairForm) → o ≡ Some p → P p) → IfSome r (λ t. P (pair_form t))
if_pair None o e P k = tt
if_pair (Some t) o e P k = k (pair_form t) (sym e)

pub if_vector : (r : Option (List TimeForm)) (o : Option VectorForm) → option_map vector_form r ≡ o → (P : VectorForm → Type 0) → ((p : VectorForm) → o ≡ Some p → P p) → IfSome r (λ t. P (vector_form t))
if_vector None o e P k = tt
if_vector (Some t) o e P k = k (vector_form t) (sym e)

-- a short form holds what the form holds
pub short_holds : {h : ℕ} {d : ℤ} (f g : Form) (a : Ends) → short_of f ≡ Some g → Holds h d f a → Holds h d g a
short_holds {h} {d} f g a e p = subst (λ (k : Form). Holds h d k a) (sym (short_same f g e)) p

-- both lines are short, and the pair is of them
pub record AreLines (p q : PairForm) (u : Form) (k : ℤ) : Type 0 where
  pub sine : q.sine ≡ line_form p.sine p.cosine u k
  pub cosine : q.cosine ≡ line_form p.cosine (neg_form p.sine) u k
  pub small : IsPairWithin q (2 ^ 58)

pub are_lines : (p q : PairForm) (u : Form) (k : ℤ) → short_lines p u k ≡ Some q → AreLines p q u k
unfolding short_lines
are_lines p q u k e =
    then_some _ (short_of (line_form p.sine p.cosine u k)) q e (λ s es e1.
    then_some _ (short_of (line_form p.cosine (neg_form p.sine) u k)) q e1 (λ c ec e2.
    subst (λ (x : PairForm). AreLines p x u k) (same_Some _ _ e2) record {
      sine = short_same (line_form p.sine p.cosine u k) s es;
      cosine = short_same (line_form p.cosine (neg_form p.sine) u k) c ec;
      small = record { sine = short_within (line_form p.sine p.cosine u k) s es; cosine = short_within (line_form p.cosine (neg_form p.sine) u k) c ec };
    }))

-- where there is no value, nothing follows from it; and what follows from one
pub none_step : {A B : Type 0} (o : Option A) (f : A → Option B) → None ≡ o → None ≡ (o >>= f)
none_step o f e = ap (λ x. x >>= f) e

pub some_step : {A B : Type 0} (o : Option A) (x : A) (f : A → Option B) → Some x ≡ o → f x ≡ (o >>= f)
some_step o x f e = ap (λ y. y >>= f) e
