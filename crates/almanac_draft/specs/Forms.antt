-- The lines of an almanac format, and what each of them says.
use Rattle.std.specs.Prelude.{◌≡◌, ◌&&◌, ℕ, Bool, true, false, not, List, [], ◌∷◌, Option, Some, None, Result, Ok, if◌then◌else◌}
use Rattle.raim_model.specs.declared.TextWhy.{TextWhy}
use Rattle.text_lines.specs.Lines.{Text}
use Rattle.text_lines.specs.Fields.{◌>>=◌}
use Rattle.almanac_draft.specs.declared.begun.Begun.{Begun}

-- kinds of lines: those of the whole almanac in their order, those of a record, and what a line of each kind says for a
-- flight from first to end
pub record Form (K : Type 0) : Type 0 where
  pub heads : List K
  pub lines : List K
  pub first : K
  pub start : K
  pub next : K → Option K
  pub begins : K → Bool
  pub names : K → Bool
  pub nothing : Begun
  pub reads : (first end : ℕ) → K → Begun → Text → Result Begun TextWhy

-- the first of some kinds, and what follows them where there are none
abbrev pub first_of : {K : Type 0} → List K → Option K → Option K
first_of [] behind = behind
first_of (k ∷ ks) behind = Some k

-- each of the kinds follows the one before it, and this is what follows the last
abbrev pub Follow : {K : Type 0} → (K → Option K) → List K → Option K → Type 0
Follow next [] behind = Unit {0}
Follow next (k ∷ ks) behind = (next k ≡ first_of ks behind) × Follow next ks behind

abbrev pub none_is : {K : Type 0} → (K → Bool) → List K → Bool
none_is p [] = true
none_is p (k ∷ ks) = not (p k) && none_is p ks

-- one kind is, and none behind it
abbrev pub one_is : {K : Type 0} → (K → Bool) → List K → Bool
one_is p [] = false
one_is p (k ∷ ks) = if p k then none_is p ks else one_is p ks

-- the lines of a record begin with one alone that begins a record, one alone says the PRN, and the others leave it
pub record IsForm {K : Type 0} (form : Form K) : Type 0 where
  pub rest : List K
  pub lines : form.lines ≡ form.start ∷ rest
  pub first : first_of form.heads (Some form.start) ≡ Some form.first
  pub heads_follow : Follow form.next form.heads (Some form.start)
  pub lines_follow : Follow form.next form.lines None
  pub start_begins : form.begins form.start ≡ true
  pub heads_begin_none : none_is form.begins form.heads ≡ true
  pub rest_begins_none : none_is form.begins rest ≡ true
  pub heads_name_none : none_is form.names form.heads ≡ true
  pub one_names : one_is form.names form.lines ≡ true
  pub keeps : (first end : ℕ) (k : K) (before after : Begun) (line : Text) → form.names k ≡ false → form.reads first end k before line ≡ Ok after → before.values.prn ≡ after.values.prn

-- what a value makes of the record that has begun
abbrev pub made : {A : Type 0} → (A → Begun) → Result A TextWhy → Result Begun TextWhy
made begun_of value = do
  x ← value
  Ok (begun_of x)
