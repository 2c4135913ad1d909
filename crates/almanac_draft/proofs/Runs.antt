-- Lines that are read one behind the other.
use Rattle.std.proofs.Common.{◌≡◌, ◌&&◌, ◌⊎◌, ℕ, Bool, true, false, not, List, [], ◌∷◌, ◌++◌, length, Option, Result, Ok, refl, sym, ap, ◌∙◌, subst, inl, inr, arith, if◌then◌else◌}
use Rattle.raim_model.specs.declared.TextWhy.{TextWhy}
use Rattle.text_lines.specs.Lines.{Text}
use Rattle.text_lines.proofs.FieldLemmas.{bind_then, ok_is}
use Rattle.almanac_draft.specs.declared.begun.Begun.{Begun}
use Rattle.almanac_draft.specs.Forms.{Form, IsForm, first_of, Follow, none_is, one_is, made}
use Rattle.almanac_draft.specs.Almanacs.{run}

both_true : (a b : Bool) → (a && b) ≡ true → (a ≡ true) × (b ≡ true)
both_true true b h = (refl, h)
both_true false b h = cc

not_true : (a : Bool) → not a ≡ true → a ≡ false
not_true true h = cc
not_true false h = refl

module _ {K : Type 0} where
  -- the line behind one of some that follow one another
  pub follows : (next : K → Option K) (done : List K) (k : K) (todo : List K) (behind : Option K) → Follow next (done ++ k ∷ todo) behind → next k ≡ first_of todo behind
  follows next [] k todo behind f = f.0
  follows next (j ∷ js) k todo behind f = follows next js k todo behind f.1

  pub none_at : (p : K → Bool) (done : List K) (k : K) (todo : List K) → none_is p (done ++ k ∷ todo) ≡ true → p k ≡ false
  none_at p [] k todo h = not_true (p k) (both_true (not (p k)) (none_is p todo) h).0
  none_at p (j ∷ js) k todo h = none_at p js k todo (both_true (not (p j)) (none_is p (js ++ k ∷ todo)) h).1

  -- behind the one, there is no other
  pub none_behind : (p : K → Bool) (done : List K) (k : K) (todo : List K) → one_is p (done ++ k ∷ todo) ≡ true → p k ≡ true → none_is p todo ≡ true
  none_behind p [] k todo h named = go (p k) named h
    where
      go : (b : Bool) → b ≡ true → (if b then none_is p todo else one_is p todo) ≡ true → none_is p todo ≡ true
      go true e h = h
      go false e h = cc
  none_behind p (j ∷ js) k todo h named = go (p j) (λ g. none_behind p js k todo g named) h
    where
      go : (b : Bool) → (one_is p (js ++ k ∷ todo) ≡ true → none_is p todo ≡ true) → (if b then none_is p (js ++ k ∷ todo) else one_is p (js ++ k ∷ todo)) ≡ true → none_is p todo ≡ true
      go true more h = let no = none_at p js k todo h in cc
      go false more h = more h

  -- where none is before, and there is one, it is this
  pub some_at : (p : K → Bool) (done : List K) (k : K) → none_is p (done ++ k ∷ []) ≡ false → (p k ≡ true) ⊎ (none_is p done ≡ false)
  some_at p [] k h = go (p k) refl h
    where
      go : (b : Bool) → p k ≡ b → (not b && true) ≡ false → (p k ≡ true) ⊎ (none_is p [] ≡ false)
      go true e h = inl e
      go false e h = cc
  some_at p (j ∷ js) k h = go (p j) (some_at p js k) h
    where
      go : (b : Bool) → (none_is p (js ++ k ∷ []) ≡ false → (p k ≡ true) ⊎ (none_is p js ≡ false)) → (not b && none_is p (js ++ k ∷ [])) ≡ false → (p k ≡ true) ⊎ ((not b && none_is p js) ≡ false)
      go true more h = inr refl
      go false more h = more h

  pub one_some : (p : K → Bool) (ks : List K) → one_is p ks ≡ true → none_is p ks ≡ false
  one_some p [] h = cc
  one_some p (k ∷ ks) h = go (p k) (one_some p ks) h
    where
      go : (b : Bool) → (one_is p ks ≡ true → none_is p ks ≡ false) → (if b then none_is p ks else one_is p ks) ≡ true → (not b && none_is p ks) ≡ false
      go true more h = refl
      go false more h = more h

module _ {K : Type 0} (form : Form K) (first end : ℕ) where
  pub run_length : (ks : List K) (c d : Begun) (ls : List Text) → run form first end ks c ls ≡ Ok d → length ls ≡ length ks
  run_length [] c d [] h = refl
  run_length [] c d (l ∷ ls) h = cc
  run_length (k ∷ ks) c d [] h = cc
  run_length (k ∷ ks) c d (l ∷ ls) h =
      let p = bind_then (form.reads first end k c l) (λ n. run form first end ks n ls) d h in
      let n = run_length ks p.0 d ls p.2 in
      omega (arith, n)

  -- one more line
  pub run_more : (ks : List K) (k : K) (c d e : Begun) (ls : List Text) (l : Text) → run form first end ks c ls ≡ Ok d → form.reads first end k d l ≡ Ok e → run form first end (ks ++ k ∷ []) c (ls ++ l ∷ []) ≡ Ok e
  run_more [] k c d e [] l h r = let here : form.reads first end k c l ≡ Ok e = subst (λ (x : Begun). form.reads first end k x l ≡ Ok e) (sym (ok_is c d h)) r in rw here refl
  run_more [] k c d e (m ∷ ms) l h r = cc
  run_more (j ∷ js) k c d e [] l h r = cc
  run_more (j ∷ js) k c d e (m ∷ ms) l h r =
      let p = bind_then (form.reads first end j c m) (λ n. run form first end js n ms) d h in
      rw p.1 (run_more js k p.0 d e ms l p.2 r)

  -- a line among others that are read is read
  pub run_here : (done : List K) (k : K) (todo : List K) (c d e : Begun) (begun : List Text) (l : Text) (rest : List Text) → run form first end (done ++ k ∷ todo) c (begun ++ l ∷ rest) ≡ Ok e
      → run form first end done c begun ≡ Ok d → (n : Begun) × (form.reads first end k d l ≡ Ok n) × (run form first end todo n rest ≡ Ok e)
  run_here [] k todo c d e [] l rest h g =
      let p = bind_then (form.reads first end k c l) (λ n. run form first end todo n rest) e h in
      (p.0, subst (λ (x : Begun). form.reads first end k x l ≡ Ok p.0) (ok_is c d g) p.1, p.2)
  run_here [] k todo c d e (b ∷ bs) l rest h g = cc
  run_here (j ∷ js) k todo c d e [] l rest h g = cc
  run_here (j ∷ js) k todo c d e (b ∷ bs) l rest h g =
      let p = bind_then (form.reads first end j c b) (λ n. run form first end (js ++ k ∷ todo) n (bs ++ l ∷ rest)) e h in
      let q = bind_then (form.reads first end j c b) (λ n. run form first end js n bs) d g in
      let same : q.0 ≡ p.0 = ok_is q.0 p.0 (sym q.1 ∙ p.1) in
      run_here js k todo p.0 d e bs l rest p.2 (subst (λ (x : Begun). run form first end js x bs ≡ Ok d) same q.2)

  -- lines that do not say the PRN leave it
  pub run_keeps : IsForm form → (ks : List K) (c d : Begun) (ls : List Text) → none_is form.names ks ≡ true → run form first end ks c ls ≡ Ok d → c.values.prn ≡ d.values.prn
  run_keeps lawful [] c d [] none h = ap (λ (x : Begun). x.values.prn) (ok_is c d h)
  run_keeps lawful [] c d (l ∷ ls) none h = cc
  run_keeps lawful (k ∷ ks) c d [] none h = cc
  run_keeps lawful (k ∷ ks) c d (l ∷ ls) none h =
      let p = bind_then (form.reads first end k c l) (λ n. run form first end ks n ls) d h in
      let b = both_true (not (form.names k)) (none_is form.names ks) none in
      lawful.keeps first end k c p.0 l (not_true (form.names k) b.0) p.1 ∙ run_keeps lawful ks p.0 d ls b.1 p.2

-- a value that passes, and what it makes
pub made_of : {A : Type 0} (make : A → Begun) (value : Result A TextWhy) (d : Begun) → made make value ≡ Ok d → (x : A) × (value ≡ Ok x) × (make x ≡ d)
made_of make value d h = let p = bind_then value (λ x. Ok (make x)) d h in (p.0, p.1, ok_is (make p.0) d p.2)
