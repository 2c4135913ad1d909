-- A list that is cut into parts of one length, each of which is read.
use Rattle.std.proofs.Common.{◌≡◌, ◌<◌, ℕ, List, [], ◌∷◌, ◌++◌, length, length-append, map, Result, Ok, refl, sym, ap, ap₂, ◌∙◌, arith, append_assoc}
use Rattle.std.specs.List.{flat_map}
use Rattle.raim_model.specs.declared.TextWhy.{TextWhy}

-- two lists that are equal begin alike and go on alike
pub cons_same : {X : Type 0} (x y : X) (xs ys : List X) → x ∷ xs ≡ y ∷ ys → (x ≡ y) × (xs ≡ ys)
cons_same x y xs ys h = (cc, cc)

-- fronts of one length are equal
pub fronts_same : {X : Type 0} (a c b d : List X) → a ++ b ≡ c ++ d → length a ≡ length c → (a ≡ c) × (b ≡ d)
fronts_same [] [] b d e n = (refl, e)
fronts_same [] (y ∷ ys) b d e n = absurd (omega arith)
fronts_same (x ∷ xs) [] b d e n = absurd (omega arith)
fronts_same (x ∷ xs) (y ∷ ys) b d e n =
    let h = cons_same x y (xs ++ b) (ys ++ d) e in
    let more = fronts_same xs ys b d h.1 (omega arith) in
    (ap₂ ◌∷◌ h.0 more.0, more.1)

-- a longer front goes on with what stands behind the shorter one
pub front_goes_on : {X : Type 0} (a c b d : List X) (x : X) → a ++ b ≡ c ++ x ∷ d → length c < length a → (e : List X) × (a ≡ c ++ x ∷ e)
front_goes_on [] c b d x e n = absurd (omega arith)
front_goes_on (y ∷ ys) [] b d x e n = (ys, ap (λ z. z ∷ ys) (cons_same y x (ys ++ b) d e).0)
front_goes_on (y ∷ ys) (z ∷ zs) b d x e n =
    let h = cons_same y z (ys ++ b) (zs ++ x ∷ d) e in
    let more = front_goes_on ys zs b d x h.1 (omega arith) in
    (more.0, ap₂ ◌∷◌ h.0 more.1)

module _ {X R : Type 0} (read : List X → Result R TextWhy) where
  abbrev pub AllRead : List (List X) → List R → Type 0
  AllRead parts records = map read parts ≡ map (λ r. Ok r) records

  abbrev pub all_of : List (List X) → List X
  all_of parts = flat_map (λ part. part) parts

  one_read : (part : List X) (parts : List (List X)) (r : R) (records : List R) → AllRead (part ∷ parts) (r ∷ records) → (read part ≡ Ok r) × AllRead parts records
  one_read part parts r records h = cons_same (read part) (Ok r) (map read parts) (map (λ (x : R). Ok x) records) h

  -- the part that is open, within the parts of the whole: it is read, and its record follows those of the parts before it
  pub record Open (rq rp : List R) (open_part : List X) (x : X) : Type 0 where
    pub rest : List X
    pub rec : R
    pub after : List R
    pub here : read (open_part ++ x ∷ rest) ≡ Ok rec
    pub records : rp ≡ rq ++ rec ∷ after

  module _ (n : ℕ) (fixed : (part : List X) (r : R) → read part ≡ Ok r → length part ≡ n) where
    one_length : (p q : List X) (r s : R) → read p ≡ Ok r → read q ≡ Ok s → length p ≡ length q
    one_length p q r s a b = fixed p r a ∙ sym (fixed q s b)

    same_record : (p q : List X) (r s : R) → read p ≡ Ok r → read q ≡ Ok s → p ≡ q → r ≡ s
    same_record p q r s a b e = let same : ◌≡◌ {A = Result R TextWhy} (Ok r) (Ok s) = sym a ∙ ap read e ∙ b in cc

    -- a part that is open, behind whole ones, is the front of a part
    pub open_part : (qs ps : List (List X)) (rq rp : List R) (begun : List X) (x : X) (rest : List X) → AllRead qs rq → AllRead ps rp → length begun < n
        → all_of ps ≡ all_of qs ++ (begun ++ x ∷ rest) → Open rq rp begun x
    open_part qs [] (s ∷ rq) rp begun x rest a b low e = absurd (none qs e)
      where
        none : (qs : List (List X)) → [] ≡ all_of qs ++ (begun ++ x ∷ rest) → ⊥
        none qs e = let m = ap (λ (xs : List X). length xs) e ∙ length-append (all_of qs) (begun ++ x ∷ rest) in let k = length-append begun (x ∷ rest) in omega (arith, m, k)
    open_part qs [] [] rp begun x rest a b low e = absurd (none qs e)
      where
        none : (qs : List (List X)) → [] ≡ all_of qs ++ (begun ++ x ∷ rest) → ⊥
        none qs e = let m = ap (λ (xs : List X). length xs) e ∙ length-append (all_of qs) (begun ++ x ∷ rest) in let k = length-append begun (x ∷ rest) in omega (arith, m, k)
    open_part [] (p ∷ ps) (s ∷ rq) rp begun x rest a b low e = cc
    open_part (q ∷ qs) (p ∷ ps) [] rp begun x rest a b low e = cc
    open_part [] (p ∷ ps) [] [] begun x rest a b low e = cc
    open_part [] (p ∷ ps) [] (r ∷ rp) begun x rest a b low e =
        let here = one_read p ps r rp b in
        let long : length begun < length p = let m = fixed p r here.0 in omega (arith, m, low) in
        let more = front_goes_on p begun (all_of ps) rest x e long in
        record {
          rest = more.0;
          rec = r;
          after = rp;
          here = ap read (sym more.1) ∙ here.0;
          records = refl;
        }
    open_part (q ∷ qs) (p ∷ ps) (s ∷ rq) [] begun x rest a b low e = cc
    open_part (q ∷ qs) (p ∷ ps) (s ∷ rq) (r ∷ rp) begun x rest a b low e =
        let mine = one_read p ps r rp b in
        let theirs = one_read q qs s rq a in
        let split = fronts_same p q (all_of ps) (all_of qs ++ (begun ++ x ∷ rest)) (e ∙ append_assoc q (all_of qs) (begun ++ x ∷ rest)) (one_length p q r s mine.0 theirs.0) in
        let more = open_part qs ps rq rp begun x rest theirs.1 mine.1 low split.1 in
        record {
          rest = more.rest;
          rec = more.rec;
          after = more.after;
          here = more.here;
          records = ap₂ ◌∷◌ (same_record p q r s mine.0 theirs.0 split.0) more.records;
        }

    -- whole parts, with a front that is shorter than a part: there is none, and the records are those of the parts
    pub none_open : (qs ps : List (List X)) (rq rp : List R) (begun : List X) → AllRead qs rq → AllRead ps rp → length begun < n
        → all_of ps ≡ all_of qs ++ begun → (begun ≡ []) × (rp ≡ rq)
    none_open [] [] [] [] begun a b low e = (sym e, refl)
    none_open [] [] [] (r ∷ rp) begun a b low e = cc
    none_open [] [] (s ∷ rq) rp begun a b low e = cc
    none_open [] (p ∷ ps) (s ∷ rq) rp begun a b low e = cc
    none_open [] (p ∷ ps) [] [] begun a b low e = cc
    none_open [] (p ∷ ps) [] (r ∷ rp) begun a b low e =
        let m = ap (λ (xs : List X). length xs) e in
        let k = length-append p (all_of ps) in
        let l = fixed p r (one_read p ps r rp b).0 in
        absurd (omega (arith, m, k, l, low))
    none_open (q ∷ qs) ps [] rp begun a b low e = cc
    none_open (q ∷ qs) [] (s ∷ rq) rp begun a b low e =
        let m = ap (λ (xs : List X). length xs) e ∙ length-append (q ++ all_of qs) begun in
        let k = length-append q (all_of qs) in
        let l = fixed q s (one_read q qs s rq a).0 in
        absurd (omega (arith, m, k, l, low))
    none_open (q ∷ qs) (p ∷ ps) (s ∷ rq) [] begun a b low e = cc
    none_open (q ∷ qs) (p ∷ ps) (s ∷ rq) (r ∷ rp) begun a b low e =
        let mine = one_read p ps r rp b in
        let theirs = one_read q qs s rq a in
        let split = fronts_same p q (all_of ps) (all_of qs ++ begun) (e ∙ append_assoc q (all_of qs) begun) (one_length p q r s mine.0 theirs.0) in
        let more = none_open qs ps rq rp begun theirs.1 mine.1 low split.1 in
        (more.0, ap₂ ◌∷◌ (same_record p q r s mine.0 theirs.0 split.0) more.1)
