-- A text is cut at the first byte that is a mark.
use Rattle.std.proofs.Common.{◌≡◌, ◌<◌, ◌≤◌, ◌==◌, ℕ, Bool, true, false, not, cond, [], ◌∷◌, ◌++◌, length, take, drop, Option, Some, None, refl, sym, ap, ◌∙◌, arith, eq-eqb, subst, append-nil, take-append-drop, nat_lt}
use Rattle.std.proofs.lemmas.Bool.{eqb-true}
use Rattle.std.specs.List.{prefix_len}
use Rattle.text_lines.specs.Lines.{Text}
use Rattle.text_lines.proofs.Cuts.{AllTrue, StartsNot, prefix_passes, not_false}
use Rattle.report_text.specs.Marks.{is_other}
use Rattle.report_text.specs.ReportLines.{cut_at, onto_front, word_at, unless_empty}

pub not_true : (t : Bool) → not t ≡ true → t ≡ false
not_true true h = cc
not_true false h = refl

pub some_same : {A : Type 0} (x y : A) → Some x ≡ Some y → x ≡ y
some_same x y h = cc

-- a byte that is above the mark
pub other : (mark b : ℕ) → mark < b → not (b == mark) ≡ true
other mark b h = go (b == mark) refl
  where
    go : (t : Bool) → (b == mark) ≡ t → not t ≡ true
    go false e = refl
    go true e = let same = eqb-true b mark e in absurd (omega arith)

-- a text is cut at its first mark
pub cut_plain : (mark : ℕ) (front back : Text) → AllTrue (is_other mark) front → cut_at mark (front ++ mark ∷ back) ≡ Some (front, back)
cut_plain mark [] back h = rw (eq-eqb mark mark refl) refl
cut_plain mark (b ∷ bs) back h = rw (not_true (b == mark) h.0, cut_plain mark bs back h.1) refl

-- and not where it has none
cut_never : (mark : ℕ) (text : Text) → AllTrue (is_other mark) text → cut_at mark text ≡ None
cut_never mark [] h = refl
cut_never mark (b ∷ bs) h = rw (not_true (b == mark) h.0, cut_never mark bs h.1) refl

-- what is cut has the mark there, and none before it
pub cut_back : (mark : ℕ) (text : Text) (p : Text × Text) → cut_at mark text ≡ Some p → (text ≡ p.0 ++ mark ∷ p.1) × AllTrue (is_other mark) p.0
cut_back mark [] p h = cc
cut_back mark (b ∷ bs) p h = go (cut_back mark bs) (b == mark) refl (cut_at mark bs) refl h
  where
    go : ((q : Text × Text) → cut_at mark bs ≡ Some q → (bs ≡ q.0 ++ mark ∷ q.1) × AllTrue (is_other mark) q.0) → (t : Bool) → (b == mark) ≡ t → (q : Option (Text × Text)) → cut_at mark bs ≡ q → cond t (Some ([], bs)) (onto_front b q) ≡ Some p
        → (b ∷ bs ≡ p.0 ++ mark ∷ p.1) × AllTrue (is_other mark) p.0
    go again true e q k h = subst (λ (p : Text × Text). (b ∷ bs ≡ p.0 ++ mark ∷ p.1) × AllTrue (is_other mark) p.0) (some_same ([], bs) p h) (ap (λ x. x ∷ bs) (eqb-true b mark e), tt)
    go again false e None k h = cc
    go again false e (Some q) k h =
        let ih = again q k in
        subst (λ (p : Text × Text). (b ∷ bs ≡ p.0 ++ mark ∷ p.1) × AllTrue (is_other mark) p.0) (some_same (b ∷ q.0, q.1) p h) (ap (λ x. b ∷ x) ih.0, (ap not e, ih.1))

-- a text that is not cut has no mark
pub none_other : (mark : ℕ) (text : Text) → cut_at mark text ≡ None → AllTrue (is_other mark) text
none_other mark [] h = tt
none_other mark (b ∷ bs) h = go (none_other mark bs) (b == mark) refl (cut_at mark bs) refl h
  where
    go : (cut_at mark bs ≡ None → AllTrue (is_other mark) bs) → (t : Bool) → (b == mark) ≡ t → (q : Option (Text × Text)) → cut_at mark bs ≡ q → cond t (Some ([], bs)) (onto_front b q) ≡ None → AllTrue (is_other mark) (b ∷ bs)
    go again true e q k h = cc
    go again false e (Some q) k h = cc
    go again false e None k h = (ap not e, again k)

-- as the code cuts it, by the length of what stands before the mark
pub cut_first : (mark : ℕ) (text : Text) → 1 ≤ length (drop (prefix_len (is_other mark) text) text)
    → cut_at mark text ≡ Some (take (prefix_len (is_other mark) text) text, drop 1 (drop (prefix_len (is_other mark) text) text))
cut_first mark text h = go (drop n text) (sym (take-append-drop n text)) h (prefix_passes (is_other mark) text).1
  where
    n : ℕ
    n = prefix_len (is_other mark) text

    go : (back : Text) → text ≡ take n text ++ back → 1 ≤ length back → StartsNot (is_other mark) back → cut_at mark text ≡ Some (take n text, drop 1 back)
    go [] e few s = absurd (omega arith)
    go (b ∷ bs) e few s =
        ap (cut_at mark) (e ∙ ap (λ x. take n text ++ x ∷ bs) (eqb-true b mark (not_false (b == mark) s)))
        ∙ cut_plain mark (take n text) bs (prefix_passes (is_other mark) text).0

empty_from_length : (xs : Text) → length xs < 1 → xs ≡ []
empty_from_length [] h = refl
empty_from_length (x ∷ xs) h = absurd (omega arith)

-- or by there being nothing from there on
pub cut_none : (mark : ℕ) (text : Text) → length (drop (prefix_len (is_other mark) text) text) < 1 → cut_at mark text ≡ None
cut_none mark text h =
    let n = prefix_len (is_other mark) text in
    let empty : drop n text ≡ [] = empty_from_length (drop n text) h in
    let whole : take n text ≡ text = sym (append-nil (take n text)) ∙ ap (λ l. take n text ++ l) (sym empty) ∙ take-append-drop n text in
    cut_never mark text (subst (AllTrue (is_other mark)) whole (prefix_passes (is_other mark) text).0)

-- a word that a space ends is found
pub word_says : (word back : Text) → AllTrue (is_other 32) word → nat_lt 0 (length word) ≡ true → word_at (word ++ 32 ∷ back) ≡ Some (word, back)
word_says word back plain some = ap unless_empty (cut_plain 32 word back plain) ∙ rw some refl

-- what is found as a word has a space behind it
pub word_back : (text : Text) (p : Text × Text) → word_at text ≡ Some p → text ≡ p.0 ++ 32 ∷ p.1
word_back text p h = go (cut_at 32 text) refl h
  where
    go : (q : Option (Text × Text)) → cut_at 32 text ≡ q → unless_empty q ≡ Some p → text ≡ p.0 ++ 32 ∷ p.1
    go None e h = cc
    go (Some q) e h = some (nat_lt 0 (length q.0)) h
      where
        some : (t : Bool) → cond t (Some q) None ≡ Some p → text ≡ p.0 ++ 32 ∷ p.1
        some true k = subst (λ (p : Text × Text). text ≡ p.0 ++ 32 ∷ p.1) (some_same q p k) (cut_back 32 text q e).0
        some false k = cc
