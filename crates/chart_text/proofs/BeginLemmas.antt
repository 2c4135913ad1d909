-- Texts that begin with bytes.
use Rattle.std.proofs.Common.{◌≡◌, ◌≢◌, ℕ, true, [], ◌∷◌, ◌++◌, length, drop, refl, sym, ap, ◌∙◌, append_assoc}
use Rattle.std.proofs.lemmas.List.{append_cancel_left}
use Rattle.std.specs.Prelude.{codes, decimal}
use Rattle.std.proofs.lemmas.Bool.Decides.{Decides-eqb}
use Rattle.std.proofs.lemmas.Slice.Eq.{starts_is}
use Rattle.text_lines.specs.Lines.{Text}
use Rattle.fleet_text.specs.Fleet.{head_of}
use Rattle.chart_text.specs.Blocks.{begins, is_head}

-- what begins with bytes is these and more
pub begins_back : (text front : Text) → begins text front ≡ true → text ≡ front ++ drop (length front) text
begins_back text front h = (starts_is Decides-eqb text front (begins text front) refl).0 h

-- and these and more begin with them
pub begins_front : (text front rest : Text) → text ≡ front ++ rest → begins text front ≡ true
begins_front text front rest e = (starts_is Decides-eqb text front (begins text front) refl).1 rest e

-- the head of a block begins one
pub head_begins : (number : ℕ) (text tail : Text) → text ≡ head_of number ++ tail → is_head text ≡ true
head_begins number text tail e =
    begins_front text (codes "route ") (decimal number ++ (10 ∷ tail)) (e ∙ append_assoc (codes "route " ++ decimal number) (10 ∷ []) tail ∙ append_assoc (codes "route ") (decimal number) (10 ∷ tail))

-- what stands behind the head is behind its three parts
head_parts : (number : ℕ) (tail : Text) → head_of number ++ tail ≡ codes "route " ++ (decimal number ++ 10 ∷ tail)
head_parts number tail = append_assoc (codes "route " ++ decimal number) (10 ∷ []) tail ∙ append_assoc (codes "route ") (decimal number) (10 ∷ tail)

-- the three parts of a head, cut one after another
module _ (text : Text) (number : ℕ) where
  pub without_word : ((rest : Text) → text ≢ codes "route " ++ rest) → (tail : Text) → text ≢ head_of number ++ tail
  without_word other tail e = other (decimal number ++ 10 ∷ tail) (e ∙ head_parts number tail)

  module _ (numbered : Text) (p : text ≡ codes "route " ++ numbered) where
    pub without_number : ((rest : Text) → numbered ≢ decimal number ++ rest) → (tail : Text) → text ≢ head_of number ++ tail
    without_number other tail e = other (10 ∷ tail) (append_cancel_left (codes "route ") numbered (decimal number ++ 10 ∷ tail) (sym p ∙ e ∙ head_parts number tail))

    module _ (feed : Text) (q : numbered ≡ decimal number ++ feed) where
      pub without_feed : ((rest : Text) → feed ≢ 10 ∷ rest) → (tail : Text) → text ≢ head_of number ++ tail
      without_feed other tail e =
          other tail (append_cancel_left (decimal number) feed (10 ∷ tail) (sym q ∙ append_cancel_left (codes "route ") numbered (decimal number ++ 10 ∷ tail) (sym p ∙ e ∙ head_parts number tail)))

      pub with_feed : (tail : Text) → feed ≡ 10 ∷ tail → text ≡ head_of number ++ tail
      with_feed tail r = p ∙ ap (λ (t : Text). codes "route " ++ t) (q ∙ ap (λ (t : Text). decimal number ++ t) r) ∙ sym (head_parts number tail)
