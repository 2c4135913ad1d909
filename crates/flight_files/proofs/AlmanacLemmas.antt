-- Almanacs that are read line by line are in the ranges of their flight.
use Rattle.std.proofs.Common.{◌≡◌, ◌≤◌, ◌≤ℤ◌, ℕ, ℤ, pos, negsuc, unsigned_abs, true, false, cond, List, [], ◌∷◌, length, refl, sym, ap, ◌∙◌, subst, arith}
use Rattle.std.proofs.lemmas.Int.{ints}
use Rattle.raim_model.specs.declared.AlmRecord.{AlmRecord}
use Rattle.raim_model.specs.declared.Span.{Span}
use Rattle.raim_model.specs.Span.{IsFlight}
use Rattle.raim_model.specs.AlmanacRanges.{AreAlmanacs}
use Rattle.text_lines.specs.Lines.{Text}
use Rattle.raim_base.specs.Feeding.{Follows}
use Rattle.alm_reader.specs.declared.reader.AlmanacReader.{AlmanacReader}
use Rattle.alm_reader.specs.Readers.{HasTaken}
use Rattle.alm_reader.specs.Almanacs.{is_separator, onto_section, sections_of, SayEach, SayAlmanacs}
use Rattle.alm_reader.proofs.RangeLemmas.{each_ranged}

each_length : (span : Span) (sections : List (List Text)) (almanacs : List (List AlmRecord)) → SayEach span sections almanacs → length almanacs ≡ length sections
each_length span [] [] s = refl
each_length span [] (a ∷ as') s = absurd s
each_length span (section ∷ sections) [] s = absurd s
each_length span (section ∷ sections) (a ∷ as') s = let more = each_length span sections as' s.1 in omega (arith, more)

onto_some : (line : Text) (sections : List (List Text)) → 1 ≤ length (onto_section line sections)
onto_some line [] = omega arith
onto_some line (section ∷ sections) = omega arith

-- a file has a section
some_section : (lines : List Text) → 1 ≤ length (sections_of lines)
some_section [] = omega arith
some_section (line ∷ lines) =
    elim (is_separator line) as (λ t. 1 ≤ length (cond t ([] ∷ sections_of lines) (onto_section line (sections_of lines)))) [ true ↦ omega arith | false ↦ onto_some line (sections_of lines) ]

pub are_almanacs : (span : Span) (lines : List Text) (almanacs : List (List AlmRecord)) → IsFlight span → SayAlmanacs span lines almanacs → AreAlmanacs span almanacs
are_almanacs span lines almanacs flight s =
    let same = each_length span (sections_of lines) almanacs s.each in
    let some = some_section lines in
    let few = s.few in
    record {
      some = omega (arith, same, some);
      few = omega (arith, same, few);
      each = each_ranged span (sections_of lines) almanacs flight s.each;
    }

abs_pos : (z : ℤ) → pos 0 ≤ℤ z → pos (unsigned_abs z) ≡ z
abs_pos (pos n) h = refl
abs_pos (negsuc n) h = absurd (omega (arith, ints, h))

same_abs : (x y : ℤ) → pos 0 ≤ℤ x → pos 0 ≤ℤ y → unsigned_abs x ≡ unsigned_abs y → x ≡ y
same_abs x y h k e = sym (abs_pos x h) ∙ ap (λ n. pos n) e ∙ abs_pos y k

-- what a reader of almanacs was made with
abbrev made_with : Span → List ℕ
made_with span = unsigned_abs span.first ∷ unsigned_abs span.end ∷ []

parts : (a b c d : ℕ) → a ∷ b ∷ [] ≡ c ∷ d ∷ [] → (a ≡ c) × (b ≡ d)
parts a b c d e = (cc, cc)

ends_after : (s : Span) → IsFlight s → pos 0 ≤ℤ s.end
ends_after s f = omega (arith, ints, f.after_epoch, f.some)

same_span : (a b : Span) → a.first ≡ b.first → a.end ≡ b.end → a ≡ b
same_span a b e f = λ i. record { first = e i; end = f i }

-- it is one flight
one_span : (a b : Span) → IsFlight a → IsFlight b → made_with a ≡ made_with b → a ≡ b
one_span a b f g e =
    let both = parts _ _ _ _ e in
    same_span a b (same_abs a.first b.first f.after_epoch g.after_epoch both.0) (same_abs a.end b.end (ends_after a f) (ends_after b g) both.1)

-- whatever was fed of a file, the almanacs that the reader gives are in the ranges of the flight that it was made for
pub ranged : (flight : Span) (old new : AlmanacReader) (fed : List Text) (almanacs : List (List AlmRecord)) → IsFlight flight → HasTaken flight old []
    → made_with new.span ≡ made_with old.span
    → Follows (λ lines. IsFlight old.span × HasTaken old.span old lines) (λ lines. IsFlight new.span × HasTaken new.span new lines) fed
    → ((span : Span) (lines : List Text) → HasTaken span new lines → SayAlmanacs span lines almanacs) → AreAlmanacs flight almanacs
ranged flight old new fed almanacs ok taken made follows accepted =
    let old_taken : HasTaken old.span old [] = subst (λ (s : Span). HasTaken s old []) (sym taken.flight) taken in
    let old_flight : IsFlight old.span = subst (λ (s : Span). IsFlight s) (sym taken.flight) ok in
    let stands = follows [] (old_flight, old_taken) in
    let same = one_span new.span flight stands.0 ok (made ∙ ap made_with taken.flight) in
    subst (λ (s : Span). AreAlmanacs s almanacs) same (are_almanacs new.span fed almanacs stands.0 (accepted new.span fed stands.1))
