-- Words that no hyphen begins always match.
use Rattle.std.proofs.Common.{◌≡◌, ◌==◌, ◌<◌, ◌^◌, ℕ, true, false, [], ◌∷◌, Some, refl, arith, ap, sym, subst, ◌∙◌, ℤ, pos}
use Rattle.std.specs.Prelude.{◌≤ℤ◌, FitsSigned}
use Rattle.std.specs.Int.{w64}
use Rattle.std.proofs.lemmas.Int.{ints}
use Rattle.std.specs.Str.Parse.{IsNumeral, digits_value, signed_digits_value, without_leading_plus, without_leading_sign}
use Rattle.std.proofs.lemmas.Bool.{ne_eqb}
use Rattle.clap.specs.Words.{Text, Accepts}
use Rattle.clap.specs.ValueTests.{accepts}
use Rattle.clap.proofs.OnLiterals.{clap_on_literals}
use Rattle.clap.proofs.ValueTestLemmas.{Accepts-accepts}
use Rattle.command_words.specs.Commands.{number_parser}
use Rattle.std.proofs.lemmas.Str.Parse.{digit_from_value}
use Rattle.command_words.specs.Asked.{prediction_of, demonstration_of, number_written, number_from}
use Rattle.command_words.specs.Asked.Asked.{Prediction, Demonstration}
use Rattle.command_words.proofs.NumberReads.{no_minus}
use Rattle.command_words.specs.Plain.{PlainPathsAreRead, PlainNumberIsRead}

predicted : (w : Text) (a b c d : ℕ) (at bt ct dt : Text) → (a == 45) ≡ false → (b == 45) ≡ false → (c == 45) ≡ false → (d == 45) ≡ false
    → prediction_of (w ∷ (a ∷ at) ∷ (b ∷ bt) ∷ (c ∷ ct) ∷ (d ∷ dt) ∷ [])
    ≡ Some (Prediction (record { limits = a ∷ at; almanac = b ∷ bt; outages = c ∷ ct; route = d ∷ dt }))
unfolding clap_on_literals
predicted w a b c d at bt ct dt p q r s = rw (p, p, q, q, r, r, s, s) refl

pub plain_paths : PlainPathsAreRead
plain_paths name (a ∷ at) (b ∷ bt) (c ∷ ct) (d ∷ dt) p q r s =
    predicted name a b c d at bt ct dt (ne_eqb a 45 p) (ne_eqb b 45 q) (ne_eqb c 45 r) (ne_eqb d 45 s)
plain_paths name [] almanac outages route p q r s = absurd p
plain_paths name (a ∷ at) [] outages route p q r s = absurd q
plain_paths name (a ∷ at) (b ∷ bt) [] route p q r s = absurd r
plain_paths name (a ∷ at) (b ∷ bt) (c ∷ ct) [] p q r s = absurd s

-- digits have no sign before them
signless : (ds : Text) → IsNumeral 10 ds → without_leading_plus ds ≡ ds
signless [] numeral = absurd (omega (arith, numeral.0))
signless (d ∷ ds) numeral =
    let no : (d == 43) ≡ false = ne_eqb _ _ (λ e. omega (arith, digit_from_value d numeral.1.0)) in
    rw no refl

no_hyphen : (d : ℕ) (ds : Text) → IsNumeral 10 (d ∷ ds) → (d == 45) ≡ false
no_hyphen d ds numeral = ne_eqb _ _ (λ e. omega (arith, digit_from_value d numeral.1.0))

as_signed : (d : ℕ) (ds : Text) → IsNumeral 10 (d ∷ ds) → without_leading_sign (d ∷ ds) ≡ d ∷ ds
as_signed d ds numeral = rw (no_hyphen d ds numeral) (signless (d ∷ ds) numeral)

signed_value : (d : ℕ) (ds : Text) → IsNumeral 10 (d ∷ ds) → signed_digits_value 10 (d ∷ ds) ≡ pos (digits_value 10 (d ∷ ds))
signed_value d ds numeral = rw (no_hyphen d ds numeral) (ap (λ t. pos (digits_value 10 t)) (signless (d ∷ ds) numeral))

in_range : (z : ℤ) (n : ℕ) → z ≡ pos n → n < 2 ^ 32 → FitsSigned w64 z × (pos 0 ≤ℤ z) × (z ≤ℤ pos 4294967295)
in_range z n e small = subst (λ z. FitsSigned w64 z × (pos 0 ≤ℤ z) × (z ≤ℤ pos 4294967295)) (sym e) (omega (arith, ints), omega (arith, ints), omega (arith, ints))

passes : (d : ℕ) (ds : Text) → IsNumeral 10 (d ∷ ds) → digits_value 10 (d ∷ ds) < 2 ^ 32 → Accepts false number_parser (d ∷ ds)
passes d ds numeral small =
    let range = in_range _ _ (signed_value d ds numeral) small in
    (subst (λ t. IsNumeral 10 t) (sym (as_signed d ds numeral)) numeral, range.0, range.1, range.2)

shown : (name : Text) (d : ℕ) (ds : Text) → (d == 45) ≡ false → accepts false number_parser (d ∷ ds) ≡ true
    → demonstration_of (name ∷ (d ∷ ds) ∷ []) ≡ Some (Demonstration (number_written (d ∷ ds)))
unfolding clap_on_literals
shown name d ds p ok = rw (p, p, ok, p) refl

pub plain_number : PlainNumberIsRead
plain_number name [] numeral small = absurd (omega (arith, numeral.0))
plain_number name (d ∷ ds) numeral small =
    shown name d ds (no_hyphen d ds numeral) (Accepts-accepts false number_parser (d ∷ ds) (passes d ds numeral small))
    ∙ ap (λ n. Some (Demonstration n)) (ap (λ t. number_from t) (no_minus (d ∷ ds) numeral) ∙ ap (digits_value 10) (signless (d ∷ ds) numeral))
