-- What the command of one number gives of a parse.
use Rattle.std.proofs.Common.{◌≡◌, ◌∙◌, ◌≤◌, ◌==◌, ℕ, Bool, true, false, [], ◌∷◌, refl, sym, subst, ap, arith, Option, Some, None, Ok, cond, drop, inl, inr, slice_index}
use Rattle.std.specs.Prelude.{option_map, slice_get, Result}
use Rattle.std.specs.Str.Parse.{IsNumeral, ParsesUnsigned, without_leading_sign}
use Rattle.std.proofs.lemmas.Bool.{ne_eqb, eqb-true}
use Rattle.std.proofs.lemmas.Str.Parse.{digit_from_value}
use Rattle.clap.specs.Words.{Text, IsParsedFrom, ReadsOne, found_of, first_value, matched_of, one_text, read_as, without_minus}
use Rattle.clap.specs.declared.builder.value_parser.Reading.{Reading}
use Rattle.clap.specs.declared.builder.value_parser.Reading.TheVariants as reading
use Rattle.clap.specs.declared.builder.command.Command.{Command}
use Rattle.clap.specs.declared.parser.matches.ArgMatches.{ArgMatches}
use Rattle.clap.specs.declared.parser.matches.Found.{Found}
use Rattle.clap.specs.declared.parser.matches.MatchedArg.{MatchedArg}
use Rattle.clap.proofs.CallerReads.{one_required_read}
use Rattle.std.specs.Borrow.{Bor}
use Rattle.clap.specs.Values.{bool_text, is_true_word}
use Rattle.command_words.specs.Asked.{number_written, number_from}
use Rattle.command_words.specs.Commands.{number_parser}
use Rattle.command_words.specs.Parsed.{IsDemo, HasNumber}

-- a parse of the command has a number
pub number_read : (command : Command) (matches : ArgMatches) → IsDemo command → IsParsedFrom command matches → HasNumber matches
number_read command matches demo parsed =
    let arg = demo.arg in
    let is = demo.number in
    let first : (t : Text) → arg.id.now ≡ t → slice_index t 0 ≡ 110 = λ t e. rw (← e, is.id_is) refl in
    let read = one_required_read demo.start command arg matches demo.added demo.empty.0 demo.empty.1 demo.local demo.negates
    is.plain is.local is.takes.0 is.takes.1 is.takes.2 is.takes.3
    (λ e. let bad : 0 ≡ 110 = first [] e in absurd (omega arith))
    (λ auto. elim auto [
      | inl h ↦ let bad : 104 ≡ 110 = first _ h in absurd (omega arith)
      | inr h ↦ let bad : 118 ≡ 110 = first _ h in absurd (omega arith)
    ])
    number_parser is.parser parsed in
    record {
      text = read.0;
      read = subst (λ (id : Text). one_text (found_of matches) id ≡ Some (without_minus read.0)) is.id_is read.1;
      number = read.2;
    }

-- digits have no sign before them
pub no_minus : (ds : Text) → IsNumeral 10 ds → without_minus ds ≡ ds
no_minus [] h = refl
no_minus (d ∷ ds) h =
    let no : (d == 45) ≡ false = ne_eqb _ _ (λ e. omega (arith, digit_from_value d h.1.0)) in
    rw no refl

-- at most one minus is passed over
minus_once : (t : Text) → IsNumeral 10 (without_leading_sign t) → without_minus (without_minus t) ≡ without_minus t
minus_once [] h = refl
minus_once (x ∷ xs) h = go (x == 45) refl h
  where
    go : (b : Bool) → (x == 45) ≡ b → IsNumeral 10 (without_leading_sign (x ∷ xs)) → without_minus (without_minus (x ∷ xs)) ≡ without_minus (x ∷ xs)
    go true e numeral = rw e (no_minus xs (rw e at numeral))
    go false e numeral = rw (e, e) refl

-- a text that has a number after its sign is no word of letters
no_word : (t : Text) (x : ℕ) (xs : Text) → IsNumeral 10 (without_leading_sign t) → without_minus t ≡ x ∷ xs → 58 ≤ x → ⊥
no_word [] x xs h e high = cc
no_word (y ∷ ys) x xs h e high = go (y == 45) refl h e
  where
    in_digits : (ds : Text) → IsNumeral 10 ds → ds ≡ x ∷ xs → ⊥
    in_digits [] numeral e = cc
    in_digits (d ∷ ds) numeral e = let same : d ≡ x = cc in omega (arith, digit_from_value d numeral.1.0)

    plus : (b : Bool) → (y == 43) ≡ b → IsNumeral 10 (drop (cond (y == 43) 1 0) (y ∷ ys)) → y ∷ ys ≡ x ∷ xs → ⊥
    plus true is numeral same = let at : y ≡ 43 = eqb-true _ _ is in let one : y ≡ x = cc in omega arith
    plus false is numeral same = in_digits (y ∷ ys) (rw is at numeral) same

    go : (b : Bool) → (y == 45) ≡ b → IsNumeral 10 (without_leading_sign (y ∷ ys)) → without_minus (y ∷ ys) ≡ x ∷ xs → ⊥
    go true is numeral same = in_digits ys (rw is at numeral) (rw is at same)
    go false is numeral same = plus (y == 43) refl (rw is at numeral) (rw is at same)

-- the number of the first value is that of the text which is read of it
same_number : (how : Reading) (u t : Text) → IsNumeral 10 (without_leading_sign t) → read_as how u ≡ without_minus t → number_written u ≡ number_written t
same_number reading.AsWritten u t h e = ap number_from (ap without_minus e ∙ minus_once t h)
same_number reading.WithoutMinus u t h e = ap number_from e
same_number reading.Boolish u t h e = absurd (word (is_true_word u) e)
  where
    word : (b : Bool) → bool_text b ≡ without_minus t → ⊥
    word true e = no_word t 116 _ h (sym e) (omega arith)
    word false e = no_word t 102 _ h (sym e) (omega arith)
same_number reading.Falsey u t h e = absurd (word _ e)
  where
    word : (b : Bool) → bool_text b ≡ without_minus t → ⊥
    word true e = no_word t 116 _ h (sym e) (omega arith)
    word false e = no_word t 102 _ h (sym e) (omega arith)

-- and so the number of an entry's first value is that of the text which is read of it
pub number_linked : (f : Found) (id t : Text) (n : ℕ) → one_text f id ≡ Some (without_minus t) → IsNumeral 10 (without_leading_sign t)
    → n ≡ number_written t → option_map number_written (first_value f id) ≡ Some n
number_linked f id t n one numeral is = go (matched_of f id) refl
  where
    first : (a : MatchedArg) (o : Option (Bor Text)) → slice_get a.vals.items 0 ≡ o → option_map (λ s. read_as a.reading s.now) (slice_get a.vals.items 0) ≡ Some (without_minus t)
        → option_map number_written (option_map (λ s. s.now) (slice_get a.vals.items 0)) ≡ Some n
    first a None e some = let bad : None ≡ Some (without_minus t) = rw e at some in cc
    first a (Some v) e some =
        let read : Some (read_as a.reading v.now) ≡ Some (without_minus t) = rw e at some in
        let same : read_as a.reading v.now ≡ without_minus t = cc in
        rw e (ap Some (same_number a.reading v.now t numeral same ∙ sym is))

    go : (o : Option MatchedArg) → matched_of f id ≡ o → option_map number_written (first_value f id) ≡ Some n
    go None e = let bad : None ≡ Some (without_minus t) = rw e at one in cc
    go (Some a) e = rw e (first a (slice_get a.vals.items 0) refl (rw e at one))

-- the number that is read of a text is the one that it writes
pub number_got : (E : Type 0) (G : Text → Result ℕ E → Type 0) (t : Text) (r : Option ℕ) (n : ℕ) → ((u : Text) (x : Result ℕ E) → G u x → ParsesUnsigned 32 10 u x)
    → r ≡ Some n → ReadsOne G (without_minus t) r → n ≡ number_written t
number_got E G t r n only is reads =
    let parsed = only (without_minus t) (Ok n) (rw is at reads) in parsed.1
