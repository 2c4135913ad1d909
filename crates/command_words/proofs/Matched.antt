-- What the words ask for, where `clap` refuses them and where it accepts them.
use Rattle.std.proofs.Common.{◌≡◌, ◌≢◌, ◌≤◌, ℕ, Bool, true, false, map, length, arith, List, [], ◌∷◌, Option, Some, None, refl, ap, ◌∙◌}
use Rattle.std.specs.Prelude.{option_map, codes, slice_index_or}
use Rattle.std.specs.Str.{bytes_eq}
use Rattle.std.proofs.lemmas.Slice.Eq.{bytes_eq-Decides}
use Rattle.clap.specs.Words.{App, Row, fault_of, matches_of, first_of, found_of, first_value}
use Rattle.clap.specs.declared.parser.matches.ArgMatches.{ArgMatches}
use Rattle.clap.proofs.WalkLemmas.{first_value-rows}
use Rattle.text_lines.specs.Lines.{Text}
use Rattle.command_words.specs.Asked.{Asked, asked_of, matched_by, matched_if, asked_in, paths_in, number_in, number_written}
use Rattle.command_words.specs.Asked.Asked.{Prediction, Demonstration}
use Rattle.command_words.specs.Parsed.{AreMatched}

pub refused : (app : App) (words : List Text) (read : List Row → Option Asked) → fault_of app words ≢ [] → asked_in read (matched_by app words) ≡ None
refused app words read faulty = go (fault_of app words) faulty
  where
    go : {A : Type 0} (faults : List A) → faults ≢ [] → asked_in read (matched_if faults (matches_of app words)) ≡ None
    go [] none = absurd (none refl)
    go (fault ∷ faults) some = refl

pub accepted : (app : App) (words : List Text) (read : List Row → Option Asked) → fault_of app words ≡ [] → asked_in read (matched_by app words) ≡ read (matches_of app words)
accepted app words read none = rw none refl

-- the first value that the matches have is that of the words
pub value_is : (app : App) (words : List Text) (matches : ArgMatches) (id : Text) → AreMatched app words matches → first_value (found_of matches) id ≡ first_of id (matches_of app words)
value_is app words matches id are = first_value-rows (found_of matches) id ∙ ap (first_of id) are.rows

pub four_are : (rows : List Row) (limits almanac outages route : Text) → first_of (codes "limits") rows ≡ Some limits → first_of (codes "almanac") rows ≡ Some almanac
    → first_of (codes "outages") rows ≡ Some outages → first_of (codes "route") rows ≡ Some route
    → paths_in rows ≡ Some (Prediction (record { limits = limits; almanac = almanac; outages = outages; route = route }))
four_are rows limits almanac outages route p q r s = rw (p, q, r, s) refl

pub number_is : (rows : List Row) (number : ℕ) → option_map number_written (first_of (codes "number") rows) ≡ Some number → number_in rows ≡ Some (Demonstration number)
number_is rows number is = go (first_of (codes "number") rows) is
  where
    go : (o : Option Text) → option_map number_written o ≡ Some number → option_map (λ text. Demonstration (number_written text)) o ≡ Some (Demonstration number)
    go None e = absurd (let bad : None ≡ Some number = e in cc)
    go (Some text) e = let same : number_written text ≡ number = cc in ap (λ n. Some (Demonstration n)) same

-- a second word that is no command asks for nothing
pub no_command : {S : Type 0} (text : S → Text) (words : List S) (second : S) → 2 ≤ length words → second ≡ slice_index_or words 1 second
    → (text second ≡ codes "predict" → ⊥) → (text second ≡ codes "demo" → ⊥) → asked_of (map text words) ≡ None
no_command text [] second some is p q = absurd (omega arith)
no_command text (name ∷ []) second some is p q = absurd (omega arith)
no_command text (name ∷ command ∷ rest) second some is p q = go (bytes_eq (text command) (codes "predict")) refl (bytes_eq (text command) (codes "demo")) refl
  where
    go : (a : Bool) → bytes_eq (text command) (codes "predict") ≡ a → (b : Bool) → bytes_eq (text command) (codes "demo") ≡ b
        → asked_of (text name ∷ text command ∷ map text rest) ≡ None
    go true e b f = absurd (p (ap text is ∙ (bytes_eq-Decides (text command) (codes "predict")).0 e))
    go false e true f = absurd (q (ap text is ∙ (bytes_eq-Decides (text command) (codes "demo")).0 f))
    go false e false f = rw (e, f) refl
