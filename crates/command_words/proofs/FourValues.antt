-- What the command of four texts gives of a parse.
use Rattle.std.proofs.Common.{◌≡◌, ◌<◌, ℕ, zero, suc, true, false, List, [], ◌∷◌, codes, refl, sym, ap₂, ◌∙◌, subst, arith, is_some, get_or}
use Rattle.std.specs.Str.{bytes_eq}
use Rattle.std.specs.List.{All}
use Rattle.std.proofs.lemmas.List.Elements.{All-nil, All-cons}
use Rattle.std.proofs.lemmas.Slice.Eq.{bytes_eq-Decides}
use Rattle.clap.specs.Words.{Text, IsParsedFrom, first_value, found_of}
use Rattle.clap.specs.Built.{FitsChain, TakesValue}
use Rattle.clap.specs.declared.builder.arg.Arg.{Arg}
use Rattle.clap.specs.declared.builder.command.Command.{Command}
use Rattle.clap.specs.declared.parser.matches.ArgMatches.{ArgMatches}
use Rattle.clap.proofs.CallerLemmas.{required_in_chain}
use Rattle.command_words.specs.Parsed.{IsPredict}

-- two texts that differ
pub differ : (a b t : Text) → t ≡ a → bytes_eq a b ≡ false → t ≡ b → ⊥
differ a b t e f g = let bad : true ≡ false = sym ((bytes_eq-Decides a b).1 (sym e ∙ g)) ∙ f in cc

clash : (a b x y : Text) → x ≡ a → y ≡ b → bytes_eq a b ≡ false → bytes_eq x y ≡ true → ⊥
clash a b x y p q f h = let bad : true ≡ false = sym h ∙ ap₂ bytes_eq p q ∙ f in cc

abbrev pub args_in : {c : Command} → IsPredict c → List Arg
args_in p = p.first ∷ p.second ∷ p.third ∷ p.fourth ∷ []

distinct : {c : Command} (p : IsPredict c) (j k : ℕ) (d e : Arg) → j < 4 → k < 4 → bytes_eq (get_or (args_in p) j e).id.now (get_or (args_in p) k d).id.now ≡ true → j ≡ k
distinct p zero zero d e low high same = refl
distinct p zero (suc zero) d e low high same = absurd (clash (codes "limits") (codes "almanac") _ _ p.limits p.almanac refl same)
distinct p zero (suc (suc zero)) d e low high same = absurd (clash (codes "limits") (codes "outages") _ _ p.limits p.outages refl same)
distinct p zero (suc (suc (suc zero))) d e low high same = absurd (clash (codes "limits") (codes "route") _ _ p.limits p.route refl same)
distinct p zero (suc (suc (suc (suc k)))) d e low high same = absurd (omega arith)
distinct p (suc zero) zero d e low high same = absurd (clash (codes "almanac") (codes "limits") _ _ p.almanac p.limits refl same)
distinct p (suc zero) (suc zero) d e low high same = refl
distinct p (suc zero) (suc (suc zero)) d e low high same = absurd (clash (codes "almanac") (codes "outages") _ _ p.almanac p.outages refl same)
distinct p (suc zero) (suc (suc (suc zero))) d e low high same = absurd (clash (codes "almanac") (codes "route") _ _ p.almanac p.route refl same)
distinct p (suc zero) (suc (suc (suc (suc k)))) d e low high same = absurd (omega arith)
distinct p (suc (suc zero)) zero d e low high same = absurd (clash (codes "outages") (codes "limits") _ _ p.outages p.limits refl same)
distinct p (suc (suc zero)) (suc zero) d e low high same = absurd (clash (codes "outages") (codes "almanac") _ _ p.outages p.almanac refl same)
distinct p (suc (suc zero)) (suc (suc zero)) d e low high same = refl
distinct p (suc (suc zero)) (suc (suc (suc zero))) d e low high same = absurd (clash (codes "outages") (codes "route") _ _ p.outages p.route refl same)
distinct p (suc (suc zero)) (suc (suc (suc (suc k)))) d e low high same = absurd (omega arith)
distinct p (suc (suc (suc zero))) zero d e low high same = absurd (clash (codes "route") (codes "limits") _ _ p.route p.limits refl same)
distinct p (suc (suc (suc zero))) (suc zero) d e low high same = absurd (clash (codes "route") (codes "almanac") _ _ p.route p.almanac refl same)
distinct p (suc (suc (suc zero))) (suc (suc zero)) d e low high same = absurd (clash (codes "route") (codes "outages") _ _ p.route p.outages refl same)
distinct p (suc (suc (suc zero))) (suc (suc (suc zero))) d e low high same = refl
distinct p (suc (suc (suc zero))) (suc (suc (suc (suc k)))) d e low high same = absurd (omega arith)
distinct p (suc (suc (suc (suc j)))) k d e low high same = absurd (omega arith)

all_fit : {c : Command} (p : IsPredict c) → All FitsChain (args_in p)
all_fit p = All-cons FitsChain p.first (p.second ∷ p.third ∷ p.fourth ∷ []) p.fits.0 (All-cons FitsChain p.second (p.third ∷ p.fourth ∷ []) p.fits.1 (All-cons FitsChain p.third (p.fourth ∷ []) p.fits.2 (All-cons FitsChain p.fourth [] p.fits.3 (All-nil FitsChain))))

-- argument k has a value
value_at : (c : Command) (p : IsPredict c) (m : ArgMatches) → IsParsedFrom c m → (k : ℕ) → k < 4 → TakesValue (get_or (args_in p) k p.first)
    → is_some (first_value (found_of m) (get_or (args_in p) k p.first).id.now) ≡ true
value_at c p m parsed k low takes =
    required_in_chain p.start c (args_in p) k p.first m p.chain p.empty.0 p.empty.1 p.local p.negates (all_fit p) (distinct p) low takes parsed

pub limits_value : (c : Command) (p : IsPredict c) (m : ArgMatches) → IsParsedFrom c m → is_some (first_value (found_of m) (codes "limits")) ≡ true
limits_value c p m parsed = subst (λ (t : Text). is_some (first_value (found_of m) t) ≡ true) p.limits (value_at c p m parsed 0 (omega arith) p.takes.0)

pub almanac_value : (c : Command) (p : IsPredict c) (m : ArgMatches) → IsParsedFrom c m → is_some (first_value (found_of m) (codes "almanac")) ≡ true
almanac_value c p m parsed = subst (λ (t : Text). is_some (first_value (found_of m) t) ≡ true) p.almanac (value_at c p m parsed 1 (omega arith) p.takes.1)

pub outages_value : (c : Command) (p : IsPredict c) (m : ArgMatches) → IsParsedFrom c m → is_some (first_value (found_of m) (codes "outages")) ≡ true
outages_value c p m parsed = subst (λ (t : Text). is_some (first_value (found_of m) t) ≡ true) p.outages (value_at c p m parsed 2 (omega arith) p.takes.2)

pub route_value : (c : Command) (p : IsPredict c) (m : ArgMatches) → IsParsedFrom c m → is_some (first_value (found_of m) (codes "route")) ≡ true
route_value c p m parsed = subst (λ (t : Text). is_some (first_value (found_of m) t) ≡ true) p.route (value_at c p m parsed 3 (omega arith) p.takes.3)
