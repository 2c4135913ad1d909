-- One more line of a limits file, and its end.
use Rattle.std.proofs.Common.{◌≡◌, ◌≢◌, ℕ, pos, neg_ℤ, arith, IsPermutation, Bool, ◌∷◌, [], ◌++◌, List, Option, Some, None, sym, ap, ◌∙◌, subst, append-nil, All, AllPairs, filter_map, option_to_list, IfSome}
use Rattle.std.proofs.lemmas.List.Elements.{All-push}
use Rattle.std.proofs.lemmas.List.Sorted.{All-permutation}
use Rattle.raim_model.specs.declared.Limits.{Limits}
use Rattle.fractions.specs.Fraction.{whole}
use Rattle.raim_model.specs.declared.Dec.{Dec}
use Rattle.raim_model.specs.declared.Weight.{Weight}
use Rattle.raim_model.specs.Ranges.{IsDecimalBetween, IsLength, IsWeight}
use Rattle.text_lines.proofs.ReadingMore.{filter_map-more}
use Rattle.text_lines.proofs.Rising.{rises, one_more}
use Rattle.limits_text.specs.declared.entry.Entry.{Entry}
use Rattle.limits_text.specs.declared.entry.Entry.TheVariants as entry
use Rattle.limits_text.specs.declared.draft.Draft.{Draft}
use Rattle.limits_text.specs.Limits.{Said, said_in, first_of, leap_in, mask_in, alert_in, mode_in, bias_in, weight_in, IsMode}
use Rattle.limits_text.specs.Drafts.{said_by, Fits, IsDraft, IsAfter, IsBuilt, AreSaid, excludes}

-- what a list says that grew by what one more line says
grown : {V : Type 0} (said : Entry → Option V) (entries : List Entry) (e : Entry) (old new : List V) → filter_map said entries ≡ old → new ≡ old ++ option_to_list (said e)
    → filter_map said (entries ++ e ∷ []) ≡ new
grown said entries e old new h n = filter_map-more said entries e ∙ ap (λ vs. vs ++ option_to_list (said e)) h ∙ sym n

first_said : {V : Type 0} (o : Option V) (vs : List V) → vs ≡ option_to_list o → o ≡ first_of vs
first_said None vs h = sym (ap first_of h)
first_said (Some v) vs h = sym (ap first_of h)

same_said : (a b : Said) → a.leap ≡ b.leap → a.mask ≡ b.mask → a.alert ≡ b.alert → a.mode ≡ b.mode → a.biases ≡ b.biases → a.weights ≡ b.weights → a ≡ b
same_said a b l m t e s w =
    ap (λ (x : Option ℕ). record a { leap = x }) l
    ∙ ap (λ (x : Option Dec). record a { leap = b.leap; mask = x }) m
    ∙ ap (λ (x : Option ℕ). record a { leap = b.leap; mask = b.mask; alert = x }) t
    ∙ ap (λ (x : Option Bool). record a { leap = b.leap; mask = b.mask; alert = b.alert; mode = x }) e
    ∙ ap (λ (x : List ℕ). record b { biases = x; weights = a.weights }) s
    ∙ ap (λ (x : List Weight). record b { weights = x }) w

-- what the draft says is what the entries say
pub said_of_draft : (draft : Draft) (entries : List Entry) → IsDraft draft entries → said_by draft ≡ said_in entries
said_of_draft draft entries d =
    same_said (said_by draft) (said_in entries)
    (first_said draft.leap (filter_map leap_in entries) d.leap)
    (first_said draft.mask (filter_map mask_in entries) d.mask)
    (first_said draft.alert (filter_map alert_in entries) d.alert)
    (first_said draft.mode (filter_map mode_in entries) d.mode)
    (sym d.biases) (sym d.weights)

-- what one line may say is in its range
one_ranged : {V : Type 0} (P : V → Type 0) (said : Option V) (old new : Option V) → option_to_list new ≡ option_to_list old ++ option_to_list said → IfSome old P → IfSome said P → IfSome new P
one_ranged P None None None e h k = tt
one_ranged P None None (Some n) e h k = cc
one_ranged P None (Some o) None e h k = tt
one_ranged P None (Some o) (Some n) e h k = let same : o ≡ n = cc in subst P same h
one_ranged P (Some s) None None e h k = tt
one_ranged P (Some s) None (Some n) e h k = let same : s ≡ n = cc in subst P same k
one_ranged P (Some s) (Some o) None e h k = tt
one_ranged P (Some s) (Some o) (Some n) e h k = cc

all_ranged : {V : Type 0} (P : V → Type 0) (said : Option V) (old new : List V) → new ≡ old ++ option_to_list said → All P old → IfSome said P → All P new
all_ranged P None old new e h k = subst (All P) (sym (append-nil old) ∙ sym e) h
all_ranged P (Some v) old new e h k = subst (All P) (sym e) (All-push P old v h k)

mask_fits : (said : Said) (e : Entry) → Fits said e → IfSome (mask_in e) (IsDecimalBetween (whole (neg_ℤ (pos 90))) (whole (pos 90)))
mask_fits said entry.Blank f = tt
mask_fits said (entry.Leap seconds) f = tt
mask_fits said (entry.Mask elevation) f = f.1
mask_fits said (entry.Alert mm) f = tt
mask_fits said (entry.Mode exclude) f = tt
mask_fits said (entry.Bias mm) f = tt
mask_fits said (entry.Weight weight) f = tt

alert_fits : (said : Said) (e : Entry) → Fits said e → IfSome (alert_in e) IsLength
alert_fits said entry.Blank f = tt
alert_fits said (entry.Leap seconds) f = tt
alert_fits said (entry.Mask elevation) f = tt
alert_fits said (entry.Alert mm) f = f.1
alert_fits said (entry.Mode exclude) f = tt
alert_fits said (entry.Bias mm) f = tt
alert_fits said (entry.Weight weight) f = tt

bias_fits : (said : Said) (e : Entry) → Fits said e → IfSome (bias_in e) IsLength
bias_fits said entry.Blank f = tt
bias_fits said (entry.Leap seconds) f = tt
bias_fits said (entry.Mask elevation) f = tt
bias_fits said (entry.Alert mm) f = tt
bias_fits said (entry.Mode exclude) f = tt
bias_fits said (entry.Bias mm) f = f.1
bias_fits said (entry.Weight weight) f = tt

weight_fits : (said : Said) (e : Entry) → Fits said e → IfSome (weight_in e) IsWeight
weight_fits said entry.Blank f = tt
weight_fits said (entry.Leap seconds) f = tt
weight_fits said (entry.Mask elevation) f = tt
weight_fits said (entry.Alert mm) f = tt
weight_fits said (entry.Mode exclude) f = tt
weight_fits said (entry.Bias mm) f = tt
weight_fits said (entry.Weight weight) f = f.1

-- the weights are of satellites that differ
differ_more : (said : Said) (e : Entry) (new : List Weight) → new ≡ said.weights ++ option_to_list (weight_in e) → AllPairs (λ before after. before.prn ≢ after.prn) said.weights → Fits said e
    → AllPairs (λ before after. before.prn ≢ after.prn) new
differ_more said e new h d f = subst (AllPairs (λ before after. before.prn ≢ after.prn)) (sym h) (go e f)
  where
    same : AllPairs (λ before after. before.prn ≢ after.prn) (said.weights ++ [])
    same = subst (AllPairs (λ before after. before.prn ≢ after.prn)) (sym (append-nil said.weights)) d

    go : (e : Entry) → Fits said e → AllPairs (λ before after. before.prn ≢ after.prn) (said.weights ++ option_to_list (weight_in e))
    go entry.Blank f = same
    go (entry.Leap seconds) f = same
    go (entry.Mask elevation) f = same
    go (entry.Alert mm) f = same
    go (entry.Mode exclude) f = same
    go (entry.Bias mm) f = same
    go (entry.Weight weight) f = one_more (λ (w : Weight). w.prn) said.weights weight d f.2

-- the draft after one more line
pub draft_more : (old new : Draft) (entries : List Entry) (e : Entry) → IsDraft old entries → Fits (said_by old) e → IsAfter old e new → IsDraft new (entries ++ e ∷ [])
draft_more old new entries e d f a = record {
  leap = grown leap_in entries e (option_to_list old.leap) (option_to_list new.leap) d.leap a.leap;
  mask = grown mask_in entries e (option_to_list old.mask) (option_to_list new.mask) d.mask a.mask;
  alert = grown alert_in entries e (option_to_list old.alert) (option_to_list new.alert) d.alert a.alert;
  mode = grown mode_in entries e (option_to_list old.mode) (option_to_list new.mode) d.mode a.mode;
  biases = grown bias_in entries e old.biases.items new.biases.items d.biases a.biases;
  weights = grown weight_in entries e old.weights.items new.weights.items d.weights a.weights;
  ranges = record {
    mask = one_ranged (IsDecimalBetween (whole (neg_ℤ (pos 90))) (whole (pos 90))) (mask_in e) old.mask new.mask a.mask d.ranges.mask (mask_fits (said_by old) e f);
    alert = one_ranged IsLength (alert_in e) old.alert new.alert a.alert d.ranges.alert (alert_fits (said_by old) e f);
    biases = all_ranged IsLength (bias_in e) old.biases.items new.biases.items a.biases d.ranges.biases (bias_fits (said_by old) e f);
    weights = all_ranged IsWeight (weight_in e) old.weights.items new.weights.items a.weights d.ranges.weights (weight_fits (said_by old) e f);
    differ = differ_more (said_by old) e new.weights.items a.weights d.ranges.differ f;
  };
}

the_mode : (modes : List Bool) (mode : Option Bool) (exclude : Bool) → modes ≡ option_to_list mode → exclude ≡ excludes mode → IsMode modes exclude
the_mode modes None exclude h k = subst (λ (ms : List Bool). IsMode ms exclude) (sym h) k
the_mode modes (Some m) exclude h k = subst (λ (ms : List Bool). IsMode ms exclude) (sym h) (sym k)

said_once : {V : Type 0} (vs : List V) (o : Option V) (v : V) → vs ≡ option_to_list o → o ≡ Some v → vs ≡ v ∷ []
said_once {V = X} vs o v h k = h ∙ ap (λ (x : Option X). option_to_list x) k

-- the limits of a draft are what the entries say
pub limits_said : (draft : Draft) (entries : List Entry) (limits : Limits) → IsDraft draft entries → IsBuilt draft limits → AreSaid entries limits
limits_said draft entries limits d b = record {
  said = record {
    leap = said_once (filter_map leap_in entries) draft.leap limits.leap d.leap b.leap;
    mask = said_once (filter_map mask_in entries) draft.mask limits.mask d.mask b.mask;
    alert = said_once (filter_map alert_in entries) draft.alert limits.alert_mm d.alert b.alert;
    mode = the_mode (filter_map mode_in entries) draft.mode limits.exclude d.mode b.mode;
    biases = d.biases ∙ sym b.biases;
    weights = subst (λ (ws : List Weight). IsPermutation ws limits.weights.items) (sym d.weights) b.weights;
    rising = b.rising;
  };
  ranges = record {
    mask = subst (λ (x : Option Dec). IfSome x (IsDecimalBetween (whole (neg_ℤ (pos 90))) (whole (pos 90)))) b.mask d.ranges.mask;
    alert = subst (λ (x : Option ℕ). IfSome x IsLength) b.alert d.ranges.alert;
    some_bias = rw b.biases (omega (arith, b.some_bias));
    biases = subst (All IsLength) (sym b.biases) d.ranges.biases;
    weights = record {
      each = All-permutation IsWeight draft.weights.items limits.weights.items b.weights d.ranges.weights;
      rising = rises (λ (w : Weight). w.prn) draft.weights.items limits.weights.items b.weights d.ranges.differ b.rising;
    };
  };
}
