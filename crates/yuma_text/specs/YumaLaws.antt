-- The lines of a YUMA record are in their order, and what passes is in its range.
use Rattle.std.proofs.Common.{◌≡◌, ◌⊎◌, ◌≤◌, ℕ, Bool, true, false, not, List, [], ◌∷◌, Ok, refl, ap, subst, inl, inr, arith, unsigned_abs, if◌then◌else◌}
use Rattle.fractions.specs.Fraction.{ratio, is_at_most}
use Rattle.fractions.specs.Pair.{pair_ratio, pair_is_at_most}
use Rattle.raim_model.specs.declared.TextWhy.TheVariants.{Label, Number}
use Rattle.raim_model.specs.declared.AlmRecord.{AlmRecord}
use Rattle.raim_model.specs.declared.Angle.{Angle}
use Rattle.raim_model.specs.declared.Dec.{Dec}
use Rattle.raim_model.specs.declared.Span.{Span}
use Rattle.raim_model.specs.Span.{IsFlight}
use Rattle.raim_model.specs.Decimal.{decimal, value_of}
use Rattle.raim_model.specs.Ranges.{IsDecimalBetween}
use Rattle.raim_model.specs.AlmanacRanges.{IsRadians, IsAlmRecord}
use Rattle.text_lines.specs.Lines.{Text}
use Rattle.text_lines.specs.Words.{words_of, only_of}
use Rattle.text_lines.specs.Fields.{◌>>=◌, or_else, labelled, whole_in, whole_value_in}
use Rattle.text_lines.proofs.FieldLemmas.{bind_then, ok_is, unless_then}
use Rattle.dec_text.specs.DecimalFields.{only_word, decimal_between}
use Rattle.dec_text.proofs.Within.{between_within}
use Rattle.almanac_fields.specs.Times.{toa_of}
use Rattle.almanac_fields.proofs.RangeLemmas.{whole_within, toa_near, AreNear}
use Rattle.almanac_draft.specs.declared.Begun.{Begun}
use Rattle.almanac_draft.specs.Forms.{IsForm}
use Rattle.almanac_draft.specs.Almanacs.{run}
use Rattle.almanac_draft.specs.Ranges.{IsRanged, SaysSome}
use Rattle.almanac_draft.proofs.Runs.{made_of}
use Rattle.almanac_draft.proofs.RangeLemmas.{run_holds, run_last, canonical_zero, canonical_least, in_range}
use Rattle.yuma_text.specs.declared.line.YumaLine.{YumaLine}
use Rattle.yuma_text.specs.declared.line.YumaLine.TheVariants.{Title, Prn, Health, Eccentricity, TimeInWeek, Inclination, RateOfRightAscension, SqrtA, RightAscension, ArgumentOfPerigee, MeanAnomaly, Af0, Af1, Week}
use Rattle.yuma_text.specs.Lines.{label_of, is_title, is_prn, zero as no_dec, nothing, begins_with_star, title_of, decimal_value, eccentricity_of, inclination_of, rate_of, sqrt_a_of, angle_of, value_said, line_said, week_of}
use Rattle.yuma_text.specs.Yuma.{yuma_form}

-- a decimal between two others
abbrev Between : Dec → Dec → Dec → Type 0
Between low high d = IsDecimalBetween (value_of low) (value_of high) d

-- an angle in radians between two decimals
abbrev RadiansBetween : Dec → Dec → Angle → Type 0
RadiansBetween low high a = IsRadians (value_of low) (value_of high) a

-- each value of a record is in its range
abbrev Ranged : AlmRecord → Type 0
Ranged r = ((1 ≤ r.prn) × (r.prn ≤ 32)) × (r.health ≤ 255) × Between no_dec (decimal false 3125 5) r.e × Between (decimal false 4000 0) (decimal false 7000 0) r.sqrt_a
    × RadiansBetween no_dec (decimal false 31415926535898 13) r.incl × RadiansBetween (decimal true 1 6) (decimal false 1 6) r.rate × RadiansBetween (decimal true 10 0) (decimal false 10 0) r.omega0
    × RadiansBetween (decimal true 10 0) (decimal false 10 0) r.perigee × RadiansBetween (decimal true 10 0) (decimal false 10 0) r.m0

abbrev RangedBegun : Begun → Type 0
RangedBegun begun = Ranged begun.values

abbrev prn_in : Begun → ℕ
prn_in begun = begun.values.prn

whole_value : (low high : ℕ) (value : Text) (n : ℕ) → whole_value_in low high value ≡ Ok n → (low ≤ n) × (n ≤ high)
whole_value low high value n h =
    let p = bind_then (or_else Number (only_of (words_of value))) (whole_in low high) n h in
    whole_within low high p.0 n p.2

decimal_within : (low high : Dec) (value : Text) (d : Dec) → decimal_value low high value ≡ Ok d → Between low high d
decimal_within low high value d h =
    let p = bind_then (only_word value) (decimal_between low high) d h in
    between_within low high p.0 d p.2

angle_within : (value : Text) (d : Dec) → angle_of value ≡ Ok d → Between (decimal true 10 0) (decimal false 10 0) d
angle_within value d h = decimal_within (decimal true 10 0) (decimal false 10 0) value d h

module _ (first end : ℕ) where
  -- a title leaves what is said, and another line has a value
  line_has : (k : YumaLine) (c d : Begun) (line : Text) → line_said first end k c line ≡ Ok d → (c ≡ d) ⊎ ((value : Text) × (value_said first end k c value ≡ Ok d))
  line_has k c d line h = go (is_title k) h
    where
      go : (b : Bool) → (if b then title_of c line else (labelled (label_of k) line >>= (λ value. value_said first end k c value))) ≡ Ok d → (c ≡ d) ⊎ ((value : Text) × (value_said first end k c value ≡ Ok d))
      go true h = inl (ok_is c d (unless_then (not (begins_with_star (words_of line))) Label (Ok c) d h).1)
      go false h = let p = bind_then (labelled (label_of k) line) (λ value. value_said first end k c value) d h in inr (p.0, p.2)

  value_keeps : (k : YumaLine) (c d : Begun) (value : Text) → is_prn k ≡ false → value_said first end k c value ≡ Ok d → c.values.prn ≡ d.values.prn
  value_keeps Title c d value n h = cc
  value_keeps Prn c d value n h = cc
  value_keeps Health c d value n h = ap prn_in (made_of _ _ d h).2
  value_keeps Eccentricity c d value n h = ap prn_in (made_of _ _ d h).2
  value_keeps TimeInWeek c d value n h = ap prn_in (made_of _ _ d h).2
  value_keeps Inclination c d value n h = ap prn_in (made_of _ _ d h).2
  value_keeps RateOfRightAscension c d value n h = ap prn_in (made_of _ _ d h).2
  value_keeps SqrtA c d value n h = ap prn_in (made_of _ _ d h).2
  value_keeps RightAscension c d value n h = ap prn_in (made_of _ _ d h).2
  value_keeps ArgumentOfPerigee c d value n h = ap prn_in (made_of _ _ d h).2
  value_keeps MeanAnomaly c d value n h = ap prn_in (made_of _ _ d h).2
  value_keeps Af0 c d value n h = ap prn_in (made_of _ _ d h).2
  value_keeps Af1 c d value n h = ap prn_in (made_of _ _ d h).2
  value_keeps Week c d value n h = ap prn_in (made_of _ _ d h).2

  keeps : (k : YumaLine) (c d : Begun) (line : Text) → is_prn k ≡ false → line_said first end k c line ≡ Ok d → c.values.prn ≡ d.values.prn
  keeps k c d line n h = go (line_has k c d line h)
    where
      go : (c ≡ d) ⊎ ((value : Text) × (value_said first end k c value ≡ Ok d)) → c.values.prn ≡ d.values.prn
      go (inl same) = ap prn_in same
      go (inr p) = value_keeps k c d p.0 n p.1

  value_ranged : (k : YumaLine) (c d : Begun) (v : Text) → value_said first end k c v ≡ Ok d → RangedBegun c → RangedBegun d
  value_ranged Title c d v h r = cc
  value_ranged Prn c d v h r = let p = made_of _ (whole_value_in 1 32 v) d h in subst RangedBegun p.2 (whole_value 1 32 v p.0 p.1, r.1, r.2, r.3, r.4, r.5, r.6, r.7, r.8)
  value_ranged Health c d v h r = let p = made_of _ (whole_value_in 0 255 v) d h in subst RangedBegun p.2 (r.0, (whole_value 0 255 v p.0 p.1).1, r.2, r.3, r.4, r.5, r.6, r.7, r.8)
  value_ranged Eccentricity c d v h r = let p = made_of _ (eccentricity_of v) d h in subst RangedBegun p.2 (r.0, r.1, decimal_within no_dec (decimal false 3125 5) v p.0 p.1, r.3, r.4, r.5, r.6, r.7, r.8)
  value_ranged TimeInWeek c d v h r = subst RangedBegun (made_of _ _ d h).2 r
  value_ranged Inclination c d v h r = let p = made_of _ (inclination_of v) d h in subst RangedBegun p.2 (r.0, r.1, r.2, r.3, decimal_within no_dec (decimal false 31415926535898 13) v p.0 p.1, r.5, r.6, r.7, r.8)
  value_ranged RateOfRightAscension c d v h r = let p = made_of _ (rate_of v) d h in subst RangedBegun p.2 (r.0, r.1, r.2, r.3, r.4, decimal_within (decimal true 1 6) (decimal false 1 6) v p.0 p.1, r.6, r.7, r.8)
  value_ranged SqrtA c d v h r = let p = made_of _ (sqrt_a_of v) d h in subst RangedBegun p.2 (r.0, r.1, r.2, decimal_within (decimal false 4000 0) (decimal false 7000 0) v p.0 p.1, r.4, r.5, r.6, r.7, r.8)
  value_ranged RightAscension c d v h r = let p = made_of _ (angle_of v) d h in subst RangedBegun p.2 (r.0, r.1, r.2, r.3, r.4, r.5, angle_within v p.0 p.1, r.7, r.8)
  value_ranged ArgumentOfPerigee c d v h r = let p = made_of _ (angle_of v) d h in subst RangedBegun p.2 (r.0, r.1, r.2, r.3, r.4, r.5, r.6, angle_within v p.0 p.1, r.8)
  value_ranged MeanAnomaly c d v h r = let p = made_of _ (angle_of v) d h in subst RangedBegun p.2 (r.0, r.1, r.2, r.3, r.4, r.5, r.6, r.7, angle_within v p.0 p.1)
  value_ranged Af0 c d v h r = subst RangedBegun (made_of _ _ d h).2 r
  value_ranged Af1 c d v h r = subst RangedBegun (made_of _ _ d h).2 r
  value_ranged Week c d v h r = let p = made_of _ (week_of first end c.time v) d h in subst RangedBegun p.2 (r.0, r.1, r.2, r.3, r.4, r.5, r.6, r.7, r.8)

  line_ranged : (k : YumaLine) (c d : Begun) (line : Text) → line_said first end k c line ≡ Ok d → RangedBegun c → RangedBegun d
  line_ranged k c d line h r = go (line_has k c d line h)
    where
      go : (c ≡ d) ⊎ ((value : Text) × (value_said first end k c value ≡ Ok d)) → RangedBegun d
      go (inl same) = subst RangedBegun same r
      go (inr p) = value_ranged k c d p.0 p.1 r

pub yuma_is_form : IsForm yuma_form
yuma_is_form = record {
  rest = Prn ∷ Health ∷ Eccentricity ∷ TimeInWeek ∷ Inclination ∷ RateOfRightAscension ∷ SqrtA ∷ RightAscension ∷ ArgumentOfPerigee ∷ MeanAnomaly ∷ Af0 ∷ Af1 ∷ Week ∷ [];
  lines = refl;
  first = refl;
  heads_follow = tt;
  lines_follow = (refl, (refl, (refl, (refl, (refl, (refl, (refl, (refl, (refl, (refl, (refl, (refl, (refl, (refl, tt))))))))))))));
  start_begins = refl;
  heads_begin_none = refl;
  rest_begins_none = refl;
  heads_name_none = refl;
  one_names = refl;
  keeps = keeps;
}

-- the week is the last line of a record, and its time is near the flight
week_near : (flight : Span) (c d : Begun) (part : List Text) → IsFlight flight → run yuma_form (unsigned_abs flight.first) (unsigned_abs flight.end) yuma_form.lines c part ≡ Ok d
    → AreNear d.values.toa_ms flight.first × AreNear d.values.toa_ms flight.end
week_near flight c d part f h =
    let first = unsigned_abs flight.first in
    let end = unsigned_abs flight.end in
    let l = run_last yuma_form first end (Title ∷ Prn ∷ Health ∷ Eccentricity ∷ TimeInWeek ∷ Inclination ∷ RateOfRightAscension ∷ SqrtA ∷ RightAscension ∷ ArgumentOfPerigee ∷ MeanAnomaly ∷ Af0 ∷ Af1 ∷ []) Week c d part h in
    let v = bind_then (labelled (label_of Week) l.1) (λ value. value_said first end Week l.0 value) d l.2 in
    let p = made_of _ (week_of first end l.0.time v.0) d v.2 in
    let w = bind_then (whole_value_in 0 9999 v.0) (λ week. toa_of first end l.0.time week) p.0 p.1 in
    subst (λ (b : Begun). AreNear b.values.toa_ms flight.first × AreNear b.values.toa_ms flight.end) p.2 (toa_near flight l.0.time w.0 p.0 f w.2)

nothing_ranged : RangedBegun nothing
unfolding ratio pair_ratio is_at_most pair_is_at_most
nothing_ranged =
    ((omega arith, omega arith), omega arith, record { canonical = canonical_zero; at_least = record { le = tt }; at_most = record { le = tt } }, record { canonical = canonical_least; at_least = record { le = tt }; at_most = record { le = tt } }, record { canonical = canonical_zero; at_least = record { le = tt }; at_most = record { le = tt } }, record { canonical = canonical_zero; at_least = record { le = tt }; at_most = record { le = tt } }, record { canonical = canonical_zero; at_least = record { le = tt }; at_most = record { le = tt } }, record { canonical = canonical_zero; at_least = record { le = tt }; at_most = record { le = tt } }, record { canonical = canonical_zero; at_least = record { le = tt }; at_most = record { le = tt } })

head_ranged : (first end : ℕ) (lines : List Text) (head : Begun) → run yuma_form first end [] nothing lines ≡ Ok head → nothing ≡ head
head_ranged first end [] head h = ok_is nothing head h
head_ranged first end (l ∷ ls) head h = cc

ranges_of : (r : AlmRecord) → Ranged r → IsAlmRecord r
ranges_of r h = record { prn = h.0; health = h.1; eccentricity = h.2; root = h.3; angles = inl (record { incl = h.4; rate = h.5; omega0 = h.6; perigee = h.7; m0 = h.8 }) }

pub yuma_is_ranged : IsRanged yuma_form
yuma_is_ranged = record {
  some = λ first end lines head h. subst (λ (b : Begun). SaysSome b.declared) (head_ranged first end lines head h) tt;
  each = λ flight head_lines part head d f h g.
      let first = unsigned_abs flight.first in
      let end = unsigned_abs flight.end in
      let begun = subst RangedBegun (head_ranged first end head_lines head h) nothing_ranged in
      in_range flight d.values (ranges_of d.values (run_holds yuma_form first end RangedBegun (line_ranged first end) yuma_form.lines head d part g begun)) (week_near flight head d part f g);
}
