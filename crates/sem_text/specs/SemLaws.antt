-- The lines of a SEM almanac are in their order, and what passes is in its range.
use Rattle.std.proofs.Common.{◌≡◌, ◌≤◌, ℕ, pos, neg_ℤ, true, false, List, [], ◌∷◌, Ok, refl, ap, subst, inr, arith, unsigned_abs, nat_lt}
use Rattle.fractions.specs.Fraction.{ratio, is_at_most, ◌≤ᶠ◌}
use Rattle.fractions.specs.Pair.{pair_ratio, pair_is_at_most}
use Rattle.fractions.proofs.Ratios.{ratio-same}
use Rattle.raim_model.specs.declared.TextWhy.TheVariants as why
use Rattle.raim_model.specs.declared.AlmRecord.{AlmRecord}
use Rattle.raim_model.specs.declared.Angle.{Angle}
use Rattle.raim_model.specs.declared.Dec.{Dec}
use Rattle.raim_model.specs.declared.Span.{Span}
use Rattle.raim_model.specs.Span.{IsFlight}
use Rattle.raim_model.specs.Decimal.{decimal, value_of, IsCanonical}
use Rattle.raim_model.specs.Ranges.{IsDecimalBetween}
use Rattle.raim_model.specs.AlmanacRanges.{IsAlmRecord, IsSemicircles, IsSemicirclesAbove}
use Rattle.text_lines.specs.Lines.{Text}
use Rattle.text_lines.specs.Words.{words_of, only_of, pair_of, triple_of}
use Rattle.text_lines.specs.Fields.{◌>>=◌, unless, or_else, any_whole, whole_in}
use Rattle.text_lines.proofs.FieldLemmas.{bind_then, ok_is, unless_then}
use Rattle.dec_text.specs.DecimalFields.{any_decimal, in_bounds}
use Rattle.dec_text.proofs.Within.{any_canonical, bounds_within}
use Rattle.almanac_fields.specs.Times.{whole_ms_of, toa_of}
use Rattle.almanac_fields.proofs.RangeLemmas.{whole_within, toa_near, AreNear}
use Rattle.almanac_draft.specs.declared.Begun.{Begun}
use Rattle.almanac_draft.specs.Forms.{IsForm}
use Rattle.almanac_draft.specs.Almanacs.{run}
use Rattle.almanac_draft.specs.Ranges.{IsRanged, SaysSome}
use Rattle.almanac_draft.proofs.Runs.{made_of}
use Rattle.almanac_draft.proofs.RangeLemmas.{run_holds, run_last, canonical_zero, canonical_least, in_range}
use Rattle.sem_text.specs.declared.line.SemLine.{SemLine}
use Rattle.sem_text.specs.declared.line.SemLine.TheVariants.{Count, WeekAndTime, Prn, Svn, Ura, EccentricityInclinationRate, SqrtARightAscensionPerigee, MeanAnomalyAndClock, Health, Configuration}
use Rattle.sem_text.specs.Lines.{is_prn, zero as no_dec, nothing, first_word_of, count_of, week_and_time_of, time_of_applicability_of, prn_of, three_decimals_of, decimals_in, angle_of, eccentricity_inclination_rate_of, sqrt_a_right_ascension_perigee_of, mean_anomaly_and_clock_of, health_of, line_said}
use Rattle.sem_text.specs.Sem.{sem_form}

-- a decimal between two others
abbrev Between : Dec → Dec → Dec → Type 0
Between low high d = IsDecimalBetween (value_of low) (value_of high) d

-- an angle in semicircles of at most 4 of them either way
abbrev Angles : Angle → Type 0
Angles a = IsSemicircles (value_of (decimal true 4 0)) (value_of (decimal false 4 0)) a

-- an angle of at most 4 semicircles either way
abbrev BetweenFours : Dec → Type 0
BetweenFours d = Between (decimal true 4 0) (decimal false 4 0) d

-- three decimals are in their one form
three_canonical : (words : List Text) (ds : Dec × Dec × Dec) → three_decimals_of words ≡ Ok ds → IsCanonical ds.0 × IsCanonical ds.1 × IsCanonical ds.2
three_canonical words ds h =
    let p = bind_then (or_else why.Label (triple_of words)) decimals_in ds h in
    let a = bind_then (any_decimal p.0.0) (λ x. any_decimal p.0.1 >>= (λ y. any_decimal p.0.2 >>= (λ z. Ok (x, y, z)))) ds p.2 in
    let b = bind_then (any_decimal p.0.1) (λ y. any_decimal p.0.2 >>= (λ z. Ok (a.0, y, z))) ds a.2 in
    let c = bind_then (any_decimal p.0.2) (λ z. Ok (a.0, b.0, z)) ds b.2 in
    subst (λ (t : Dec × Dec × Dec). IsCanonical t.0 × IsCanonical t.1 × IsCanonical t.2) (ok_is (a.0, b.0, c.0) ds c.2)
    (any_canonical p.0.0 a.0 a.1, any_canonical p.0.1 b.0 b.1, any_canonical p.0.2 c.0 c.1)

-- eccentricity, inclination and rate
first_elements : (words : List Text) (ds : Dec × Dec × Dec) → eccentricity_inclination_rate_of words ≡ Ok ds
    → Between no_dec (decimal false 3125 5) ds.0 × Between (decimal true 3 1) (decimal false 7 1) ds.1 × Between (decimal true 1 6) (decimal false 1 6) ds.2
first_elements words ds h =
    let p = bind_then (three_decimals_of words) _ ds h in
    let q = bind_then (in_bounds no_dec (decimal false 3125 5) p.0.0) _ ds p.2 in
    let r = bind_then (in_bounds (decimal true 3 1) (decimal false 7 1) p.0.1) _ ds q.2 in
    let s = bind_then (in_bounds (decimal true 1 6) (decimal false 1 6) p.0.2) _ ds r.2 in
    let t = three_canonical words p.0 p.1 in
    subst (λ (t : Dec × Dec × Dec). Between no_dec (decimal false 3125 5) t.0 × Between (decimal true 3 1) (decimal false 7 1) t.1 × Between (decimal true 1 6) (decimal false 1 6) t.2) (ok_is (q.0, r.0, s.0) ds s.2) (
      bounds_within no_dec (decimal false 3125 5) p.0.0 q.0 t.0 q.1,
      bounds_within (decimal true 3 1) (decimal false 7 1) p.0.1 r.0 t.1 r.1,
      bounds_within (decimal true 1 6) (decimal false 1 6) p.0.2 s.0 t.2 s.1,
    )

-- root of the axis, right ascension and argument of perigee
further_elements : (words : List Text) (ds : Dec × Dec × Dec) → sqrt_a_right_ascension_perigee_of words ≡ Ok ds → Between (decimal false 4000 0) (decimal false 7000 0) ds.0 × BetweenFours ds.1 × BetweenFours ds.2
further_elements words ds h =
    let p = bind_then (three_decimals_of words) _ ds h in
    let q = bind_then (in_bounds (decimal false 4000 0) (decimal false 7000 0) p.0.0) _ ds p.2 in
    let r = bind_then (angle_of p.0.1) _ ds q.2 in
    let s = bind_then (angle_of p.0.2) _ ds r.2 in
    let t = three_canonical words p.0 p.1 in
    subst (λ (t : Dec × Dec × Dec). Between (decimal false 4000 0) (decimal false 7000 0) t.0 × BetweenFours t.1 × BetweenFours t.2) (ok_is (q.0, r.0, s.0) ds s.2) (
      bounds_within (decimal false 4000 0) (decimal false 7000 0) p.0.0 q.0 t.0 q.1,
      bounds_within (decimal true 4 0) (decimal false 4 0) p.0.1 r.0 t.1 r.1,
      bounds_within (decimal true 4 0) (decimal false 4 0) p.0.2 s.0 t.2 s.1,
    )

mean_anomaly_within : (words : List Text) (d : Dec) → mean_anomaly_and_clock_of words ≡ Ok d → BetweenFours d
mean_anomaly_within words d h =
    let p = bind_then (three_decimals_of words) _ d h in
    bounds_within (decimal true 4 0) (decimal false 4 0) p.0.0 d (three_canonical words p.0 p.1).0 p.2

one_within : (low high : ℕ) (words : List Text) (n : ℕ) → (or_else why.Label (only_of words) >>= whole_in low high) ≡ Ok n → (low ≤ n) × (n ≤ high)
one_within low high words n h = let p = bind_then (or_else why.Label (only_of words)) (whole_in low high) n h in whole_within low high p.0 n p.2

offset_low : value_of (decimal true 3 1) ≡ ratio (neg_ℤ (pos 30)) 100
offset_low = ratio-same (neg_ℤ (pos 3)) (neg_ℤ (pos 30)) 10 100 (omega arith) (omega arith) refl

offset_high : value_of (decimal false 7 1) ≡ ratio (pos 70) 100
offset_high = ratio-same (pos 7) (pos 70) 10 100 (omega arith) (omega arith) refl

offset_within : (d : Dec) → Between (decimal true 3 1) (decimal false 7 1) d → IsDecimalBetween (ratio (neg_ℤ (pos 30)) 100) (ratio (pos 70) 100) d
offset_within d h = record { canonical = h.canonical; at_least = subst (λ x. x ≤ᶠ value_of d) offset_low h.at_least; at_most = subst (λ x. value_of d ≤ᶠ x) offset_high h.at_most }

count_within : (words : List Text) (n : ℕ) → count_of words ≡ Ok n → 1 ≤ n
count_within words n h = let p = bind_then (or_else why.Label (first_word_of words)) (whole_in 1 32) n h in (whole_within 1 32 p.0 n p.2).0

-- each value of a record is in its range
abbrev Ranged : AlmRecord → Type 0
Ranged r = ((1 ≤ r.prn) × (r.prn ≤ 32)) × (r.health ≤ 255) × Between no_dec (decimal false 3125 5) r.e × Between (decimal false 4000 0) (decimal false 7000 0) r.sqrt_a
    × IsSemicirclesAbove (ratio (neg_ℤ (pos 30)) 100) (ratio (pos 70) 100) r.incl × IsSemicircles (value_of (decimal true 1 6)) (value_of (decimal false 1 6)) r.rate × Angles r.omega0 × Angles r.perigee × Angles r.m0

-- and where the almanac says how many records it has, it says one at least
abbrev RangedBegun : Begun → Type 0
RangedBegun begun = Ranged begun.values × SaysSome begun.declared

abbrev prn_in : Begun → ℕ
prn_in begun = begun.values.prn

-- the time of applicability is near the flight
abbrev Near : Span → Begun → Type 0
Near flight begun = AreNear begun.values.toa_ms flight.first × AreNear begun.values.toa_ms flight.end

module _ (first end : ℕ) where
  keeps : (k : SemLine) (c d : Begun) (line : Text) → is_prn k ≡ false → line_said first end k c line ≡ Ok d → c.values.prn ≡ d.values.prn
  keeps Count c d line n h = ap prn_in (made_of _ _ d h).2
  keeps WeekAndTime c d line n h = ap prn_in (made_of _ _ d h).2
  keeps Prn c d line n h = cc
  keeps Svn c d line n h = ap prn_in (made_of _ _ d h).2
  keeps Ura c d line n h = ap prn_in (made_of _ _ d h).2
  keeps EccentricityInclinationRate c d line n h = ap prn_in (made_of _ _ d h).2
  keeps SqrtARightAscensionPerigee c d line n h = ap prn_in (made_of _ _ d h).2
  keeps MeanAnomalyAndClock c d line n h = ap prn_in (made_of _ _ d h).2
  keeps Health c d line n h = ap prn_in (made_of _ _ d h).2
  keeps Configuration c d line n h = ap prn_in (made_of _ _ d h).2

  line_ranged : (k : SemLine) (c d : Begun) (line : Text) → line_said first end k c line ≡ Ok d → RangedBegun c → RangedBegun d
  line_ranged Count c d l h r = let p = made_of _ (count_of (words_of l)) d h in subst RangedBegun p.2 (r.0, count_within (words_of l) p.0 p.1)
  line_ranged WeekAndTime c d l h r = subst RangedBegun (made_of _ _ d h).2 (r.0, r.1)
  line_ranged Prn c d l h ((p0, p1, p2, p3, p4, p5, p6, p7, p8), s) = let p = made_of _ (prn_of (words_of l)) d h in subst RangedBegun p.2 ((one_within 1 32 (words_of l) p.0 p.1, p1, p2, p3, p4, p5, p6, p7, p8), s)
  line_ranged Svn c d l h r = subst RangedBegun (made_of _ _ d h).2 r
  line_ranged Ura c d l h r = subst RangedBegun (made_of _ _ d h).2 r
  line_ranged EccentricityInclinationRate c d l h ((p0, p1, p2, p3, p4, p5, p6, p7, p8), s) =
      let p = made_of _ (eccentricity_inclination_rate_of (words_of l)) d h in
      let w = first_elements (words_of l) p.0 p.1 in
      subst RangedBegun p.2 ((p0, p1, w.0, p3, offset_within p.0.1 w.1, w.2, p6, p7, p8), s)
  line_ranged SqrtARightAscensionPerigee c d l h ((p0, p1, p2, p3, p4, p5, p6, p7, p8), s) =
      let p = made_of _ (sqrt_a_right_ascension_perigee_of (words_of l)) d h in
      let w = further_elements (words_of l) p.0 p.1 in
      subst RangedBegun p.2 ((p0, p1, p2, w.0, p4, p5, w.1, w.2, p8), s)
  line_ranged MeanAnomalyAndClock c d l h ((p0, p1, p2, p3, p4, p5, p6, p7, p8), s) = let p = made_of _ (mean_anomaly_and_clock_of (words_of l)) d h in subst RangedBegun p.2 ((p0, p1, p2, p3, p4, p5, p6, p7, mean_anomaly_within (words_of l) p.0 p.1), s)
  line_ranged Health c d l h ((p0, p1, p2, p3, p4, p5, p6, p7, p8), s) = let p = made_of _ (health_of (words_of l)) d h in subst RangedBegun p.2 ((p0, (one_within 0 255 (words_of l) p.0 p.1).1, p2, p3, p4, p5, p6, p7, p8), s)
  line_ranged Configuration c d l h r = subst RangedBegun (made_of _ _ d h).2 r

-- a time of applicability that the second line says is near both ends of the flight
time_near : (flight : Span) (c d : Begun) (line : Text) → IsFlight flight → line_said (unsigned_abs flight.first) (unsigned_abs flight.end) WeekAndTime c line ≡ Ok d → Near flight d
time_near flight c d line f h =
    let first = unsigned_abs flight.first in
    let end = unsigned_abs flight.end in
    let m = made_of _ (time_of_applicability_of first end (words_of line)) d h in
    let a = bind_then (or_else why.Label (pair_of (words_of line))) (λ pair. week_and_time_of first end pair.0 pair.1) m.0 m.1 in
    let p = bind_then (any_whole a.0.0) (λ week. any_decimal a.0.1 >>= (λ seconds. unless (nat_lt 9999 week) why.Range (whole_ms_of seconds >>= (λ time. toa_of first end time week)))) m.0 a.2 in
    let q = bind_then (any_decimal a.0.1) (λ seconds. unless (nat_lt 9999 p.0) why.Range (whole_ms_of seconds >>= (λ time. toa_of first end time p.0))) m.0 p.2 in
    let r = unless_then (nat_lt 9999 p.0) why.Range (whole_ms_of q.0 >>= (λ time. toa_of first end time p.0)) m.0 q.2 in
    let s = bind_then (whole_ms_of q.0) (λ time. toa_of first end time p.0) m.0 r.1 in
    subst (Near flight) m.2 (toa_near flight s.0 p.0 m.0 f s.2)

-- and the other lines leave it
near_kept : (flight : Span) (k : SemLine) (c d : Begun) (line : Text) → IsFlight flight → line_said (unsigned_abs flight.first) (unsigned_abs flight.end) k c line ≡ Ok d → Near flight c → Near flight d
near_kept flight WeekAndTime c d line f h n = time_near flight c d line f h
near_kept flight Count c d line f h n = subst (Near flight) (made_of _ _ d h).2 n
near_kept flight Prn c d line f h n = subst (Near flight) (made_of _ _ d h).2 n
near_kept flight Svn c d line f h n = subst (Near flight) (made_of _ _ d h).2 n
near_kept flight Ura c d line f h n = subst (Near flight) (made_of _ _ d h).2 n
near_kept flight EccentricityInclinationRate c d line f h n = subst (Near flight) (made_of _ _ d h).2 n
near_kept flight SqrtARightAscensionPerigee c d line f h n = subst (Near flight) (made_of _ _ d h).2 n
near_kept flight MeanAnomalyAndClock c d line f h n = subst (Near flight) (made_of _ _ d h).2 n
near_kept flight Health c d line f h n = subst (Near flight) (made_of _ _ d h).2 n
near_kept flight Configuration c d line f h n = subst (Near flight) (made_of _ _ d h).2 n

pub sem_is_form : IsForm sem_form
sem_is_form = record {
  rest = Svn ∷ Ura ∷ EccentricityInclinationRate ∷ SqrtARightAscensionPerigee ∷ MeanAnomalyAndClock ∷ Health ∷ Configuration ∷ [];
  lines = refl;
  first = refl;
  heads_follow = (refl, (refl, tt));
  lines_follow = (refl, (refl, (refl, (refl, (refl, (refl, (refl, (refl, tt))))))));
  start_begins = refl;
  heads_begin_none = refl;
  rest_begins_none = refl;
  heads_name_none = refl;
  one_names = refl;
  keeps = keeps;
}

nothing_ranged : RangedBegun nothing
unfolding ratio pair_ratio is_at_most pair_is_at_most
nothing_ranged =
    (((omega arith, omega arith), omega arith, record { canonical = canonical_zero; at_least = record { le = tt }; at_most = record { le = tt } }, record { canonical = canonical_least; at_least = record { le = tt }; at_most = record { le = tt } }, record { canonical = canonical_zero; at_least = record { le = tt }; at_most = record { le = tt } }, record { canonical = canonical_zero; at_least = record { le = tt }; at_most = record { le = tt } }, record { canonical = canonical_zero; at_least = record { le = tt }; at_most = record { le = tt } }, record { canonical = canonical_zero; at_least = record { le = tt }; at_most = record { le = tt } }, record { canonical = canonical_zero; at_least = record { le = tt }; at_most = record { le = tt } }), tt)

head_ranged : (first end : ℕ) (lines : List Text) (head : Begun) → run sem_form first end sem_form.heads nothing lines ≡ Ok head → RangedBegun head
head_ranged first end lines head h = run_holds sem_form first end RangedBegun (line_ranged first end) sem_form.heads nothing head lines h nothing_ranged

ranges_of : (r : AlmRecord) → Ranged r → IsAlmRecord r
ranges_of r h = record { prn = h.0; health = h.1; eccentricity = h.2; root = h.3; angles = inr (record { incl = h.4; rate = h.5; omega0 = h.6; perigee = h.7; m0 = h.8 }) }

pub sem_is_ranged : IsRanged sem_form
sem_is_ranged = record {
  some = λ first end lines head h. (head_ranged first end lines head h).1;
  each = λ flight head_lines part head d f h g.
      let first = unsigned_abs flight.first in
      let end = unsigned_abs flight.end in
      let l = run_last sem_form first end (Count ∷ []) WeekAndTime nothing head head_lines h in
      let near = time_near flight l.0 head l.1 f l.2 in
      let begun = run_holds sem_form first end RangedBegun (line_ranged first end) sem_form.lines head d part g (head_ranged first end head_lines head h) in
      in_range flight d.values (ranges_of d.values begun.0) (run_holds sem_form first end (Near flight) (λ k c d line h n. near_kept flight k c d line f h n) sem_form.lines head d part g near);
}
