-- The sine and the cosine of a form hold those of what it holds.
use Rattle.std.specs.Prelude.{ℕ, ℤ, pos, ◌<◌, ◌^◌, refl, ◌+ℤ◌, ◌-ℤ◌, ◌*ℤ◌, ◌≤ℤ◌, [], ◌∷◌}
use Rattle.std.proofs.Common.{arith}
use Rattle.std.proofs.lemmas.Int.{ints}
use lib.Dec.{lit≤}
use Rattle.whole_numbers.proofs.Quote.{quote as quote_z}
use Rattle.whole_numbers.proofs.Certificates.{at_most_scaled, not_negative as not_negative_z}
use Rattle.whole_numbers.proofs.Integers.{≤ℤ_refl}
use Rattle.fractions.specs.Fraction.{Fraction, oneᶠ, ◌+ᶠ◌, ◌-ᶠ◌, ◌*ᶠ◌, neg, ◌≤ᶠ◌, IsNear}
use Rattle.fractions.proofs.Certificates.{at_most, not_negative}
use Rattle.fractions.proofs.Laws.{≤ᶠ_refl}
use Rattle.fractions.proofs.Quote.{quote}
use Rattle.raim_model.specs.Constants.{tau}
use Rattle.raim_model.specs.Level.{Level}
use Rattle.raim_model.specs.Sine.{IsSineCosine}
use Rattle.fix_interval.specs.Ends.{Ends}
use Rattle.fix_interval.specs.Lies.{Lies}
use Rattle.fix_interval.specs.Pairs.{PairEnds, PairLies}
use Rattle.fix_interval.specs.Ranges.{point}
use Rattle.series_laws.proofs.Pairs.{has_pair}
use Rattle.series_laws.proofs.Turns.{IsWithinOne, pair_within}
use Rattle.sine_lines.proofs.Lines.{sine_follows, cosine_follows}
use Rattle.trig_laws.specs.SinCos.{sin_cos_of}
use Rattle.trig_laws.proofs.Encloses.{sin_cos_encloses}
use Rattle.trig_laws.proofs.Narrow.{sin_cos_narrow}
use Rattle.time_forms.specs.Forms.{Form, IsTime, Holds, size}
use Rattle.time_forms.specs.Operations.{fixed_of, neg_form}
use Rattle.time_forms.proofs.FormSpans.{holds_lo}
use Rattle.orbit_forms.specs.Lines.{line_form, sine_slack, sine_form, cosine_form}
use Rattle.orbit_forms.proofs.Units.{units, part_of, line_at, near_line, units_mono}
use Rattle.orbit_forms.proofs.Lines.{line_form_near, fixed_near, neg_near, near_holds}

pub level : Level
level = record { terms = 100; enough = lit≤ tt }

-- what a form holds is at most twice the remainder wide
pub width_at_most : {h : ℕ} {d : ℤ} (f : Form) (a : Ends) → IsTime h d → Holds h d f a → (a.hi -ℤ a.lo) ≤ℤ (pos 2 *ℤ f.remainder)
width_at_most {h} {d} f a t p = apart h d f.centre f.turning f.remainder a.lo a.hi t.some p.low p.high
  where
    apart : (h : ℕ) (d c v r y z : ℤ) → 0 < h → (pos h *ℤ (c -ℤ r) +ℤ v *ℤ d) ≤ℤ (pos h *ℤ y) → (pos h *ℤ z) ≤ℤ (pos h *ℤ (c +ℤ r) +ℤ v *ℤ d) → (z -ℤ y) ≤ℤ (pos 2 *ℤ r)
    apart h d c v r y z some p q = at_most_scaled (pos h ∷ d ∷ c ∷ v ∷ r ∷ y ∷ z ∷ []) h some ((pos h *ℤ y -ℤ (pos h *ℤ (c -ℤ r) +ℤ v *ℤ d)) +ℤ ((pos h *ℤ (c +ℤ r) +ℤ v *ℤ d) -ℤ pos h *ℤ z)) (search not_negative_z) (search quote_z depth 20) tt

pub point_lies : (k : ℤ) → Lies (point k) 38 (units k)
point_lies k = record { low = ≤ᶠ_refl (units k); high = ≤ᶠ_refl (units k) }

-- the lower end of what is held, as turns
pub lowest_lies : (a : Ends) → a.lo ≤ℤ a.hi → Lies a 38 (units a.lo)
lowest_lies a o = record { low = ≤ᶠ_refl (units a.lo); high = units_mono o }

-- the slope of the cosine is the sine's negative
pub cosine_line : (t c s w e : Fraction) → IsNear t (c -ᶠ (tau *ᶠ s) *ᶠ w) e → IsNear t (c +ᶠ (tau *ᶠ neg s) *ᶠ w) e
cosine_line t c s w e n =
    let nl : t ≤ᶠ (c -ᶠ (tau *ᶠ s) *ᶠ w) +ᶠ e = n.low in
    let nh : c -ᶠ (tau *ᶠ s) *ᶠ w ≤ᶠ t +ᶠ e = n.high in
    record {
      low = at_most (t ∷ c ∷ s ∷ w ∷ e ∷ []) (((c -ᶠ (tau *ᶠ s) *ᶠ w) +ᶠ e) -ᶠ t) (search not_negative) (search quote depth 20) tt;
      high = at_most (t ∷ c ∷ s ∷ w ∷ e ∷ []) ((t +ᶠ e) -ᶠ (c -ᶠ (tau *ᶠ s) *ᶠ w)) (search not_negative) (search quote depth 20) tt;
    }

pub neg_one : (s : Fraction) → IsWithinOne s → IsWithinOne (neg s)
neg_one s p =
    let l : neg oneᶠ ≤ᶠ s = p.low in
    let h : s ≤ᶠ oneᶠ = p.high in
    record { low = at_most (s ∷ []) (oneᶠ -ᶠ s) (search not_negative) (search quote depth 20) tt; high = at_most (s ∷ []) (s -ᶠ neg oneᶠ) (search not_negative) (search quote depth 20) tt }

-- ---- a pair of the model at a place near the form lies near the lines about its centre
pub sine_near : {h : ℕ} {d : ℤ} (f : Form) (k : ℤ) (N : Level) (X t e : Fraction) → IsTime h d → size f.turning ≤ℤ pos (2 ^ 37) → IsNear X (line_at f (part_of d h)) (units f.remainder) → IsSineCosine N X t e
    → IsNear t (line_at (line_form (fixed_of (sin_cos_of (point f.centre)).sine) (fixed_of (sin_cos_of (point f.centre)).cosine) f k) (part_of d h)) (units (line_form (fixed_of (sin_cos_of (point f.centre)).sine) (fixed_of (sin_cos_of (point f.centre)).cosine) f k).remainder -ᶠ units k)
sine_near {h} {d} f k N X t e i small place q =
    let p : PairEnds = sin_cos_of (point f.centre) in
    let m = has_pair level (units f.centre) in
    let l : PairLies p m.sine m.cosine = sin_cos_encloses refl (≤ℤ_refl f.centre) level (units f.centre) m.sine m.cosine (point_lies f.centre) m.pair in
    let one = pair_within level (units f.centre) m.sine m.cosine m.pair in
    line_form_near (fixed_of p.sine) (fixed_of p.cosine) f k X t m.sine m.cosine i small place (fixed_near p.sine m.sine l.sine) (fixed_near p.cosine m.cosine l.cosine) one.1
    (sine_follows level N (units f.centre) X m.sine m.cosine t e m.pair q)

pub cosine_near : {h : ℕ} {d : ℤ} (f : Form) (k : ℤ) (N : Level) (X t e : Fraction) → IsTime h d → size f.turning ≤ℤ pos (2 ^ 37) → IsNear X (line_at f (part_of d h)) (units f.remainder) → IsSineCosine N X t e
    → IsNear e (line_at (line_form (fixed_of (sin_cos_of (point f.centre)).cosine) (neg_form (fixed_of (sin_cos_of (point f.centre)).sine)) f k) (part_of d h)) (units (line_form (fixed_of (sin_cos_of (point f.centre)).cosine) (neg_form (fixed_of (sin_cos_of (point f.centre)).sine)) f k).remainder -ᶠ units k)
cosine_near {h} {d} f k N X t e i small place q =
    let p : PairEnds = sin_cos_of (point f.centre) in
    let m = has_pair level (units f.centre) in
    let l : PairLies p m.sine m.cosine = sin_cos_encloses refl (≤ℤ_refl f.centre) level (units f.centre) m.sine m.cosine (point_lies f.centre) m.pair in
    let one = pair_within level (units f.centre) m.sine m.cosine m.pair in
    line_form_near (fixed_of p.cosine) (neg_form (fixed_of p.sine)) f k X e m.cosine (neg m.sine) i small place (fixed_near p.cosine m.cosine l.cosine) (neg_near (fixed_of p.sine) m.sine (fixed_near p.sine m.sine l.sine)) (neg_one m.sine one.0)
    (cosine_line e m.cosine m.sine (X -ᶠ units f.centre) _ (cosine_follows level N (units f.centre) X m.sine m.cosine t e m.pair q))

-- ---- the interval answer
slack_enough : (w z r : ℤ) → z ≤ℤ (pos 2 *ℤ r) → w ≤ℤ (pos 16 *ℤ z +ℤ pos 256) → w ≤ℤ (pos 32 *ℤ r +ℤ pos 256)
slack_enough w z r p q = omega (arith, ints, p, q)

pub sine_holds : {h : ℕ} {d : ℤ} (f : Form) (a : Ends) → IsTime h d → size f.turning ≤ℤ pos (2 ^ 37) → Holds h d f a → Holds h d (sine_form f) (sin_cos_of a).sine
unfolding sine_form
sine_holds {h} {d} f a i small p =
    let X : Fraction = units a.lo in
    let m = has_pair level X in
    let l : PairLies (sin_cos_of a) m.sine m.cosine = sin_cos_encloses refl p.ordered level X m.sine m.cosine (lowest_lies a p.ordered) m.pair in
    let w = sin_cos_narrow {a = a} refl p.ordered in
    let o = (Rattle.trig_laws.proofs.Encloses.sin_cos_full a p.ordered).sine.ordered in
    near_holds _ (sin_cos_of a).sine (sine_slack f) m.sine i l.sine o (slack_enough _ (a.hi -ℤ a.lo) f.remainder (width_at_most f a i p) w.0)
    (sine_near f (sine_slack f) level X m.sine m.cosine i small (near_line f a.lo i (holds_lo p)) m.pair)

pub cosine_holds : {h : ℕ} {d : ℤ} (f : Form) (a : Ends) → IsTime h d → size f.turning ≤ℤ pos (2 ^ 37) → Holds h d f a → Holds h d (cosine_form f) (sin_cos_of a).cosine
unfolding cosine_form
cosine_holds {h} {d} f a i small p =
    let X : Fraction = units a.lo in
    let m = has_pair level X in
    let l : PairLies (sin_cos_of a) m.sine m.cosine = sin_cos_encloses refl p.ordered level X m.sine m.cosine (lowest_lies a p.ordered) m.pair in
    let w = sin_cos_narrow {a = a} refl p.ordered in
    let o = (Rattle.trig_laws.proofs.Encloses.sin_cos_full a p.ordered).cosine.ordered in
    near_holds _ (sin_cos_of a).cosine (sine_slack f) m.cosine i l.cosine o (slack_enough _ (a.hi -ℤ a.lo) f.remainder (width_at_most f a i p) w.1)
    (cosine_near f (sine_slack f) level X m.sine m.cosine i small (near_line f a.lo i (holds_lo p)) m.pair)
