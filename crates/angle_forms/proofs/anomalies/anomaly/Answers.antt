use Rattle.std.proofs.Common.{rules, ap, ap₂, ◌∙◌, ℤ, pos, ◌^◌, ◌+ℤ◌, ◌-ℤ◌, ◌*ℤ◌, ◌≡◌, unsigned_abs}
use mir.Syntax.{w128}
use mir.Val.{SFits}
use Rattle.whole_numbers.specs.Rounding.{floor_of}
use Rattle.whole_numbers.proofs.Casts.{plain}
use Rattle.fix_interval.specs.Ends.{Ends}
use Rattle.fix_interval.specs.Intervals.{ends}
use Rattle.fix_interval.specs.Ranges.{point}
use Rattle.trig_laws.specs.SinCos.{sin_cos_of}
use Rattle.time_forms.specs.Forms.{Form, size}
use Rattle.time_forms.specs.Operations.{fixed_of}
use Rattle.time_forms.specs.Programs.{form_from, short_of, wide}
use Rattle.time_forms.proofs.FormSums.{same_form}
use Rattle.orbit_forms.specs.Lines.{radians_of}
use Rattle.orbit_forms.specs.Anomalies.{anomaly_at, mean_bend_of, anomaly_form}
use Rattle.angle_forms.proofs.anomalies.anomaly.Goals as goal

-- the form of the numbers that the program has
parts : (m : Form) (eps : Ends) (u r k s z q b : ℤ) → u ≡ (anomaly_at m eps).centre → r ≡ (anomaly_at m eps).remainder → k ≡ (fixed_of (sin_cos_of (point u)).cosine).centre
    → s ≡ pos (2 ^ 38) -ℤ floor_of (k *ℤ radians_of eps.lo) (2 ^ 38) → z ≡ (m.remainder +ℤ pos 2 *ℤ r) +ℤ pos 10 → q ≡ ((size m.turning +ℤ m.remainder) +ℤ pos 2 *ℤ r) +ℤ pos 1 → b ≡ mean_bend_of eps.lo q
    → form_from u (floor_of (m.turning *ℤ pos (2 ^ 38)) (unsigned_abs s)) (((z +ℤ floor_of z 8) +ℤ pos 1) +ℤ b) ≡ anomaly_form m eps
unfolding anomaly_form
parts m eps u r k s z q b eu er ek es ez eq eb =
    let k' = ek ∙ ap (λ y. (fixed_of (sin_cos_of (point y)).cosine).centre) eu in
    let s' = es ∙ ap (λ y. pos (2 ^ 38) -ℤ floor_of (y *ℤ radians_of eps.lo) (2 ^ 38)) k' in
    let z' = ez ∙ ap (λ y. (m.remainder +ℤ pos 2 *ℤ y) +ℤ pos 10) er in
    let q' = eq ∙ ap (λ y. ((size m.turning +ℤ m.remainder) +ℤ pos 2 *ℤ y) +ℤ pos 1) er in
    let b' = eb ∙ ap (mean_bend_of eps.lo) q' in
    same_form eu (ap (λ y. floor_of (m.turning *ℤ pos (2 ^ 38)) (unsigned_abs y)) s') (ap₂ (λ x y. ((x +ℤ floor_of x 8) +ℤ pos 1) +ℤ y) z' b')

pub returns : goal.returns
returns c =
    let m = c.args.m in
    let at = c.args.at in
    let mt : SFits w128 m.turning = search rules in
    let mr : SFits w128 m.remainder = search rules in
    let ac : SFits w128 at.centre = search rules in
    let ar : SFits w128 at.remainder = search rules in
    let el : SFits w128 c.args.eps.lo = search rules in
    let s : SFits w128 c.slope-slope.result = search rules in
    let q : SFits w128 c.reach-reach.result = search rules in
    let t : SFits w128 c.turning_of.result = search rules in
    let z : SFits w128 c.missed.result = search rules in
    let b : SFits w128 c.mean_bend.result = search rules in
    let r : SFits w128 c.remainder_of.result = search rules in
    c.in_64_bits.ensures.exact ∙ ap short_of (same_form (plain ac)
    (plain t ∙ (rw (plain mt, plain s) at c.turning_of.ensures))
    (plain r ∙ (rw (plain z, plain b) at c.remainder_of.ensures))
    ∙ parts (wide m) (ends c.args.eps) at.centre at.remainder c.args.cosine c.slope-slope.result c.missed.result c.reach-reach.result c.mean_bend.result
    (ap (λ (f : Form). f.centre) c.requires.at) (ap (λ (f : Form). f.remainder) c.requires.at) c.requires.cosine
    (rw (plain c.ranges.cosine, plain el) at c.slope-slope.ensures.value)
    (rw (plain mr, plain ar) at c.missed.ensures.value)
    (rw (plain mt, plain mr, plain ar) at c.reach-reach.ensures.value)
    (rw (plain el, plain q) at c.mean_bend.ensures.value))
