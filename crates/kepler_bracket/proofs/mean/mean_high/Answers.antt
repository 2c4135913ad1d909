use Rattle.std.proofs.Common.{rules, arith, ap, sym, ◌∙◌, ◌≡◌, ℤ, pos, cond, ◌-ℤ◌, ◌*ℤ◌, ◌^◌, true, false}
use mir.Val.{SFits}
use mir.Syntax.{w64}
use Rattle.std.proofs.lemmas.Int.{ints}
use lib.Signed.{le_z}
use Rattle.whole_numbers.specs.Rounding.{floor_of}
use Rattle.trig_laws.specs.SinCos.{sin_cos_of}
use Rattle.trig_enclose.proofs.Casts.{plain}
use Rattle.kepler_laws.proofs.Means.{mean-high}
use Rattle.kepler_bracket.proofs.mean.mean_high.Goals as goal
use Rattle.fix_interval.specs.Ranges.{point}

pub returns-then-s-ge0-clause-value : goal.returns-then-s-ge0-clause-value
returns-then-s-ge0-clause-value c =
    let k : SFits w64 c.args.k = search rules in
    let f : SFits w64 c.sine_low-s.result = search rules in
    let r : SFits w64 c.product_down.result = search rules in
    let m : SFits w64 (c.args.k -ℤ c.product_down.result) = omega (arith, ints) in
    let s : ℤ = c.sine_low-s.result in
    let l = c.args.eps.lo in
    let h = c.args.eps.hi in
    let sign : le_z (pos 0) s ≡ true = rw (plain f) at c.if-s-ge0.true in
    let e : s ≡ (sin_cos_of (point c.args.k)).sine.lo = c.sine_low-s.ensures.exact ∙ ap (λ z. (sin_cos_of (point z)).sine.lo) (plain k) in
    let p = c.product_down.ensures.value ∙ ap (λ z. floor_of (z *ℤ pos c.args.eps.lo) (2 ^ 38)) (plain f) in
    rw (plain k, plain r, plain m) (ap (λ z. c.args.k -ℤ z) p ∙ sym (mean-high l h c.args.k s c.args.eps.ordered e ∙ ap (λ b. c.args.k -ℤ floor_of (s *ℤ pos (cond b l h)) (2 ^ 38)) sign))

pub returns-else-s-ge0-clause-value : goal.returns-else-s-ge0-clause-value
returns-else-s-ge0-clause-value c =
    let k : SFits w64 c.args.k = search rules in
    let f : SFits w64 c.sine_low-s.result = search rules in
    let r : SFits w64 c.product_down-else-s-ge0.result = search rules in
    let m : SFits w64 (c.args.k -ℤ c.product_down-else-s-ge0.result) = omega (arith, ints) in
    let s : ℤ = c.sine_low-s.result in
    let l = c.args.eps.lo in
    let h = c.args.eps.hi in
    let sign : le_z (pos 0) s ≡ false = rw (plain f) at c.if-s-ge0.false in
    let e : s ≡ (sin_cos_of (point c.args.k)).sine.lo = c.sine_low-s.ensures.exact ∙ ap (λ z. (sin_cos_of (point z)).sine.lo) (plain k) in
    let p = c.product_down-else-s-ge0.ensures.value ∙ ap (λ z. floor_of (z *ℤ pos c.args.eps.hi) (2 ^ 38)) (plain f) in
    rw (plain k, plain r, plain m) (ap (λ z. c.args.k -ℤ z) p ∙ sym (mean-high l h c.args.k s c.args.eps.ordered e ∙ ap (λ b. c.args.k -ℤ floor_of (s *ℤ pos (cond b l h)) (2 ^ 38)) sign))
