use Rattle.std.proofs.Common.{arith, rules, ap, ap₂, ◌∙◌, ◌≡◌, ℤ, pos, neg_ℤ, ◌^◌, ◌+ℤ◌, ◌-ℤ◌, ◌*ℤ◌, ◌≤ℤ◌, unsigned_abs}
use Rattle.std.proofs.lemmas.Int.{ints}
use mir.Val.{SFits}
use mir.Syntax.{w128}
use lib.Dec.{lit≤}
use Rattle.whole_numbers.specs.Rounding.{floor_of}
use Rattle.whole_numbers.proofs.Casts.{plain}
use Rattle.fix_interval.specs.Ends.{Ends}
use Rattle.fix_interval.specs.Intervals.{ends}
use Rattle.time_forms.specs.Forms.{size}
use Rattle.time_forms.specs.Operations.{moving_of}
use Rattle.time_forms.specs.Programs.{form_from, IsNumberWithin}
use Rattle.time_forms.proofs.Bits.{lower_within, upper_within, form_within, wider_bits}
use Rattle.time_forms.proofs.FormSums.{same_form}
use Rattle.time_forms.proofs.WideBounds.{size_bound}
use Rattle.site_forms.specs.Places.{growth_of}
use Rattle.site_forms.proofs.leg.moving.Goals as goal

-- the form of the numbers that the program has
parts : (e g : Ends) (h m t r : ℤ) → pos 1 ≤ℤ h → m ≡ floor_of (e.lo +ℤ e.hi) 2 → t ≡ g.lo *ℤ h → r ≡ (e.hi -ℤ m) +ℤ size (g.hi -ℤ g.lo) *ℤ h → form_from m t r ≡ moving_of e g (unsigned_abs h)
unfolding moving_of
parts e g h m t r p em et er =
    same_form em (et ∙ ap (λ z. g.lo *ℤ z) (natural h p)) (er ∙ ap₂ (λ x z. (e.hi -ℤ x) +ℤ size (g.hi -ℤ g.lo) *ℤ z) em (natural h p))
  where
    natural : (z : ℤ) → pos 1 ≤ℤ z → z ≡ pos (unsigned_abs z)
    natural z k = omega (arith, ints)

-- how far two numbers are apart, and two such distances
grown : (y z g : ℤ) → IsNumberWithin y (2 ^ 39) → IsNumberWithin z (2 ^ 39) → g ≡ z -ℤ y → IsNumberWithin g (2 ^ 40)
grown y z g p q e = rw e record { low = low; high = high }
  where
    low : neg_ℤ (pos (2 ^ 40)) ≤ℤ (z -ℤ y)
    low = let a = p.high in let b = q.low in omega (arith, ints)

    high : (z -ℤ y) ≤ℤ pos (2 ^ 40)
    high = let a = p.low in let b = q.high in omega (arith, ints)

apart_within : (y z g : ℤ) → IsNumberWithin y (2 ^ 40) → IsNumberWithin z (2 ^ 40) → g ≡ z -ℤ y → IsNumberWithin (size g) (2 ^ 41)
apart_within y z g p q e = size_bound g (2 ^ 41) (rw e record { low = low; high = high })
  where
    low : neg_ℤ (pos (2 ^ 41)) ≤ℤ (z -ℤ y)
    low = let a = p.high in let b = q.low in omega (arith, ints)

    high : (z -ℤ y) ≤ℤ pos (2 ^ 41)
    high = let a = p.low in let b = q.high in omega (arith, ints)

pub over_half-requires-clause-growth_small : goal.over_half-requires-clause-growth_small
over_half-requires-clause-growth_small c =
    let a = c.args.a in
    let b = c.args.b in
    let al : SFits w128 a.lo = search rules in
    let bl : SFits w128 b.lo = search rules in
    let lf : SFits w128 c.growth-low.result = search rules in
    rw (plain lf) (wider_bits (2 ^ 40) (2 ^ 42) (lit≤ tt) (grown a.lo b.lo c.growth-low.result (lower_within a.lo a.hi (2 ^ 39) c.requires.a_small.low a.ordered c.requires.a_small.high) (lower_within b.lo b.hi (2 ^ 39) c.requires.b_small.low b.ordered c.requires.b_small.high)
    (rw (plain bl, plain al) at c.growth-low.ensures.value)))

pub over_half-requires-2-clause-growth_small : goal.over_half-requires-2-clause-growth_small
over_half-requires-2-clause-growth_small c =
    let a = c.args.a in
    let b = c.args.b in
    let al : SFits w128 a.lo = search rules in
    let bl : SFits w128 b.lo = search rules in
    let ah : SFits w128 a.hi = search rules in
    let bh : SFits w128 b.hi = search rules in
    let lf : SFits w128 c.growth-low.result = search rules in
    let hf : SFits w128 c.growth-high.result = search rules in
    let gf : SFits w128 c.growth.result = search rules in
    let pf : SFits w128 c.abs-apart.result = search rules in
    let low = grown a.lo b.lo c.growth-low.result (lower_within a.lo a.hi (2 ^ 39) c.requires.a_small.low a.ordered c.requires.a_small.high) (lower_within b.lo b.hi (2 ^ 39) c.requires.b_small.low b.ordered c.requires.b_small.high)
    (rw (plain bl, plain al) at c.growth-low.ensures.value) in
    let high = grown a.hi b.hi c.growth-high.result (upper_within a.lo a.hi (2 ^ 39) c.requires.a_small.low a.ordered c.requires.a_small.high) (upper_within b.lo b.hi (2 ^ 39) c.requires.b_small.low b.ordered c.requires.b_small.high)
    (rw (plain bh, plain ah) at c.growth-high.ensures.value) in
    rw (plain pf ∙ c.abs-apart.ensures.value ∙ ap size (plain gf)) (wider_bits (2 ^ 41) (2 ^ 42) (lit≤ tt) (apart_within c.growth-low.result c.growth-high.result c.growth.result low high (rw (plain hf, plain lf) at c.growth.ensures.value)))

pub spread-requires-clause-high_small : goal.spread-requires-clause-high_small
spread-requires-clause-high_small c =
    let e = c.args.e in
    let eh : SFits w128 e.hi = search rules in
    rw (plain eh) (upper_within e.lo e.hi (2 ^ 67) c.requires.e_small.low e.ordered c.requires.e_small.high)

pub returns-clause-exact : goal.returns-clause-exact
returns-clause-exact c =
    let e = c.args.e in
    let a = c.args.a in
    let b = c.args.b in
    let h = c.args.half in
    let al : SFits w128 a.lo = search rules in
    let bl : SFits w128 b.lo = search rules in
    let ah : SFits w128 a.hi = search rules in
    let bh : SFits w128 b.hi = search rules in
    let eh : SFits w128 e.hi = search rules in
    let mf : SFits w128 c.middle_of-middle.result = search rules in
    let lf : SFits w128 c.growth-low.result = search rules in
    let hf : SFits w128 c.growth-high.result = search rules in
    let gf : SFits w128 c.growth.result = search rules in
    let pf : SFits w128 c.abs-apart.result = search rules in
    let tf : SFits w128 c.over_half.result = search rules in
    let of : SFits w128 c.over_half-2.result = search rules in
    let rf : SFits w128 c.spread.result = search rules in
    let low : c.growth-low.result ≡ b.lo -ℤ a.lo = rw (plain bl, plain al) at c.growth-low.ensures.value in
    let high : c.growth-high.result ≡ b.hi -ℤ a.hi = rw (plain bh, plain ah) at c.growth-high.ensures.value in
    let apart : c.abs-apart.result ≡ size ((b.hi -ℤ a.hi) -ℤ (b.lo -ℤ a.lo)) = c.abs-apart.ensures.value ∙ ap size (plain gf ∙ (rw (plain hf, plain lf) at c.growth.ensures.value) ∙ ap₂ ◌-ℤ◌ high low) in
    let turning : c.over_half.result ≡ (b.lo -ℤ a.lo) *ℤ h = (rw (plain lf, plain c.ranges.half) at c.over_half.ensures.value) ∙ ap (λ z. z *ℤ h) low in
    let wide : c.over_half-2.result ≡ size ((b.hi -ℤ a.hi) -ℤ (b.lo -ℤ a.lo)) *ℤ h = (rw (plain pf, plain c.ranges.half) at c.over_half-2.ensures.value) ∙ ap (λ z. z *ℤ h) apart in
    let remainder : c.spread.result ≡ (e.hi -ℤ c.middle_of-middle.result) +ℤ size ((b.hi -ℤ a.hi) -ℤ (b.lo -ℤ a.lo)) *ℤ h =
    (rw (plain eh, plain mf, plain of) at c.spread.ensures.value) ∙ ap (λ z. (e.hi -ℤ c.middle_of-middle.result) +ℤ z) wide in
    same_form (plain mf) (plain tf) (plain rf)
    ∙ parts (ends e) (growth_of (ends a) (ends b)) h c.middle_of-middle.result c.over_half.result c.spread.result c.requires.half_positive c.middle_of-middle.ensures.value turning remainder

pub returns-clause-small : goal.returns-clause-small
returns-clause-small c =
    let mf : SFits w128 c.middle_of-middle.result = search rules in
    let tf : SFits w128 c.over_half.result = search rules in
    let rf : SFits w128 c.spread.result = search rules in
    form_within _ (2 ^ 83) (rw (plain mf) (wider_bits (2 ^ 67) (2 ^ 83) (lit≤ tt) c.middle_of-middle.ensures.small)) (rw (plain tf) (wider_bits (2 ^ 82) (2 ^ 83) (lit≤ tt) c.over_half.ensures.small)) (rw (plain rf) c.spread.ensures.small)
