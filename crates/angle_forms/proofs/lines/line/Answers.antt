use Rattle.std.proofs.Common.{rules, ap, ap₂, ◌∙◌, ℤ, ◌*◌, ◌^◌, ◌+ℤ◌, ◌*ℤ◌, ◌≡◌}
use lib.Dec.{lit≤}
use mir.Syntax.{w128}
use mir.Val.{SFits}
use Rattle.whole_numbers.specs.Rounding.{floor_of}
use Rattle.whole_numbers.proofs.Casts.{plain}
use Rattle.time_forms.specs.Forms.{size}
use Rattle.time_forms.specs.declared.wide_form.WideForm.{WideForm}
use Rattle.time_forms.specs.Programs.{short_of, wide, IsNumberWithin, IsFormWithin}
use Rattle.time_forms.proofs.Bits.{centre_within, remainder_within, wider_bits}
use Rattle.time_forms.proofs.WideBounds.{size_bound}
use Rattle.angle_forms.proofs.Fits.{product_bound}
use Rattle.time_forms.proofs.FormSums.{same_form}
use Rattle.angle_forms.proofs.lines.line.Goals as goal

slope_within : (y : WideForm) (r a : ℤ) → IsFormWithin (wide y) (2 ^ 60) → IsNumberWithin r (2 ^ 63) → a ≡ size r → IsNumberWithin (y.remainder *ℤ a) (2 ^ 60 * 2 ^ 63)
slope_within y r a p q e = rw e (product_bound y.remainder (size r) (2 ^ 60) (2 ^ 63) (remainder_within p) (size_bound r (2 ^ 63) q))

pub scaled-slope-requires : goal.scaled-slope-requires
scaled-slope-requires c =
    let yr : SFits w128 c.args.y.remainder = search rules in
    let a : SFits w128 c.abs.result = search rules in
    record { fits = rw (plain yr, plain a) (wider_bits (2 ^ 60 * 2 ^ 63) (2 ^ 126) (lit≤ tt) (slope_within c.args.y c.args.radians c.abs.result c.requires.y_small c.requires.radians_small (c.abs.ensures.value ∙ ap size (plain c.ranges.radians)))) }

pub scaled-requires : goal.scaled-requires
scaled-requires c =
    let yc : SFits w128 c.args.y.centre = search rules in
    record { fits = rw (plain yc, plain c.ranges.radians) (wider_bits (2 ^ 60 * 2 ^ 63) (2 ^ 126) (lit≤ tt) (product_bound c.args.y.centre c.args.radians (2 ^ 60) (2 ^ 63) (centre_within c.requires.y_small) c.requires.radians_small)) }

pub remainder_of-requires-clause-slope_small : goal.remainder_of-requires-clause-slope_small
remainder_of-requires-clause-slope_small c =
    let yr : SFits w128 c.args.y.remainder = search rules in
    let a : SFits w128 c.abs.result = search rules in
    let s : SFits w128 c.scaled-slope.result = search rules in
    rw (plain s) (c.scaled-slope.ensures.small (2 ^ 86) (rw (plain yr, plain a) (wider_bits (2 ^ 60 * 2 ^ 63) (2 ^ 86 * 2 ^ 38) (lit≤ tt) (slope_within c.args.y c.args.radians c.abs.result c.requires.y_small c.requires.radians_small (c.abs.ensures.value ∙ ap size (plain c.ranges.radians))))))

pub returns : goal.returns
returns c =
    let x = c.args.x in
    let y = c.args.y in
    let xc : SFits w128 x.centre = search rules in
    let xr : SFits w128 x.remainder = search rules in
    let yc : SFits w128 y.centre = search rules in
    let yr : SFits w128 y.remainder = search rules in
    let a : SFits w128 c.abs.result = search rules in
    let s : SFits w128 c.scaled-slope.result = search rules in
    let t : SFits w128 c.scaled.result = search rules in
    let r : SFits w128 c.remainder_of.result = search rules in
    c.in_64_bits.ensures.exact ∙ ap short_of (same_form (plain xc)
    (plain t ∙ c.scaled.ensures.value ∙ ap₂ (λ p q. floor_of (p *ℤ q) (2 ^ 38)) (plain yc) (plain c.ranges.radians))
    (plain r ∙ (rw (plain xr, plain s, plain c.ranges.missed) at c.remainder_of.ensures)
    ∙ ap (λ z. (x.remainder +ℤ z) +ℤ c.args.missed) (c.scaled-slope.ensures.value ∙ ap₂ (λ p q. floor_of (p *ℤ q) (2 ^ 38)) (plain yr) (plain a ∙ c.abs.ensures.value ∙ ap size (plain c.ranges.radians)))))
