use Rattle.std.proofs.Common.{rules, ap, ap₂, ◌∙◌, ◌^◌, ◌+ℤ◌, ◌*ℤ◌, ◌≡◌}
use mir.Syntax.{w128}
use mir.Val.{SFits}
use lib.Dec.{lit≤}
use Rattle.whole_numbers.proofs.Casts.{plain}
use Rattle.time_forms.specs.Forms.{size}
use Rattle.time_forms.specs.Programs.{IsNumberWithin}
use Rattle.time_forms.proofs.Bits.{sum-plain, wider_bits}
use Rattle.time_forms.proofs.WideBounds.{size_bound}
use Rattle.time_forms.proofs.quotients.sway_of.Goals as goal

pub returns : goal.returns
returns c =
    let r : SFits w128 c.short_product.result = search rules in
    let a : SFits w128 c.abs.result = search rules in
    let e : c.abs-2.result ≡ size c.args.turning = c.abs-2.ensures.value ∙ ap size (plain c.ranges.turning) in
    let b : IsNumberWithin c.abs-2.result (2 ^ 125) = rw e (wider_bits (2 ^ 58) (2 ^ 125) (lit≤ tt) (size_bound c.args.turning (2 ^ 58) c.requires.turning_small)) in
    plain r ∙ c.short_product.ensures.value ∙ ap₂ ◌*ℤ◌ (plain a ∙ c.abs.ensures.value ∙ ap size (plain c.ranges.turn))
    (sum-plain c.abs-2.result c.args.remainder b (wider_bits (2 ^ 58) (2 ^ 125) (lit≤ tt) c.requires.remainder_small) ∙ ap (λ z. z +ℤ c.args.remainder) e)
