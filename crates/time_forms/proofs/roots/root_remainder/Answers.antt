use Rattle.std.proofs.Common.{rules, ap₂, ◌∙◌, ap, pos, ◌+ℤ◌, ◌*ℤ◌, unsigned_abs}
use mir.Syntax.{w128}
use mir.Val.{SFits}
use lib.Dec.{lit≤}
use Rattle.whole_numbers.specs.Rounding.{floor_of}
use Rattle.whole_numbers.proofs.Casts.{plain}
use Rattle.time_forms.proofs.Bits.{sum_and-plain}
use Rattle.time_forms.proofs.roots.root_remainder.Goals as goal

pub returns : goal.returns
returns c =
    let sq : SFits w128 c.squared.result = search rules in
    let db : SFits w128 c.double.result = search rules in
    sum_and-plain c.share.result c.share-2.result 6 (lit≤ tt) c.share.ensures.small c.share-2.ensures.small
    ∙ ap (λ z. z +ℤ pos 6) (ap₂ ◌+ℤ◌
    (c.share.ensures.value ∙ ap₂ (λ x y. floor_of x (unsigned_abs y) +ℤ pos 1) (plain c.ranges.remainder) (plain c.ranges.pair))
    (c.share-2.ensures.value ∙ ap₂ (λ x y. floor_of x (unsigned_abs y) +ℤ pos 1)
    (plain sq ∙ c.squared.ensures.value ∙ ap (λ x. x *ℤ x) (plain c.ranges.apart))
    (plain db ∙ c.double.ensures.value ∙ ap (λ x. pos 2 *ℤ x) (plain c.ranges.centre))))
