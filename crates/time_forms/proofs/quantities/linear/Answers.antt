use Rattle.std.proofs.Common.{arith, ap, ap₂, sym, subst, ◌∙◌, ◌^◌, ℤ, pos, ◌+ℤ◌, ◌-ℤ◌, ◌*ℤ◌, ◌≤ℤ◌, ◌≡◌, unsigned_abs, to_z, of_z}
use Rattle.std.proofs.lemmas.Int.{ints}
use mir.Syntax.{w64, w128}
use lib.Dec.{lit≤}
use Rattle.fix_interval.specs.Intervals.{ends}
use Rattle.fix_interval.specs.Products.{scale_int_of}
use Rattle.time_forms.specs.Forms.{size, Holds}
use Rattle.time_forms.specs.Operations.{linear_of}
use Rattle.time_forms.specs.Programs.{IsNumberWithin}
use Rattle.time_forms.proofs.Bits.{read_64, read_128, wider_bits, form_within}
use Rattle.time_forms.proofs.FormSums.{same_form}
use Rattle.time_forms.proofs.Known.{linear_holds}
use Rattle.time_forms.proofs.quantities.linear.Goals as goal

-- a number, read again
read : (z : ℤ) → IsNumberWithin z (2 ^ 58) → to_z w64 (of_z w64 z) ≡ z
read z p = read_64 z (wider_bits (2 ^ 58) (2 ^ 62) (lit≤ tt) p)

longer : (z : ℤ) → IsNumberWithin z (2 ^ 59) → to_z w64 (of_z w64 z) ≡ z
longer z p = read_64 z (wider_bits (2 ^ 59) (2 ^ 62) (lit≤ tt) p)

product : (z : ℤ) → IsNumberWithin z (2 ^ 122) → to_z w128 (of_z w128 z) ≡ z
product z p = read_128 z (wider_bits (2 ^ 122) (2 ^ 126) (lit≤ tt) p)

natural : (z : ℤ) → pos 1 ≤ℤ z → z ≡ pos (unsigned_abs z)
natural z h = omega (arith, ints)

pub returns-clause-exact : goal.returns-clause-exact
unfolding linear_of
returns-clause-exact c =
    let k = read c.args.k c.requires.k_small in
    let h = read c.args.h c.requires.h_small ∙ natural c.args.h c.requires.h_positive in
    let m = read c.short_middle-middle.result c.short_middle-middle.ensures.small ∙ c.short_middle-middle.ensures.value in
    same_form
    (product _ c.product.ensures.small ∙ c.product.ensures.value ∙ ap₂ ◌*ℤ◌ m k)
    (product _ c.product-2.ensures.small ∙ c.product-2.ensures.value ∙ ap₂ ◌*ℤ◌ m h)
    (product _ c.product-3.ensures.small ∙ c.product-3.ensures.value ∙ ap₂ ◌*ℤ◌
    (longer c.half_width.result c.half_width.ensures.small ∙ c.half_width.ensures.value ∙ ap (λ z. c.args.e.hi -ℤ z) m)
    (longer c.farthest.result c.farthest.ensures.small ∙ c.farthest.ensures.value ∙ ap₂ (λ y z. size y +ℤ z) k h))

pub returns-clause-holds : goal.returns-clause-holds
returns-clause-holds c d t =
    subst (λ f. Holds (unsigned_abs c.args.h) d f (scale_int_of (ends c.args.e) (c.args.k +ℤ d) (c.args.k +ℤ d))) (sym (returns-clause-exact c)) (linear_holds (ends c.args.e) c.args.k t c.args.e.ordered)

pub returns-clause-small : goal.returns-clause-small
returns-clause-small c = form_within _ (2 ^ 122)
    (rw (product _ c.product.ensures.small) c.product.ensures.small)
    (rw (product _ c.product-2.ensures.small) c.product-2.ensures.small)
    (rw (product _ c.product-3.ensures.small) c.product-3.ensures.small)

pub product-requires-3-clause-x_small : goal.product-requires-3-clause-x_small
product-requires-3-clause-x_small c = rw (longer c.half_width.result c.half_width.ensures.small) (wider_bits (2 ^ 59) (2 ^ 62) (lit≤ tt) c.half_width.ensures.small)

pub product-requires-3-clause-y_small : goal.product-requires-3-clause-y_small
product-requires-3-clause-y_small c = rw (longer c.farthest.result c.farthest.ensures.small) (wider_bits (2 ^ 59) (2 ^ 60) (lit≤ tt) c.farthest.ensures.small)
