use Rattle.std.proofs.Common.{ap, ap₂, sym, subst, ◌∙◌, ◌+◌, ◌*◌, ℤ, pos, ◌^◌, ◌+ℤ◌, ◌*ℤ◌, to_z, of_z, ◌≡◌}
use mir.Syntax.{w64, w128}
use lib.Dec.{lit≤}
use Rattle.whole_numbers.specs.Rounding.{floor_of}
use Rattle.fix_interval.specs.Products.{mul_wide_of}
use Rattle.time_forms.specs.Forms.{size, Holds}
use Rattle.time_forms.specs.Operations.{wide_form}
use Rattle.time_forms.specs.Programs.{form, IsNumberWithin, IsFormWithin}
use Rattle.time_forms.proofs.FormSums.{same_form}
use Rattle.time_forms.proofs.Bits.{centre_within, turning_within, read_64, read_128, read_within, wider_bits, two-plain, two_fit, three-plain, three_fit}
use Rattle.time_forms.proofs.FormProducts.{mul_wide_holds}
use Rattle.time_forms.proofs.WideBounds.{wide_within}
use Rattle.time_forms.proofs.products.wide_product.Goals as goal

-- a factor, read again
factors : (x y : ℤ) → IsNumberWithin x (2 ^ 60) → IsNumberWithin y (2 ^ 60) → to_z w64 (of_z w64 x) *ℤ to_z w64 (of_z w64 y) ≡ x *ℤ y
factors x y p q = ap₂ ◌*ℤ◌ (read_64 x (wider_bits (2 ^ 60) (2 ^ 62) (lit≤ tt) p)) (read_64 y (wider_bits (2 ^ 60) (2 ^ 62) (lit≤ tt) q))

pub overflow_add-result : goal.overflow_add-result
overflow_add-result c = two_fit c.product.result c.half.result c.product.ensures.small c.half.ensures.small

pub product-requires-2-clause-x_small : goal.product-requires-2-clause-x_small
product-requires-2-clause-x_small c = read_within c.args.a.centre (centre_within c.requires.a_small)

pub product-requires-3-clause-x_small : goal.product-requires-3-clause-x_small
product-requires-3-clause-x_small c = read_within c.args.a.turning (turning_within c.requires.a_small)

pub overflow_add-result-2 : goal.overflow_add-result-2
overflow_add-result-2 c = two_fit c.product-2.result c.product-3.result c.product-2.ensures.small c.product-3.ensures.small

pub overflow_add-result-4 : goal.overflow_add-result-4
overflow_add-result-4 c = three_fit c.spread.result c.drift.result c.half_size.result c.spread.ensures.small c.drift.ensures.small c.half_size.ensures.small

pub returns-clause-exact : goal.returns-clause-exact
unfolding wide_form
returns-clause-exact c =
    let a = c.args.a in
    let b = c.args.b in
    let ac = centre_within c.requires.a_small in
    let av = turning_within c.requires.a_small in
    let bc = centre_within c.requires.b_small in
    let bv = turning_within c.requires.b_small in
    let t = c.product-turn.result in
    let turn : to_z w128 (of_z w128 t) ≡ a.turning *ℤ b.turning = read_128 t (wider_bits (2 ^ 122) (2 ^ 126) (lit≤ tt) c.product-turn.ensures.small) ∙ c.product-turn.ensures.value ∙ factors a.turning b.turning av bv in
    same_form
    (two-plain c.product.result c.half.result c.product.ensures.small c.half.ensures.small ∙ ap₂ ◌+ℤ◌ (c.product.ensures.value ∙ factors a.centre b.centre ac bc) (c.half.ensures.value ∙ ap (λ z. floor_of z 2) turn))
    (two-plain c.product-2.result c.product-3.result c.product-2.ensures.small c.product-3.ensures.small ∙ ap₂ ◌+ℤ◌ (c.product-2.ensures.value ∙ factors a.centre b.turning ac bv) (c.product-3.ensures.value ∙ factors a.turning b.centre av bc))
    (three-plain c.spread.result c.drift.result c.half_size.result c.spread.ensures.small c.drift.ensures.small c.half_size.ensures.small
    ∙ ap₂ ◌+ℤ◌ (ap₂ ◌+ℤ◌ c.spread.ensures.value c.drift.ensures.value) (c.half_size.ensures.value ∙ ap (λ z. floor_of (size z) 2 +ℤ pos 1) turn))

pub returns-clause-holds : goal.returns-clause-holds
returns-clause-holds c h d x y t p q = subst (λ f. Holds h d f (mul_wide_of x y)) (sym (returns-clause-exact c)) (mul_wide_holds (form c.args.a) (form c.args.b) x y t p q)

pub returns-clause-small : goal.returns-clause-small
returns-clause-small c m n p q = subst (λ f. IsFormWithin f (6 * (m * n) + 1)) (sym (returns-clause-exact c)) (wide_within (form c.args.a) (form c.args.b) m n p q)
