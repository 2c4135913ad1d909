use Rattle.std.proofs.Common.{ap, ap₂, sym, subst, ◌∙◌, ℤ, ◌^◌, ◌*◌, ◌*ℤ◌, to_z, of_z, ◌≡◌}
use mir.Syntax.{w64}
use lib.Dec.{lit≤}
use Rattle.fix_interval.specs.Products.{scale_int_of}
use Rattle.time_forms.specs.Forms.{size, Holds}
use Rattle.time_forms.specs.Operations.{scale_form}
use Rattle.time_forms.specs.Programs.{form, IsNumberWithin, IsFormWithin}
use Rattle.time_forms.proofs.Bits.{centre_within, turning_within, remainder_within, read_64, read_128, read_within, wider_bits}
use Rattle.time_forms.proofs.FormSums.{same_form}
use Rattle.time_forms.proofs.Known.{scale_holds}
use Rattle.time_forms.proofs.WideBounds.{scale_within, size_bound}
use Rattle.time_forms.proofs.multiples.multiple.Goals as goal

-- a factor, read again
read : (z : ℤ) → IsNumberWithin z (2 ^ 60) → to_z w64 (of_z w64 z) ≡ z
read z p = read_64 z (wider_bits (2 ^ 60) (2 ^ 62) (lit≤ tt) p)

read_size : (z k : ℤ) → IsNumberWithin k (2 ^ 60) → z ≡ size (to_z w64 (of_z w64 k)) → to_z w64 (of_z w64 z) ≡ size k
read_size z k p e = ap (λ t. to_z w64 (of_z w64 t)) (e ∙ ap size (read k p)) ∙ read (size k) (size_bound k (2 ^ 60) p)

pub product-requires-clause-x_small : goal.product-requires-clause-x_small
product-requires-clause-x_small c = read_within c.args.a.centre (centre_within c.requires.a_small)

pub product-requires-3-clause-x_small : goal.product-requires-3-clause-x_small
product-requires-3-clause-x_small c = read_within c.args.a.remainder (remainder_within c.requires.a_small)

pub returns-clause-exact : goal.returns-clause-exact
unfolding scale_form
returns-clause-exact c =
    let k = c.requires.k_small in
    same_form
    (read_128 _ (wider_bits (2 ^ 122) (2 ^ 126) (lit≤ tt) c.product.ensures.small) ∙ c.product.ensures.value ∙ ap₂ ◌*ℤ◌ (read c.args.a.centre (centre_within c.requires.a_small)) (read c.args.k k))
    (read_128 _ (wider_bits (2 ^ 122) (2 ^ 126) (lit≤ tt) c.product-2.ensures.small) ∙ c.product-2.ensures.value ∙ ap₂ ◌*ℤ◌ (read c.args.a.turning (turning_within c.requires.a_small)) (read c.args.k k))
    (read_128 _ (wider_bits (2 ^ 122) (2 ^ 126) (lit≤ tt) c.product-3.ensures.small) ∙ c.product-3.ensures.value ∙ ap₂ ◌*ℤ◌ (read c.args.a.remainder (remainder_within c.requires.a_small)) (read_size c.abs.result c.args.k k c.abs.ensures.value))

pub returns-clause-holds : goal.returns-clause-holds
returns-clause-holds c h d x p = subst (λ f. Holds h d f (scale_int_of x c.args.k c.args.k)) (sym (returns-clause-exact c)) (scale_holds (form c.args.a) x c.args.k p)

pub returns-clause-small : goal.returns-clause-small
returns-clause-small c m n p q = subst (λ f. IsFormWithin f (m * n)) (sym (returns-clause-exact c)) (scale_within (form c.args.a) c.args.k m n p q)
