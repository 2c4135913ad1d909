-- The operations' lemmas with what they are about left to be read off.
use Rattle.std.specs.Prelude.{ℕ, ℤ, pos}
use Rattle.fix_interval.specs.Ends.{Ends}
use Rattle.fix_interval.specs.Ranges.{point}
use Rattle.fix_interval.specs.Sums.{add_of, sub_of, neg_of}
use Rattle.fix_interval.specs.Products.{mul_wide_of, sqr_wide_of, narrow76_of}
use Rattle.time_forms.specs.Forms.{Form, IsTime, Holds}
use Rattle.time_forms.specs.Operations.{bounded_of, add_form, sub_form, neg_form, wide_form, narrow_form}
use Rattle.time_forms.proofs.FormSums.{add_holds, sub_holds, neg_holds}
use Rattle.time_forms.proofs.FormProducts.{mul_wide_holds, sqr_wide_holds}
use Rattle.time_forms.proofs.Coarser.{narrow_holds}
use Rattle.time_forms.proofs.Known.{bounded_holds}

pub zero_held : {h : ℕ} {d : ℤ} → Holds h d (bounded_of 0) (point (pos 0))
zero_held {h} {d} = bounded_holds h d 0 (point (pos 0)) (record { le = tt }) (record { le = tt }) (record { le = tt })

pub sum_held : {h : ℕ} {d : ℤ} {f g : Form} {a b : Ends} → Holds h d f a → Holds h d g b → Holds h d (add_form f g) (add_of a b)
sum_held {h} {d} {f} {g} {a} {b} p q = add_holds f g a b p q

pub difference_held : {h : ℕ} {d : ℤ} {f g : Form} {a b : Ends} → Holds h d f a → Holds h d g b → Holds h d (sub_form f g) (sub_of a b)
difference_held {h} {d} {f} {g} {a} {b} p q = sub_holds f g a b p q

pub negative_held : {h : ℕ} {d : ℤ} {f : Form} {a : Ends} → Holds h d f a → Holds h d (neg_form f) (neg_of a)
negative_held {h} {d} {f} {a} p = neg_holds f a p

pub product_held : {h : ℕ} {d : ℤ} {f g : Form} {a b : Ends} → IsTime h d → Holds h d f a → Holds h d g b → Holds h d (wide_form f g) (mul_wide_of a b)
product_held {h} {d} {f} {g} {a} {b} t p q = mul_wide_holds f g a b t p q

pub square_held : {h : ℕ} {d : ℤ} {f : Form} {a : Ends} → IsTime h d → Holds h d f a → Holds h d (wide_form f f) (sqr_wide_of a)
square_held {h} {d} {f} {a} t p = sqr_wide_holds f a t p

pub narrow_held : {h : ℕ} {d : ℤ} {f : Form} {a : Ends} → IsTime h d → Holds h d f a → Holds h d (narrow_form f) (narrow76_of a)
narrow_held {h} {d} {f} {a} t p = narrow_holds f a t p
