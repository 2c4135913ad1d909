use Rattle.time_forms.proofs.FormProducts.{mul_wide_holds, sqr_wide_holds}
use Rattle.time_forms.proofs.Coarser.{coarser_holds, narrow_holds, mul_holds, sqr_holds}
use Rattle.time_forms.proofs.laws.products_of_forms_hold.Goals as goal

pub returns-clause-wide : goal.returns-clause-wide
returns-clause-wide c h d f g a b t p q = mul_wide_holds f g a b t p q

pub returns-clause-wide_square : goal.returns-clause-wide_square
returns-clause-wide_square c h d f a t p = sqr_wide_holds f a t p

pub returns-clause-coarser : goal.returns-clause-coarser
returns-clause-coarser c h d k f a some t p = coarser_holds k f a some t p

pub returns-clause-narrow : goal.returns-clause-narrow
returns-clause-narrow c h d f a t p = narrow_holds f a t p

pub returns-clause-product : goal.returns-clause-product
returns-clause-product c h d f g a b t p q = mul_holds f g a b t p q

pub returns-clause-square : goal.returns-clause-square
returns-clause-square c h d f a t p = sqr_holds f a t p
