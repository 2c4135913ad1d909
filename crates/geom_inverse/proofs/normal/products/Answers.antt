use Rattle.geom_laws.specs.Gram.{product_of}
use Rattle.geom_inverse.proofs.RowSums.{same_sym}
use Rattle.geom_inverse.proofs.normal.products.Goals as goal

pub returns-clause-exact : goal.returns-clause-exact
unfolding product_of
returns-clause-exact c =
    same_sym
    c.square.ensures.exact
    c.small_product.ensures.exact
    c.small_product-2.ensures.exact
    c.small_product-3.ensures.exact
    c.square-2.ensures.exact
    c.small_product-4.ensures.exact
    c.small_product-5.ensures.exact
    c.square-3.ensures.exact
    c.small_product-6.ensures.exact
    c.square-4.ensures.exact
