use Rattle.geometry_forms.specs.Geometry.{product_form}
use Rattle.matrix_forms.proofs.RowSums.{same_matrix}
use Rattle.matrix_forms.proofs.normal.products.Goals as goal

pub returns-clause-exact : goal.returns-clause-exact
unfolding product_form
returns-clause-exact c = same_matrix c.product.ensures.exact c.product-2.ensures.exact c.product-3.ensures.exact c.product-4.ensures.exact c.product-5.ensures.exact c.product-6.ensures.exact c.product-7.ensures.exact c.product-8.ensures.exact c.product-9.ensures.exact c.product-10.ensures.exact
