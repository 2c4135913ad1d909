use Rattle.std.proofs.Common.{ap, ◌∙◌, refl}
use Rattle.fix_interval.specs.Sums.{neg_of}
use Rattle.site_laws.specs.Frames.{north_of}
use Rattle.wgs_position.proofs.Parts.{same_vector}
use Rattle.wgs_position.proofs.directions.north.Goals as goal

pub returns : goal.returns
unfolding north_of
returns c = same_vector (c.negative.ensures ∙ ap neg_of c.product.ensures.exact) (c.negative-2.ensures ∙ ap neg_of c.product-2.ensures.exact) refl
