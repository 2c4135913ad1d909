use lib.Dec.{lit≤}
use Rattle.fix_interval.proofs.EndProducts.{mul_isotone}
use Rattle.fix_interval.specs.Ranges.{full_ends}
use Rattle.fix_interval.proofs.EndInsides.{inside_trans}
use Rattle.site_laws.proofs.FrameNarrow.{full_product}
use Rattle.wgs_position.proofs.Sizes.{product_within}
use Rattle.wgs_position.proofs.directions.product.Goals as goal

pub mul-requires : goal.mul-requires
mul-requires c = product_within c.args.a c.args.b 274877906944 274877906944 _ c.requires.a_sine c.requires.b_sine (lit≤ tt)

pub returns-clause-bound : goal.returns-clause-bound
returns-clause-bound c = inside_trans (mul_isotone c.mul.ensures.exact full_ends full_ends c.requires.a_sine c.requires.b_sine) full_product
