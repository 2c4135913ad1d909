use Rattle.std.specs.Prelude.{pos}
use lib.Dec.{lit≤}
use Rattle.fix_interval.proofs.EndProducts.{mul_isotone}
use Rattle.fix_interval.specs.Ranges.{full_ends}
use Rattle.fix_interval.proofs.EndInsides.{inside_trans}
use Rattle.site_laws.specs.Frames.{within}
use Rattle.site_laws.proofs.FrameNarrow.{widest_distance}
use Rattle.wgs_position.proofs.Sizes.{product_within}
use Rattle.wgs_position.proofs.position.part.Goals as goal

pub mul-requires : goal.mul-requires
mul-requires c = product_within c.args.length c.args.sine 1767353238359 274877906944 _ c.requires.length c.requires.sine (lit≤ tt)

pub returns-clause-bound : goal.returns-clause-bound
returns-clause-bound c = inside_trans (mul_isotone c.mul.ensures.exact (within (pos 1767353238359)) full_ends c.requires.length c.requires.sine) widest_distance
