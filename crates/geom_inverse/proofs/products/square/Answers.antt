use Rattle.std.proofs.Common.{◌^◌, subst, sym}
use Rattle.fix_interval.specs.Ends.{Ends, IsInside}
use Rattle.fix_interval.specs.Ranges.{around}
use Rattle.geom_inverse.proofs.Spans.{short_inside, inside_iv, square_within}
use Rattle.geom_inverse.proofs.products.square.Goals as goal

pub returns-clause-small : goal.returns-clause-small
returns-clause-small c = inside_iv (subst (λ (t : Ends). IsInside t (around (2 ^ 88))) (sym c.wide_square.ensures) (square_within (2 ^ 44) (short_inside c.requires)))
