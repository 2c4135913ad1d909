use Rattle.std.proofs.Common.{◌*◌, ◌^◌}
use lib.Dec.{lit≤}
use Rattle.site_forms.proofs.Bounds.{wider_form}
use Rattle.site_forms.proofs.directions.east.Goals as goal

pub returns-clause-small : goal.returns-clause-small
returns-clause-small c = record {
  x = c.neg.ensures.small (2 ^ 58) c.requires.sine;
  y = c.requires.cosine;
  z = wider_form (2 * 1) (2 ^ 58) (lit≤ tt) (c.steady.ensures.small 1 record { low = record { le = tt }; high = record { le = tt } });
}
