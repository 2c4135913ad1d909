use Rattle.std.proofs.Common.{◌+◌, ◌^◌}
use lib.Dec.{lit≤}
use Rattle.site_forms.proofs.Bounds.{wider_form}
use Rattle.site_forms.proofs.position.axis_distance.Goals as goal

pub mul-requires-clause-a_small : goal.mul-requires-clause-a_small
mul-requires-clause-a_small c = wider_form (2 ^ 58 + 2 ^ 58) (2 ^ 60) (lit≤ tt) (c.add.ensures.small (2 ^ 58) (2 ^ 58) c.requires.radius_small c.requires.height_small)
