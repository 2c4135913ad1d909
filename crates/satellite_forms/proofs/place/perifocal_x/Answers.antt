use Rattle.std.proofs.Common.{◌+◌, ◌^◌}
use lib.Dec.{lit≤}
use Rattle.satellite_forms.proofs.Bounds.{wider_form}
use Rattle.satellite_forms.proofs.place.perifocal_x.Goals as goal

pub mul-requires-clause-b_small : goal.mul-requires-clause-b_small
mul-requires-clause-b_small c = wider_form (2 ^ 58 + 2 ^ 58) (2 ^ 60) (lit≤ tt) (c.sub.ensures.small (2 ^ 58) (2 ^ 58) c.requires.cosine c.requires.ratio)
