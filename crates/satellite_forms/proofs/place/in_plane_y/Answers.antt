use Rattle.std.proofs.Common.{ap, ◌∙◌, ◌+◌, ◌^◌, Some}
use Rattle.std.specs.Option.{option_map}
use lib.Dec.{lit≤}
use Rattle.time_forms.specs.Programs.{form}
use Rattle.angle_forms.specs.Pairs.{pair_form}
use Rattle.satellite_forms.proofs.Bounds.{wider_form}
use Rattle.satellite_forms.proofs.Found.{in_plane_y_none, in_plane_y_half, in_plane_y_some}
use Rattle.satellite_forms.proofs.place.in_plane_y.Goals as goal

pub returns-in_err-along-clause-exact : goal.returns-in_err-along-clause-exact
returns-in_err-along-clause-exact c = ap (option_map form) c.from_residual.ensures ∙ in_plane_y_none (form c.args.x) (form c.args.y) (pair_form c.args.w) c.in_err-along.ensures.exact

pub returns-in_err-across-clause-exact : goal.returns-in_err-across-clause-exact
returns-in_err-across-clause-exact c = ap (option_map form) c.from_residual-in_err-across.ensures ∙ in_plane_y_half (form c.args.x) (form c.args.y) (pair_form c.args.w) (form c.in_ok-along.along) c.in_ok-along.ensures.exact c.in_err-across.ensures.exact

pub returns-clause-exact : goal.returns-clause-exact
returns-clause-exact c = ap Some c.add.ensures.exact ∙ in_plane_y_some (form c.args.x) (form c.args.y) (pair_form c.args.w) (form c.in_ok-along.along) (form c.in_ok-across.across) c.in_ok-along.ensures.exact c.in_ok-across.ensures.exact

pub returns-clause-small : goal.returns-clause-small
returns-clause-small c = wider_form (2 ^ 58 + 2 ^ 58) (2 ^ 59) (lit≤ tt) (c.add.ensures.small (2 ^ 58) (2 ^ 58) c.in_ok-along.ensures.small c.in_ok-across.ensures.small)
