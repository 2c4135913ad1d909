use Rattle.std.proofs.Common.{ap, ◌∙◌, Some}
use Rattle.std.specs.Option.{option_map}
use Rattle.time_forms.specs.Programs.{form}
use Rattle.angle_forms.specs.Pairs.{pair_form}
use Rattle.angle_forms.specs.Vectors.{vector_form}
use Rattle.site_forms.specs.Frames.{frame_form}
use Rattle.site_forms.proofs.FoundFrames.{same_frame, frame_at_none, frame_at_no_north, frame_at_no_up, frame_at_some}
use Rattle.site_forms.proofs.receiver.frame_at.Goals as goal

pub returns-in_err-position-clause-exact : goal.returns-in_err-position-clause-exact
returns-in_err-position-clause-exact c = ap (option_map frame_form) c.from_residual.ensures ∙ frame_at_none (form c.args.height) (pair_form c.args.lat) (pair_form c.args.lon) c.in_err-position.ensures.exact

pub returns-in_err-north-clause-exact : goal.returns-in_err-north-clause-exact
returns-in_err-north-clause-exact c =
    ap (option_map frame_form) c.from_residual-in_err-north.ensures
    ∙ frame_at_no_north (form c.args.height) (pair_form c.args.lat) (pair_form c.args.lon) (vector_form c.in_ok-position.position) c.in_ok-position.ensures.exact c.in_err-north.ensures.exact

pub returns-in_err-up-clause-exact : goal.returns-in_err-up-clause-exact
returns-in_err-up-clause-exact c =
    ap (option_map frame_form) c.from_residual-in_err-up.ensures
    ∙ frame_at_no_up (form c.args.height) (pair_form c.args.lat) (pair_form c.args.lon) (vector_form c.in_ok-position.position) (vector_form c.in_ok-north.north) c.in_ok-position.ensures.exact c.in_ok-north.ensures.exact c.in_err-up.ensures.exact

pub returns-clause-exact : goal.returns-clause-exact
returns-clause-exact c =
    ap Some (same_frame (pair_form c.args.lon) c.east.ensures.exact)
    ∙ frame_at_some (form c.args.height) (pair_form c.args.lat) (pair_form c.args.lon) (vector_form c.in_ok-position.position) (vector_form c.in_ok-north.north) (vector_form c.in_ok-up.up)
    c.in_ok-position.ensures.exact c.in_ok-north.ensures.exact c.in_ok-up.ensures.exact
