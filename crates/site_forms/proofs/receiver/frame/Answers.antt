use Rattle.std.proofs.Common.{ap, ◌∙◌}
use Rattle.std.specs.Option.{option_map}
use Rattle.site_laws.specs.Frames.{frame_of}
use Rattle.angle_forms.specs.Pairs.{pair_form}
use Rattle.look_forms.specs.Frames.{FrameHolds}
use Rattle.site_forms.specs.Places.{place_form}
use Rattle.site_forms.specs.Frames.{frame_form, checked_frame}
use Rattle.site_forms.proofs.FoundFrames.{frame_none, frame_half, frame_some, if_frame}
use Rattle.site_forms.proofs.FrameLaws.{frame_holds}
use Rattle.site_forms.proofs.receiver.frame.Goals as goal

pub returns-in_err-lat-clause-exact : goal.returns-in_err-lat-clause-exact
returns-in_err-lat-clause-exact c = ap (option_map frame_form) c.from_residual.ensures ∙ frame_none (place_form c.args.place.now) c.in_err-lat.ensures.exact

pub returns-in_err-lon-clause-exact : goal.returns-in_err-lon-clause-exact
returns-in_err-lon-clause-exact c =
    ap (option_map frame_form) c.from_residual-in_err-lon.ensures ∙ frame_half (place_form c.args.place.now) (pair_form c.in_ok-lat.lat) c.in_ok-lat.ensures.exact c.in_err-lon.ensures.exact

pub returns-clause-exact : goal.returns-clause-exact
returns-clause-exact c =
    c.frame_at.ensures.exact ∙ frame_some (place_form c.args.place.now) (pair_form c.in_ok-lat.lat) (pair_form c.in_ok-lon.lon) c.in_ok-lat.ensures.exact c.in_ok-lon.ensures.exact

pub returns-clause-holds : goal.returns-clause-holds
returns-clause-holds c h d p t k =
    if_frame _ (checked_frame (place_form c.args.place.now)) (returns-clause-exact c) (λ f. FrameHolds h d f (frame_of p)) (λ f e. frame_holds (place_form c.args.place.now) f p t k e)
