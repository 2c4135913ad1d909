use Rattle.std.proofs.Common.{sym, ◌∙◌, ap, ap₂, subst}
use Rattle.raim_model.specs.Receiver.{ReceiverSolution}
use Rattle.fix_interval.specs.Intervals.{ends}
use Rattle.site_laws.specs.Frames.{frame_of, frame_at, position_of, east_of, north_of, up_of, FrameInside, widest_frame}
use Rattle.site_laws.proofs.FrameBounds.{frame_isotone, frame_bounds}
use Rattle.site_laws.proofs.FrameEncloses.{frame_encloses}
use Rattle.site_laws.proofs.FrameNarrow.{frame_narrow}
use Rattle.site_laws.proofs.Receivers.{has_receiver}
use Rattle.leg_place.specs.Places.{place_ends}
use Rattle.wgs_position.proofs.Parts.{same_frame}
use Rattle.wgs_position.proofs.receiver.frame.Goals as goal

pub returns-clause-exact : goal.returns-clause-exact
unfolding frame_of frame_at
returns-clause-exact c =
    let a = c.sines-lat.ensures.exact in
    let o = c.sines-lon.ensures.exact in
    same_frame
    (c.position.ensures ∙ ap₂ (position_of (ends c.args.place.now.height)) a o)
    (c.east.ensures ∙ ap east_of o)
    (c.north.ensures ∙ ap₂ north_of a o)
    (c.up.ensures ∙ ap₂ up_of a o)

pub returns-clause-frame : goal.returns-clause-frame
returns-clause-frame c = record { place = place_ends c.args.place.now; near_earth = c.requires; frame = returns-clause-exact c }

pub returns-clause-encloses : goal.returns-clause-encloses
returns-clause-encloses c N p l s = frame_encloses (returns-clause-exact c) c.requires N p l s

pub returns-clause-exists : goal.returns-clause-exists
returns-clause-exists c N p l = let s : ReceiverSolution N p = has_receiver N p in (s, frame_encloses (returns-clause-exact c) c.requires N p l s)

pub returns-clause-isotone : goal.returns-clause-isotone
returns-clause-isotone c wide n p = frame_isotone (returns-clause-exact c) wide n p

pub returns-clause-bound : goal.returns-clause-bound
returns-clause-bound c = subst (λ f. FrameInside f widest_frame) (sym (returns-clause-exact c)) (frame_bounds (place_ends c.args.place.now) c.requires)

pub returns-clause-narrow : goal.returns-clause-narrow
returns-clause-narrow c w = frame_narrow (returns-clause-exact c) c.requires w
