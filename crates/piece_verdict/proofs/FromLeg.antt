-- What is seen from the frame of a piece's leg is what is seen over the piece.
use Rattle.std.specs.Prelude.{◌≡◌, ℕ, ◌+◌, ◌<◌, ℤ, length, slice_index_or, Some}
use Rattle.std.proofs.Common.{ap, sym, ◌∙◌}
use Rattle.raim_model.specs.declared.almanac.AlmRecord.{AlmRecord}
use Rattle.raim_model.specs.declared.waypoint.Waypoint.{Waypoint}
use Rattle.raim_model.specs.Solution.{Case}
use Rattle.flight_laws.specs.Legs.{leg_at}
use Rattle.site_laws.specs.Places.{PlaceEnds, place_over_of}
use Rattle.site_laws.specs.Frames.{FrameEnds, frame_of}
use Rattle.case_laws.specs.SightOver.{mask_of, sight_on, sight_over}
use Rattle.piece_verdict.specs.Views.{seen_from}
use Rattle.piece_verdict.specs.LegLaws.{some_point}

-- from the frame of the place on the leg that is found
pub seen_from_leg : (c : Case) (first last : ℤ) (k : ℕ) → k + 1 < length c.route → (frame : FrameEnds) (box : PlaceEnds)
    → ((d : Waypoint) → leg_at c.route first ≡ Some record { start = slice_index_or c.route k d; stop = slice_index_or c.route (k + 1) d })
    → ((d : Waypoint) → box ≡ place_over_of (slice_index_or c.route k d) (slice_index_or c.route (k + 1) d) first last) → frame ≡ frame_of box
    → (rec : AlmRecord) → seen_from frame (mask_of c.limits) c.limits.weights.items first last rec ≡ sight_over c rec first last
seen_from_leg c first last k q frame box l b f rec =
    let d : Waypoint = some_point c.route k q in
    ap (λ x. seen_from x (mask_of c.limits) c.limits.weights.items first last rec) (f ∙ ap frame_of (b d)) ∙ ap (λ o. sight_on c.limits o rec first last) (sym (l d))
