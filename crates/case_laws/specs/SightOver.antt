-- What is seen of a satellite over a piece of time of a case's flight: from the place on the leg, by the place on the orbit, the mask
-- and the satellite's weight.
use Rattle.std.specs.Prelude.{ℕ, ℤ, ◌==◌, if◌then◌else◌, List, [], ◌∷◌, Some, None}
use Rattle.std.specs.declared.option.Option.{Option}
use Rattle.raim_model.specs.declared.almanac.AlmRecord.{AlmRecord}
use Rattle.raim_model.specs.declared.limits.Limits.{Limits}
use Rattle.raim_model.specs.declared.limits.Weight.{Weight}
use Rattle.raim_model.specs.Solution.{Case}
use Rattle.flight_laws.specs.Legs.{Leg, leg_at}
use Rattle.fix_interval.specs.Ends.{Ends}
use Rattle.fix_interval.specs.Decimals.{from_dec_of, from_dec_over_of}
use Rattle.fix_interval.specs.Ranges.{one_ends}
use Rattle.trig_laws.specs.SinCos.{sin_cos_of}
use Rattle.orbit_laws.specs.Positions.{position_of}
use Rattle.site_laws.specs.Places.{PlaceEnds, place_over_of}
use Rattle.site_laws.specs.Frames.{FrameEnds, frame_of}
use Rattle.site_laws.specs.Sights.{SightEnds, visible, hidden, straddle, look_of}
use Rattle.geom_laws.specs.Rows.{weighed_of}
use Rattle.verdict_laws.specs.Sights.{Sight, Visible, Hidden, Straddles}

-- the sine of the mask
unfoldable pub mask_of : Limits → Ends
mask_of limits = (sin_cos_of (from_dec_over_of limits.mask 360)).sine

-- where the flight is from first to last, on a leg
abbrev pub box_over : Leg → (first last : ℤ) → PlaceEnds
box_over leg first last = place_over_of leg.start leg.stop first last

-- the weight given for the satellite prn, rounded outward, or 1 where none is
abbrev pub weight_over : List Weight → ℕ → Ends
weight_over [] prn = one_ends
weight_over (w ∷ ws) prn = if w.prn == prn then from_dec_of w.k else weight_over ws prn

-- what a look says, where a visible satellite has its row times the weight k
abbrev pub sight_given : (k : Ends) → SightEnds → Sight
sight_given k (visible direction) = Visible (weighed_of direction.east direction.north direction.up k)
sight_given k hidden = Hidden
sight_given k straddle = Straddles

-- what is seen of the record's satellite from a frame
abbrev pub sight_from : Limits → FrameEnds → AlmRecord → (first last : ℤ) → Sight
sight_from limits frame rec first last = sight_given (weight_over limits.weights.items rec.prn) (look_of frame (position_of rec first last) (mask_of limits))

-- from the frame of the place on a leg; off the flight nothing is known
abbrev pub sight_on : Limits → Option Leg → AlmRecord → (first last : ℤ) → Sight
sight_on limits None rec first last = Straddles
sight_on limits (Some leg) rec first last = sight_from limits (frame_of (box_over leg first last)) rec first last

-- over a piece inside one root piece, on the leg of its first millisecond
abbrev pub sight_over : Case → AlmRecord → (first last : ℤ) → Sight
sight_over c rec first last = sight_on c.limits (leg_at c.route first) rec first last
