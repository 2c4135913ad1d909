-- What forms tell of one satellite is so of the written sight.
use Rattle.std.specs.Prelude.{◌≡◌, ℕ, ℤ, pos, ◌^◌, ◌≤ℤ◌, Bool, true, false, refl}
use Rattle.fix_interval.specs.Ends.{Ends}
use Rattle.fix_interval.specs.Vectors.{VectorEnds}
use Rattle.whole_numbers.proofs.Integers.{≤ℤ_trans}
use Rattle.geom_laws.specs.Rows.{weighed_of}
use Rattle.site_laws.specs.Frames.{FrameEnds}
use Rattle.site_laws.specs.Sights.{DirectionEnds, SightEnds, visible, hidden, straddle, IsDirection, line_of, range_of, look_of}
use Rattle.verdict_laws.specs.Sights.{Sight, Visible, Hidden, Straddles}
use Rattle.case_laws.specs.SightOver.{sight_given}
use Rattle.time_forms.specs.Forms.{IsTime, least_of}
use Rattle.time_forms.specs.Operations.{fixed_of}
use Rattle.time_forms.proofs.Known.{fixed_holds}
use Rattle.time_forms.proofs.FormSpans.{holds_lo, least_low}
use Rattle.orbit_forms.specs.Positions.{VectorForm, VectorHolds}
use Rattle.geometry_forms.specs.Rows.{RowForm, RowHolds}
use Rattle.look_forms.specs.Frames.{FrameForm, FrameHolds}
use Rattle.look_forms.specs.Looks.{squares_form, range_form, line_form, LookTold, told_visible, told_hidden, not_told, TellsLook, look_told, direction_to, has_direction, direction_form, weighed_form}
use Rattle.look_forms.proofs.Lines.{line_held, range_held}
use Rattle.look_forms.proofs.Looks.{le_z_so, and_both, look_tells}
use Rattle.look_forms.proofs.Directions.{row_held}
use Rattle.verdict_forms.specs.Sights.{SightTold, SightHolds, with_direction, sight_form}

-- what is told of the look, and a row that holds the written one where there is a direction
shown : {h : ℕ} {d : ℤ} (told : LookTold) (has : Bool) (row : RowForm) (a : DirectionEnds) (k : Ends) (sight : SightEnds) → TellsLook told a sight → (has ≡ true → RowHolds h d row (weighed_of a.east a.north a.up k))
    → SightHolds h d (with_direction told has row) (sight_given k sight)
shown told_visible true row a k sight e p = rw e (p refl)
shown told_visible false row a k sight e p = tt
shown told_hidden has row a k sight e p = rw e refl
shown not_told has row a k sight e p = tt

-- the written range is 1 Mm at least where the forms have a direction
far_of : {h : ℕ} {d : ℤ} (f : FrameForm) (frame : FrameEnds) (fs : VectorForm) (sat : VectorEnds) → IsTime h d → has_direction (line_form f.position fs) ≡ true → FrameHolds h d f frame → VectorHolds h d fs sat
    → pos (2 ^ 38) ≤ℤ (range_of (line_of frame.position sat)).lo
far_of f frame fs sat t e v w =
    let both = and_both _ _ e in
    let range = range_held (line_form f.position fs) (line_of frame.position sat) t (le_z_so _ _ both.0) (line_held v.position w) in
    ≤ℤ_trans _ _ _ (le_z_so _ _ both.1) (least_low (range_form (line_form f.position fs)) (range_of (line_of frame.position sat)).lo t (holds_lo range))

-- where a look is told, by these forms or by those of a wider piece
pub known_held : {h : ℕ} {d : ℤ} (told : LookTold) (f : FrameForm) (frame : FrameEnds) (fs : VectorForm) (sat : VectorEnds) (mask k : Ends) → IsTime h d → k.lo ≤ℤ k.hi
    → TellsLook told (direction_to frame sat) (look_of frame sat mask) → FrameHolds h d f frame → VectorHolds h d fs sat
    → (pos (2 ^ 38) ≤ℤ (range_of (line_of frame.position sat)).lo → IsDirection (direction_to frame sat))
    → SightHolds h d (with_direction told (has_direction (line_form f.position fs)) (weighed_form (direction_form f (line_form f.position fs)) (fixed_of k))) (sight_given k (look_of frame sat mask))
known_held {h} {d} told f frame fs sat mask k t o tells v w meets =
    shown told (has_direction (line_form f.position fs)) (weighed_form (direction_form f (line_form f.position fs)) (fixed_of k)) (direction_to frame sat) k (look_of frame sat mask) tells
    (λ e. row_held f frame fs sat (fixed_of k) k t e (meets (far_of f frame fs sat t e v w)) v w (fixed_holds h d k o))

pub sight_held : {h : ℕ} {d : ℤ} (f : FrameForm) (frame : FrameEnds) (fs : VectorForm) (sat : VectorEnds) (mask k : Ends) → IsTime h d → mask.lo ≤ℤ mask.hi → k.lo ≤ℤ k.hi
    → FrameHolds h d f frame → VectorHolds h d fs sat
    → (pos (2 ^ 38) ≤ℤ (range_of (line_of frame.position sat)).lo → IsDirection (direction_to frame sat))
    → SightHolds h d (sight_form f fs mask k) (sight_given k (look_of frame sat mask))
unfolding sight_form
sight_held {h} {d} f frame fs sat mask k t i o v w meets =
    known_held (look_told f fs (fixed_of mask)) f frame fs sat mask k t o (look_tells f frame fs sat (fixed_of mask) mask t v w (fixed_holds h d mask i)) v w meets
