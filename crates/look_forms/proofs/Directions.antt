-- Directions and rows in forms hold the written ones at each time.
use Rattle.std.specs.Prelude.{◌≡◌, ℕ, ℤ, pos, neg_ℤ, ◌+◌, ◌^◌, ◌*ℤ◌, ◌≤ℤ◌, true}
use Rattle.std.specs.Int.{int_min, int_max}
use Rattle.std.proofs.Common.{arith}
use Rattle.std.proofs.lemmas.Int.{ints, clamps}
use Rattle.whole_numbers.proofs.Integers.{≤ℤ_trans, not_negative_natural}
use Rattle.whole_numbers.proofs.Products.{*ℤ_mono_right}
use Rattle.raim_model.specs.Geometry.{Axis, East, North, Up, Clock}
use Rattle.fix_interval.specs.Ends.{Ends}
use Rattle.fix_interval.specs.Bounds.{clamp_of}
use Rattle.fix_interval.specs.Quotients.{div_of}
use Rattle.fix_interval.specs.Products.{mul_of}
use Rattle.fix_interval.specs.Vectors.{VectorEnds}
use Rattle.geom_laws.specs.Rows.{part, weighed_of}
use Rattle.site_laws.specs.Frames.{FrameEnds}
use Rattle.site_laws.specs.Sights.{DirectionEnds, IsDirection, dot_of, range_of, line_of, share_of, shares_of, direction_of}
use Rattle.time_forms.specs.Forms.{Form, IsTime, Holds, least_of}
use Rattle.time_forms.specs.Operations.{mul_form}
use Rattle.time_forms.specs.QuotientForms.{div_form}
use Rattle.time_forms.proofs.Coarser.{mul_holds}
use Rattle.time_forms.proofs.FormQuotients.{div_holds}
use Rattle.orbit_forms.specs.Positions.{VectorForm, VectorHolds}
use Rattle.geometry_forms.specs.Rows.{form_part, RowHolds}
use Rattle.look_forms.specs.Frames.{FrameForm, FrameHolds, DirectionForm, DirectionHolds}
use Rattle.look_forms.specs.Looks.{line_form, dot_form, squares_form, range_form, direction_to, has_direction, direction_form, weighed_form}
use Rattle.look_forms.proofs.Lines.{line_held, dot_held, range_held}
use Rattle.look_forms.proofs.Looks.{le_z_so, and_both}

-- a part of an interval lies in what the interval lies in
pub clamp_held : {h : ℕ} {d : ℤ} (f : Form) (a : Ends) (m : ℤ) → (clamp_of a m).lo ≤ℤ (clamp_of a m).hi → Holds h d f a → Holds h d f (clamp_of a m)
unfolding clamp_of
clamp_held {h} {d} f a m o p = record {
  low = ≤ℤ_trans _ (pos h *ℤ a.lo) _ p.low (*ℤ_mono_right a.lo (int_max a.lo (neg_ℤ m)) (pos h) (not_negative_natural h) (omega (arith, ints, clamps)));
  ordered = o;
  high = ≤ℤ_trans _ (pos h *ℤ a.hi) _ (*ℤ_mono_right (int_min a.hi m) a.hi (pos h) (not_negative_natural h) (omega (arith, ints, clamps))) p.high;
}

pub share_held : {h : ℕ} {d : ℤ} (f g : Form) (part range : Ends) → IsTime h d → pos 1 ≤ℤ least_of g → (share_of part range).lo ≤ℤ (share_of part range).hi → Holds h d f part → Holds h d g range → Holds h d (div_form f g) (share_of part range)
unfolding share_of
share_held f g part range t some o p q = clamp_held (div_form f g) (div_of part range) (pos (2 ^ 38 + 1)) o (div_holds f g part range t some p q)

-- the direction
pub direction_held : {h : ℕ} {d : ℤ} (f : FrameForm) (frame : FrameEnds) (fl : VectorForm) (line : VectorEnds) → IsTime h d → pos 1 ≤ℤ least_of (range_form fl)
    → FrameHolds h d f frame → VectorHolds h d fl line → Holds h d (range_form fl) (range_of line) → IsDirection (direction_of frame line (range_of line) (dot_of frame.up line))
    → DirectionHolds h d (direction_form f fl) (direction_of frame line (range_of line) (dot_of frame.up line))
unfolding direction_form shares_of
direction_held f frame fl line t some v l p o = record {
  east = share_held (dot_form f.east fl) (range_form fl) (dot_of frame.east line) (range_of line) t some o.east (dot_held t v.east l) p;
  north = share_held (dot_form f.north fl) (range_form fl) (dot_of frame.north line) (range_of line) t some o.north (dot_held t v.north l) p;
  up = share_held (dot_form f.up fl) (range_form fl) (dot_of frame.up line) (range_of line) t some o.up (dot_held t v.up l) p;
}

-- a row, times its weight
pub weighed_held : {h : ℕ} {d : ℤ} (f : DirectionForm) (a : DirectionEnds) (fk : Form) (k : Ends) → IsTime h d → DirectionHolds h d f a → Holds h d fk k → RowHolds h d (weighed_form f fk) (weighed_of a.east a.north a.up k)
unfolding weighed_form weighed_of
weighed_held {h} {d} f a fk k t p q = record { parts = at }
  where
    at : (x : Axis) → Holds h d (form_part record { e = mul_form fk f.east; n = mul_form fk f.north; u = mul_form fk f.up; k = fk } x) (part record { e = mul_of k a.east; n = mul_of k a.north; u = mul_of k a.up; k = k } x)
    at East = mul_holds fk f.east k a.east t q p.east
    at North = mul_holds fk f.north k a.north t q p.north
    at Up = mul_holds fk f.up k a.up t q p.up
    at Clock = q

-- the row of a satellite whose line has a direction of forms
pub row_held : {h : ℕ} {d : ℤ} (f : FrameForm) (frame : FrameEnds) (fs : VectorForm) (sat : VectorEnds) (fk : Form) (k : Ends) → IsTime h d → has_direction (line_form f.position fs) ≡ true → IsDirection (direction_to frame sat)
    → FrameHolds h d f frame → VectorHolds h d fs sat → Holds h d fk k
    → RowHolds h d (weighed_form (direction_form f (line_form f.position fs)) fk) (weighed_of (direction_to frame sat).east (direction_to frame sat).north (direction_to frame sat).up k)
row_held f frame fs sat fk k t e o v w q =
    let both = and_both _ _ e in
    let line = line_held v.position w in
    let range = range_held (line_form f.position fs) (line_of frame.position sat) t (le_z_so _ _ both.0) line in
    weighed_held (direction_form f (line_form f.position fs)) (direction_to frame sat) fk k t
    (direction_held f frame (line_form f.position fs) (line_of frame.position sat) t (one (le_z_so _ _ both.1)) v line range o) q
  where
    one : {z : ℤ} → pos (2 ^ 38) ≤ℤ z → pos 1 ≤ℤ z
    one h = omega (arith, ints)
