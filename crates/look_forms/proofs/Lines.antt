-- The line of sight in forms holds the written one at each time.
use Rattle.std.specs.Prelude.{ℕ, ℤ, pos, ◌≤ℤ◌}
use Rattle.fix_interval.specs.Ends.{Ends}
use Rattle.fix_interval.specs.Vectors.{VectorEnds}
use Rattle.site_laws.specs.Sights.{line_of, dot_of, range_of}
use Rattle.site_laws.proofs.LookEncloses.{squares_of}
use Rattle.time_forms.specs.Forms.{Form, IsTime, Holds, least_of}
use Rattle.time_forms.proofs.FormRoots.{sqrt_holds}
use Rattle.orbit_forms.specs.Positions.{VectorForm, VectorHolds}
use Rattle.geometry_forms.proofs.Parts.{sum_held, difference_held, product_held, square_held, narrow_held}
use Rattle.look_forms.specs.Looks.{line_form, dot_form, squares_form, range_form}

pub line_held : {h : ℕ} {d : ℤ} {f g : VectorForm} {p s : VectorEnds} → VectorHolds h d f p → VectorHolds h d g s → VectorHolds h d (line_form f g) (line_of p s)
unfolding line_form line_of
line_held v w = record { x = difference_held w.x v.x; y = difference_held w.y v.y; z = difference_held w.z v.z }

pub dot_held : {h : ℕ} {d : ℤ} {f g : VectorForm} {v w : VectorEnds} → IsTime h d → VectorHolds h d f v → VectorHolds h d g w → Holds h d (dot_form f g) (dot_of v w)
unfolding dot_form dot_of
dot_held t p q = narrow_held t (sum_held (sum_held (product_held t p.x q.x) (product_held t p.y q.y)) (product_held t p.z q.z))

pub squares_held : {h : ℕ} {d : ℤ} {f : VectorForm} {v : VectorEnds} → IsTime h d → VectorHolds h d f v → Holds h d (squares_form f) (squares_of v)
unfolding squares_form
squares_held t p = sum_held (sum_held (square_held t p.x) (square_held t p.y)) (square_held t p.z)

pub range_held : {h : ℕ} {d : ℤ} (f : VectorForm) (v : VectorEnds) → IsTime h d → pos 1 ≤ℤ least_of (squares_form f) → VectorHolds h d f v → Holds h d (range_form f) (range_of v)
unfolding range_form range_of
range_held f v t some p = sqrt_holds (squares_form f) (squares_of v) t some (squares_held t p)
