-- Lines, ranges and parts grow with the frame and the satellite, so that those of the widest ones bound them all.
use Rattle.std.specs.Prelude.{◌^◌, ◌≡◌, pos, ◌+◌, ◌-◌, ◌≤ℤ◌, refl}
use Rattle.std.proofs.Common.{arith, ap, ◌∙◌, subst}
use Rattle.std.proofs.lemmas.Int.{ints, clamps}
use Rattle.whole_numbers.specs.Root.{root_of}
use Rattle.whole_numbers.proofs.Roots.{root_of-unique}
use Rattle.fix_interval.specs.Ends.{Ends, IsInside}
use Rattle.fix_interval.specs.Bounds.{clamp_of}
use Rattle.fix_interval.specs.Products.{mul_wide_of, sqr_wide_of, narrow76_of}
use Rattle.fix_interval.specs.Roots.{sqrt_of}
use Rattle.fix_interval.specs.Sums.{add_of, sub_of}
use Rattle.fix_interval.proofs.EndProducts.{mul_wide_isotone, narrow76_isotone}
use Rattle.fix_interval.proofs.EndRoots.{sqrt_isotone}
use Rattle.fix_interval.proofs.EndSquares.{sqr_wide_isotone}
use Rattle.fix_interval.proofs.EndSums.{same_ends, add_isotone, sub_isotone}
use Rattle.fix_interval.specs.Ranges.{full_ends}
use Rattle.fix_interval.proofs.EndInsides.{inside_trans}
use Rattle.fix_interval.specs.Vectors.{VectorEnds, VectorInside}
use Rattle.fix_interval.proofs.EndVectors.{vector_trans}
use Rattle.site_laws.specs.Places.{PlaceEnds, IsNearEarth}
use Rattle.site_laws.specs.Frames.{frame_of}
use Rattle.site_laws.specs.Sights.{line_ends, widest_line, squares_ends, range_ends, part_ends, full_vector, line_of, dot_of, range_of, share_of, widest_satellite, IsInReach, share_ends}
use Rattle.site_laws.specs.Frames.{within, widest_frame}
use Rattle.site_laws.proofs.FrameBounds.{frame_bounds}
use Rattle.site_laws.proofs.LookEncloses.{squares_of, squares_not_negative}

-- ---- isotone
pub line_isotone : {p q s t : VectorEnds} → VectorInside p q → VectorInside s t → VectorInside (line_of p s) (line_of q t)
unfolding line_of
line_isotone h k = record { x = sub_isotone refl _ _ k.x h.x; y = sub_isotone refl _ _ k.y h.y; z = sub_isotone refl _ _ k.z h.z }

pub dot_isotone : {v w d e : VectorEnds} → VectorInside v w → VectorInside d e → IsInside (dot_of v d) (dot_of w e)
unfolding dot_of
dot_isotone h k = narrow76_isotone refl _ (add_isotone refl _ _ (add_isotone refl _ _ (mul_wide_isotone refl _ _ h.x k.x) (mul_wide_isotone refl _ _ h.y k.y)) (mul_wide_isotone refl _ _ h.z k.z))

pub squares_isotone : {d e : VectorEnds} → VectorInside d e → IsInside (squares_of d) (squares_of e)
squares_isotone h = add_isotone refl _ _ (add_isotone refl _ _ (sqr_wide_isotone refl _ h.x) (sqr_wide_isotone refl _ h.y)) (sqr_wide_isotone refl _ h.z)

pub range_isotone : {d e : VectorEnds} → VectorInside d e → IsInside (range_of d) (range_of e)
unfolding range_of
range_isotone {d} {e} h = sqrt_isotone refl _ (squares_not_negative e) (squares_isotone h)

-- ---- bounds
line-widest : VectorInside (line_of widest_frame.position widest_satellite) widest_line
unfolding line_of sub_of
line-widest = record {
  x = record { low = record { le = tt }; ordered = record { le = tt }; high = record { le = tt } };
  y = record { low = record { le = tt }; ordered = record { le = tt }; high = record { le = tt } };
  z = record { low = record { le = tt }; ordered = record { le = tt }; high = record { le = tt } };
}

pub line_bounds : {box : PlaceEnds} {sat : VectorEnds} → IsNearEarth box → IsInReach sat → VectorInside (line_of (frame_of box).position sat) widest_line
line_bounds {box} n s = vector_trans (line_isotone (frame_bounds box n).position s) line-widest

squares-widest : squares_of widest_line ≡ squares_ends
unfolding add_of sqr_wide_of
squares-widest = refl

pub squares_bounds : {d : VectorEnds} → VectorInside d widest_line → IsInside (squares_of d) squares_ends
squares_bounds {d} h = subst (λ t. IsInside (squares_of d) t) squares-widest (squares_isotone h)

range-widest : range_of widest_line ≡ range_ends
unfolding range_of sqrt_of
range-widest = ap sqrt squares-widest ∙ same_ends (ap (λ n. pos (n - 1)) low) (ap (λ n. pos (n + 2)) high)
  where
    sqrt : Ends → Ends
    sqrt a = sqrt_of a

    low : root_of (pos 0) ≡ 0
    low = root_of-unique _ 0 (record { le = tt }) (record { lt = tt })

    high : root_of (pos 15610849651241880412611409587) ≡ 124943385784289
    high = root_of-unique _ 124943385784289 (record { le = tt }) (record { lt = tt })

pub range_bounds : {d : VectorEnds} → VectorInside d widest_line → IsInside (range_of d) range_ends
range_bounds {d} h = subst (λ t. IsInside (range_of d) t) range-widest (range_isotone h)

part-widest : IsInside (dot_of full_vector widest_line) part_ends
unfolding dot_of add_of mul_wide_of narrow76_of
part-widest = record { low = record { le = tt }; ordered = record { le = tt }; high = record { le = tt } }

pub part_bounds : {v d : VectorEnds} → VectorInside v full_vector → VectorInside d widest_line → IsInside (dot_of v d) part_ends
part_bounds h k = inside_trans (dot_isotone h k) part-widest

-- a share that is an interval lies within its bound
pub share_bounds : (part range : Ends) → (share_of part range).lo ≤ℤ (share_of part range).hi → IsInside (share_of part range) share_ends
unfolding share_of clamp_of
share_bounds part range o = record { low = omega (arith, ints, clamps); ordered = o; high = omega (arith, ints, clamps) }

-- ---- for the program's numbers
pub line_within : {p s : VectorEnds} → VectorInside p widest_frame.position → IsInReach s → VectorInside (line_of p s) widest_line
line_within h k = vector_trans (line_isotone h k) line-widest

widest_product : IsInside (mul_wide_of full_ends line_ends) (within (pos (2 ^ 90)))
unfolding mul_wide_of
widest_product = record { low = record { le = tt }; ordered = record { le = tt }; high = record { le = tt } }

-- a component of a direction times one of a line
pub product_bounds : {v d : Ends} → IsInside v full_ends → IsInside d line_ends → IsInside (mul_wide_of v d) (within (pos (2 ^ 90)))
product_bounds h k = inside_trans (mul_wide_isotone refl full_ends line_ends h k) widest_product

widest_square : IsInside (sqr_wide_of line_ends) (within (pos (2 ^ 94)))
unfolding sqr_wide_of
widest_square = record { low = record { le = tt }; ordered = record { le = tt }; high = record { le = tt } }

-- the square of a component of a line
pub square_bounds : {d : Ends} → IsInside d line_ends → IsInside (sqr_wide_of d) (within (pos (2 ^ 94)))
square_bounds h = inside_trans (sqr_wide_isotone refl line_ends h) widest_square
