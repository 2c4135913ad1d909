-- What a look answers, by its parts, and what follows for the frame of a place.
use Rattle.std.specs.Prelude.{◌≡◌, ◌⊎◌, pos, ◌^◌, ◌≤ℤ◌, true, false, cond}
use Rattle.std.proofs.Common.{ap, sym, ◌∙◌, subst}
use Rattle.fractions.specs.Fraction.{ratio, oneᶠ, ◌*ᶠ◌, IsNear}
use Rattle.raim_model.specs.Level.{Level}
use Rattle.raim_model.specs.Look.{line_of_sight, is_visible, direction_row}
use Rattle.raim_model.specs.Receiver.{site}
use Rattle.raim_model.specs.Vector.{dot}
use Rattle.fix_interval.specs.Ends.{Ends, IsInside, IsNarrow}
use Rattle.fix_interval.specs.Products.{mul_of}
use Rattle.fix_interval.specs.Vectors.{VectorEnds, VectorInside, VectorNarrow}
use Rattle.fix_interval.proofs.EndVectors.{vector_self}
use Rattle.site_laws.specs.Places.{PlaceEnds, IsNearEarth, PlaceNarrow}
use Rattle.site_laws.specs.Frames.{FrameEnds, FrameInside, IsFrame, frame_of, widest_frame}
use Rattle.site_laws.specs.Sights.{DirectionEnds, DirectionLies, DirectionInside, SightEnds, SightInside, LookChoice, IsInReach, IsSineEnds, IsDirection, line_of, dot_of, range_of, is_hidden, is_seen, shares_of, direction_of, sight_of, line_sight_of, look_of, widest_direction, visible, hidden, straddle}
use Rattle.site_laws.proofs.FrameBounds.{frame_bounds}
use Rattle.site_laws.proofs.LookEncloses.{look_hidden, look_visible}
use Rattle.site_laws.proofs.LookIsotone.{direction_ordered, look_isotone, look_bounds}
use Rattle.site_laws.proofs.LookNarrow.{look_narrow}

-- ---- by its parts
pub look-parts : (f : FrameEnds) (s d : VectorEnds) (m R U L : Ends) → d ≡ line_of f.position s → R ≡ range_of d → U ≡ dot_of f.up d → L ≡ mul_of m R → sight_of f d R U L ≡ look_of f s m
unfolding look_of line_sight_of
look-parts f s d m R U L e g h k =
    ap (λ l. sight_of f d R U l) (k ∙ ap (λ r. mul_of m r) g) ∙ ap (λ r. sight_of f d r U (mul_of m (range_of d))) g ∙ ap (λ u. sight_of f d (range_of d) u (mul_of m (range_of d))) h
    ∙ ap (λ t. sight_of f t (range_of t) (dot_of f.up t) (mul_of m (range_of t))) e

pub sight-hidden : (f : FrameEnds) (d : VectorEnds) (R U L : Ends) → is_hidden R U L ≡ true → hidden ≡ sight_of f d R U L
unfolding sight_of
sight-hidden f d R U L e = sym (ap (λ b. cond b hidden (cond (is_seen R U L) (visible (direction_of f d R U)) straddle)) e)

pub sight-visible : (f : FrameEnds) (d : VectorEnds) (R U L : Ends) → is_hidden R U L ≡ false → is_seen R U L ≡ true → visible (direction_of f d R U) ≡ sight_of f d R U L
unfolding sight_of
sight-visible f d R U L e g = sym (ap (λ b. cond b hidden (cond (is_seen R U L) (visible (direction_of f d R U)) straddle)) e ∙ ap (λ b. cond b (visible (direction_of f d R U)) straddle) g)

pub sight-straddle : (f : FrameEnds) (d : VectorEnds) (R U L : Ends) → is_hidden R U L ≡ false → is_seen R U L ≡ false → straddle ≡ sight_of f d R U L
unfolding sight_of
sight-straddle f d R U L e g = sym (ap (λ b. cond b hidden (cond (is_seen R U L) (visible (direction_of f d R U)) straddle)) e ∙ ap (λ b. cond b (visible (direction_of f d R U)) straddle) g)

-- ---- of the frame of a place
pub frame_within : {f : FrameEnds} → IsFrame f → FrameInside f widest_frame
frame_within {f} p = subst (λ t. FrameInside t widest_frame) (sym p.frame) (frame_bounds p.place p.near_earth)

-- the shares of a line that is seen are intervals
pub shares_meet : {f : FrameEnds} {s d : VectorEnds} {m R U : Ends} → IsFrame f → IsInReach s → IsSineEnds m → d ≡ line_of f.position s → R ≡ range_of d → U ≡ dot_of f.up d → pos (2 ^ 38) ≤ℤ R.lo
    → IsDirection (shares_of f.east f.north d R U)
shares_meet {f} {s} {d} {m} {R} {U} p k n e g h far = rw (h, g, e, p.frame) (direction_ordered {mask = m} p.near_earth (vector_self k) n.ordered (rw (g, e, p.frame) at far))

pub hidden_from : {f : FrameEnds} {s : VectorEnds} {m : Ends} {r : SightEnds} → r ≡ look_of f s m → r ≡ hidden → (box : PlaceEnds) → IsNearEarth box → f ≡ frame_of box
    → (N : Level) (c : LookChoice N box s m) → is_visible (site c.receiver) c.satellite c.sine c.range ≡ false
hidden_from {f} {s} {m} {r} e h box n q N c = look_hidden n (ap (λ t. look_of t s m) (sym q) ∙ sym e ∙ h) N c

pub visible_from : {f : FrameEnds} {s : VectorEnds} {m : Ends} {r : SightEnds} → r ≡ look_of f s m → (row : DirectionEnds) → r ≡ visible row → (box : PlaceEnds) → IsNearEarth box → f ≡ frame_of box
    → (N : Level) (c : LookChoice N box s m) → (is_visible (site c.receiver) c.satellite c.sine c.range ≡ true) × DirectionLies row (direction_row (site c.receiver) c.satellite c.range)
visible_from {f} {s} {m} {r} e row h box n q N c = look_visible n (ap (λ t. look_of t s m) (sym q) ∙ sym e ∙ h) N c

pub bound_from : {f : FrameEnds} {s : VectorEnds} {m : Ends} {r : SightEnds} → r ≡ look_of f s m → IsFrame f → IsInReach s → IsSineEnds m → (row : DirectionEnds) → r ≡ visible row → DirectionInside row widest_direction
bound_from {f} {s} {m} {r} e p k n row h = look_bounds p.near_earth (vector_self k) n.ordered (ap (λ t. look_of t s m) (sym p.frame) ∙ sym e ∙ h)

pub isotone_from : {f : FrameEnds} {s : VectorEnds} {m : Ends} {r : SightEnds} → r ≡ look_of f s m → IsFrame f → (g : FrameEnds) (t : VectorEnds) (n : Ends) → FrameInside f g → VectorInside s t → IsInside m n → SightInside r (look_of g t n)
isotone_from {f} {s} {m} {r} e p g t n i j k = subst (λ v. SightInside v (look_of g t n)) (sym (e ∙ ap (λ v. look_of v s m) p.frame)) (look_isotone p.near_earth g t n (subst (λ v. FrameInside v g) p.frame i) j k)

pub narrow_from : {f : FrameEnds} {s : VectorEnds} {m : Ends} {r : SightEnds} → r ≡ look_of f s m → IsInReach s → IsSineEnds m → r ≡ straddle → (box : PlaceEnds) → IsNearEarth box → f ≡ frame_of box → PlaceNarrow box 4 → VectorNarrow s (2 ^ 20) → IsNarrow m (2 ^ 9)
    → (N : Level) (c : LookChoice N box s m) → (IsNear c.range oneᶠ (ratio (pos 1) (2 ^ 15))) ⊎ (IsNear (dot (site c.receiver).up (line_of_sight (site c.receiver) c.satellite)) (c.sine *ᶠ c.range) (ratio (pos 1) (2 ^ 15)))
narrow_from {f} {s} {m} {r} e k n h box b q w v u N c = look_narrow b k n w v u (ap (λ t. look_of t s m) (sym q) ∙ sym e ∙ h) N c
