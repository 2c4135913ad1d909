-- What is decided on wide intervals is decided on those inside.
use Rattle.std.specs.Prelude.{◌≡◌, ℤ, pos, ◌+◌, ◌^◌, ◌≤ℤ◌, refl, Bool, true, false, cond, ◌&&◌, ◌||◌}
use Rattle.std.proofs.Common.{arith, subst}
use Rattle.std.proofs.lemmas.Int.{ints}
use lib.Dec.{lit≤}
use lib.Signed.{le_z, lt_z}
use Rattle.raim_model.specs.Level.{Level}
use Rattle.fix_interval.specs.Ends.{Ends, IsInside}
use Rattle.fix_interval.specs.Products.{mul_of}
use Rattle.fix_interval.proofs.EndBounds.{clamp_isotone}
use Rattle.fix_interval.proofs.EndProducts.{mul_isotone}
use Rattle.fix_interval.proofs.EndQuotients.{div_isotone}
use Rattle.fix_interval.specs.Vectors.{VectorEnds, VectorInside}
use Rattle.site_laws.specs.Places.{PlaceEnds, IsNearEarth}
use Rattle.site_laws.specs.Frames.{FrameEnds, FrameInside, frame_of}
use Rattle.site_laws.specs.Sights.{IsDirection, DirectionEnds, DirectionInside, SightInside, line_of, dot_of, range_of, share_of, is_hidden, is_seen, direction_of, shares_of, sight_of, line_sight_of, look_of, widest_direction, visible, hidden, straddle}
use Rattle.site_laws.proofs.Insides.{inside_self}
use Rattle.site_laws.proofs.LookBounds.{line_isotone, dot_isotone, range_isotone, share_bounds}
use Rattle.site_laws.proofs.LookEncloses.{has_choice, lies_ordered, direction_lies, when_visible}

-- a level of the model
some_level : Level
some_level = record { terms = 100; enough = lit≤ tt }

-- ---- the direction
-- each share of a line that is seen is an interval
pub direction_ordered : {box : PlaceEnds} {sat : VectorEnds} {mask : Ends} → IsNearEarth box → VectorInside sat sat → mask.lo ≤ℤ mask.hi → pos (2 ^ 38) ≤ℤ (range_of (line_of (frame_of box).position sat)).lo
    → IsDirection (direction_of (frame_of box) (line_of (frame_of box).position sat) (range_of (line_of (frame_of box).position sat)) (dot_of (frame_of box).up (line_of (frame_of box).position sat)))
direction_ordered {box} {sat} {mask} n s m far =
    let l = direction_lies n (has_choice some_level box sat mask n s m) far in
    record { east = lies_ordered l.east; north = lies_ordered l.north; up = lies_ordered l.up }

share_isotone : {a b c d : Ends} → pos 1 ≤ℤ d.lo → (share_of a b).lo ≤ℤ (share_of a b).hi → IsInside a c → IsInside b d → IsInside (share_of a b) (share_of c d)
unfolding share_of
share_isotone {a} {b} {c} {d} p o h k = clamp_isotone (pos (2 ^ 38 + 1)) refl o _ (div_isotone refl c d p h k)

positive : {z : ℤ} → pos (2 ^ 38) ≤ℤ z → pos 1 ≤ℤ z
positive h = omega (arith, ints)

-- ---- the decisions
hidden_isotone : (R U m R' U' m' : Ends) → IsInside R R' → IsInside U U' → IsInside m m' → is_hidden R' U' m' ≡ true → is_hidden R U m ≡ true
hidden_isotone R U m R' U' m' p q r e = by_case (lt_z R'.hi (pos (2 ^ 38))) (lt_z U'.hi m'.lo) (lt_z R.hi (pos (2 ^ 38))) (lt_z U.hi m.lo) refl refl refl refl e
  where
    by_case : (a b c d : Bool) → lt_z R'.hi (pos (2 ^ 38)) ≡ a → lt_z U'.hi m'.lo ≡ b → lt_z R.hi (pos (2 ^ 38)) ≡ c → lt_z U.hi m.lo ≡ d → a || b ≡ true → c || d ≡ true
    by_case true b true d i j k l e = refl
    by_case true b false d i j k l e = absurd (clash i k)
      where
        clash : lt_z R'.hi (pos (2 ^ 38)) ≡ true → lt_z R.hi (pos (2 ^ 38)) ≡ false → ⊥
        clash i k = omega (arith, ints)
    by_case false true true d i j k l e = refl
    by_case false true false true i j k l e = refl
    by_case false true false false i j k l e = absurd (clash j l)
      where
        clash : lt_z U'.hi m'.lo ≡ true → lt_z U.hi m.lo ≡ false → ⊥
        clash j l = omega (arith, ints)
    by_case false false c d i j k l e = absurd (cc)

seen_isotone : (R U m R' U' m' : Ends) → IsInside R R' → IsInside U U' → IsInside m m' → is_seen R' U' m' ≡ true → is_seen R U m ≡ true
seen_isotone R U m R' U' m' p q r e = by_case (le_z (pos (2 ^ 38)) R'.lo) (le_z m'.hi U'.lo) (le_z (pos (2 ^ 38)) R.lo) (le_z m.hi U.lo) refl refl refl refl e
  where
    by_case : (a b c d : Bool) → le_z (pos (2 ^ 38)) R'.lo ≡ a → le_z m'.hi U'.lo ≡ b → le_z (pos (2 ^ 38)) R.lo ≡ c → le_z m.hi U.lo ≡ d → a && b ≡ true → c && d ≡ true
    by_case true true true true i j k l e = refl
    by_case true true false d i j k l e = absurd (clash i k)
      where
        clash : le_z (pos (2 ^ 38)) R'.lo ≡ true → le_z (pos (2 ^ 38)) R.lo ≡ false → ⊥
        clash i k = omega (arith, ints)
    by_case true true true false i j k l e = absurd (clash j l)
      where
        clash : le_z m'.hi U'.lo ≡ true → le_z m.hi U.lo ≡ false → ⊥
        clash j l = omega (arith, ints)
    by_case true false c d i j k l e = absurd (cc)
    by_case false b c d i j k l e = absurd (cc)

-- what is seen is not hidden
seen_not_hidden : (R U m : Ends) → R.lo ≤ℤ R.hi → U.lo ≤ℤ U.hi → m.lo ≤ℤ m.hi → is_seen R U m ≡ true → is_hidden R U m ≡ false
seen_not_hidden R U m p q r e = by_case (le_z (pos (2 ^ 38)) R.lo) (le_z m.hi U.lo) (lt_z R.hi (pos (2 ^ 38))) (lt_z U.hi m.lo) refl refl refl refl e
  where
    by_case : (a b c d : Bool) → le_z (pos (2 ^ 38)) R.lo ≡ a → le_z m.hi U.lo ≡ b → lt_z R.hi (pos (2 ^ 38)) ≡ c → lt_z U.hi m.lo ≡ d → a && b ≡ true → c || d ≡ false
    by_case true true false false i j k l e = refl
    by_case true true true d i j k l e = absurd (clash i k)
      where
        clash : le_z (pos (2 ^ 38)) R.lo ≡ true → lt_z R.hi (pos (2 ^ 38)) ≡ true → ⊥
        clash i k = omega (arith, ints)
    by_case true true false true i j k l e = absurd (clash j l)
      where
        clash : le_z m.hi U.lo ≡ true → lt_z U.hi m.lo ≡ true → ⊥
        clash j l = omega (arith, ints)
    by_case true false c d i j k l e = absurd (cc)
    by_case false b c d i j k l e = absurd (cc)

pub far_of_seen : (R U m : Ends) → is_seen R U m ≡ true → pos (2 ^ 38) ≤ℤ R.lo
far_of_seen R U m e = by_case (le_z (pos (2 ^ 38)) R.lo) (le_z m.hi U.lo) refl e
  where
    by_case : (a b : Bool) → le_z (pos (2 ^ 38)) R.lo ≡ a → a && b ≡ true → pos (2 ^ 38) ≤ℤ R.lo
    by_case true b i e = omega (arith, ints)
    by_case false b i e = absurd (cc)

directions_inside : (f g : FrameEnds) (d e : VectorEnds) (R R' U U' : Ends) → pos 1 ≤ℤ R'.lo → IsDirection (direction_of f d R U) → IsInside (dot_of f.east d) (dot_of g.east e) → IsInside (dot_of f.north d) (dot_of g.north e) → IsInside U U' → IsInside R R'
    → DirectionInside (direction_of f d R U) (direction_of g e R' U')
unfolding shares_of
directions_inside f g d e R R' U U' p o i j k l = record { east = share_isotone p o.east i l; north = share_isotone p o.north j l; up = share_isotone p o.up k l }

direction_bounds : (f : FrameEnds) (d : VectorEnds) (range up : Ends) → IsDirection (direction_of f d range up) → DirectionInside (direction_of f d range up) widest_direction
unfolding shares_of
direction_bounds f d range up o = record { east = share_bounds _ _ o.east; north = share_bounds _ _ o.north; up = share_bounds _ _ o.up }

-- ---- a look
sights_inside : (h s h' s' : Bool) (row row' : DirectionEnds) → (h' ≡ true → h ≡ true) → (s' ≡ true → s ≡ true) → (s ≡ true → h ≡ false) → (s' ≡ true → DirectionInside row row')
    → SightInside (cond h hidden (cond s (visible row) straddle)) (cond h' hidden (cond s' (visible row') straddle))
sights_inside true s true s' row row' a b c d = refl
sights_inside false s true s' row row' a b c d = absurd (let e : false ≡ true = a refl in cc)
sights_inside true true false s' row row' a b c d = absurd (let e : true ≡ false = c refl in cc)
sights_inside true false false true row row' a b c d = absurd (let e : false ≡ true = b refl in cc)
sights_inside true false false false row row' a b c d = tt
sights_inside false true false true row row' a b c d = d refl
sights_inside false true false false row row' a b c d = tt
sights_inside false false false true row row' a b c d = absurd (let e : false ≡ true = b refl in cc)
sights_inside false false false false row row' a b c d = tt

pub look_isotone : {box : PlaceEnds} {sat : VectorEnds} {mask : Ends} → IsNearEarth box → (frame : FrameEnds) (wide : VectorEnds) (wide_mask : Ends) → FrameInside (frame_of box) frame → VectorInside sat wide → IsInside mask wide_mask
    → SightInside (look_of (frame_of box) sat mask) (look_of frame wide wide_mask)
unfolding look_of line_sight_of sight_of
look_isotone {box} {sat} {mask} n frame wide wide_mask f s m =
    let d = line_of (frame_of box).position sat in
    let e = line_of frame.position wide in
    let l : VectorInside d e = line_isotone f.position s in
    let r : IsInside (range_of d) (range_of e) = range_isotone l in
    let u : IsInside (dot_of (frame_of box).up d) (dot_of frame.up e) = dot_isotone f.up l in
    let k = mul_isotone refl _ _ m r in
    let self : VectorInside sat sat = record { x = inside_self s.x.ordered; y = inside_self s.y.ordered; z = inside_self s.z.ordered } in
    sights_inside _ _ _ _ _ _
    (hidden_isotone _ _ _ _ _ _ r u k)
    (seen_isotone _ _ _ _ _ _ r u k)
    (seen_not_hidden _ _ _ r.ordered u.ordered k.ordered)
    (λ q.
    let far = far_of_seen (range_of d) (dot_of (frame_of box).up d) (mul_of mask (range_of d)) (seen_isotone _ _ _ _ _ _ r u k q) in
    let p = positive (far_of_seen (range_of e) (dot_of frame.up e) (mul_of wide_mask (range_of e)) q) in
    let o = direction_ordered {mask = mask} n self m.ordered far in
    directions_inside (frame_of box) frame d e (range_of d) (range_of e) (dot_of (frame_of box).up d) (dot_of frame.up e) p o (dot_isotone f.east l) (dot_isotone f.north l) u r)

-- ---- the bound of the shares
pub look_bounds : {box : PlaceEnds} {sat : VectorEnds} {mask : Ends} {row : DirectionEnds} → IsNearEarth box → VectorInside sat sat → mask.lo ≤ℤ mask.hi → look_of (frame_of box) sat mask ≡ visible row
    → DirectionInside row widest_direction
unfolding look_of line_sight_of sight_of
look_bounds {box} {sat} {mask} {row} n s m e =
    let w = when_visible _ _ _ row e in
    let d = line_of (frame_of box).position sat in
    let o = direction_ordered {mask = mask} n s m (far_of_seen (range_of d) (dot_of (frame_of box).up d) (mul_of mask (range_of d)) w.1) in
    subst (λ r. DirectionInside r widest_direction) w.2 (direction_bounds (frame_of box) d (range_of d) (dot_of (frame_of box).up d) o)
