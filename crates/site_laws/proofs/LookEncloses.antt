-- What a look computes holds what the model admits: the line, its length and its parts, and the decision.
use Rattle.std.specs.Prelude.{◌≡◌, ℤ, pos, neg_ℤ, ◌+◌, ◌^◌, ◌+ℤ◌, ◌*ℤ◌, ◌≤ℤ◌, ◌⊎◌, refl, Bool, true, false, cond, ◌&&◌, ◌||◌, not}
use Rattle.std.proofs.Common.{arith, subst, inl, inr, ⊎_elim}
use Rattle.std.proofs.lemmas.Int.{ints, clamps}
use Rattle.std.proofs.lemmas.Nat.{pow_pos}
use Rattle.std.specs.Int.{int_min}
use lib.Dec.{T}
use lib.Signed.{le_z, lt_z}
use Rattle.whole_numbers.proofs.Integers.{not_negative_square}
use Rattle.fractions.specs.Fraction.{Fraction, ratio, oneᶠ, ◌*ᶠ◌, is_at_most, ◌≤ᶠ◌, ◌<ᶠ◌}
use Rattle.fractions.specs.Inverse.{◌/ᶠ◌}
use Rattle.fractions.proofs.Laws.{≤ᶠ_refl, ≤ᶠ_trans}
use Rattle.fractions.proofs.Ratios.{ratio_mono, ratio_at_most_out}
use Rattle.raim_model.specs.Level.{Level}
use Rattle.raim_model.specs.Look.{line_of_sight, is_visible, direction_row}
use Rattle.raim_model.specs.Receiver.{Place, Site, site}
use Rattle.raim_model.specs.Root.{IsRoot}
use Rattle.raim_model.specs.Vector.{Vector, minus, dot}
use Rattle.root_laws.proofs.Exists.{has_root}
use Rattle.fix_interval.specs.Ends.{Ends}
use Rattle.fix_interval.specs.Lies.{Lies}
use Rattle.fix_interval.specs.Products.{mul_of, sqr_wide_of}
use Rattle.fix_interval.specs.Sums.{add_of}
use Rattle.fix_interval.proofs.EndBounds.{clamp_encloses, below_encloses, strictly_below_encloses}
use Rattle.fix_interval.proofs.EndProducts.{mul_wide_encloses, mul_encloses, narrow76_encloses}
use Rattle.fix_interval.proofs.EndQuotients.{div_encloses}
use Rattle.fix_interval.proofs.EndRoots.{sqrt_encloses}
use Rattle.fix_interval.proofs.EndSquares.{sqr_wide_encloses}
use Rattle.fix_interval.proofs.EndSums.{add_encloses, sub_encloses}
use Rattle.fix_interval.specs.Ranges.{one_ends}
use Rattle.fix_interval.proofs.EndScales.{one_lies}
use Rattle.fix_interval.specs.Vectors.{VectorEnds, VectorLies, VectorInside}
use Rattle.site_laws.specs.Places.{PlaceEnds, IsNearEarth}
use Rattle.site_laws.specs.Frames.{FrameEnds, SiteLies, frame_of}
use Rattle.site_laws.specs.Sights.{DirectionEnds, DirectionLies, line_of, dot_of, range_of, share_of, is_hidden, is_seen, direction_of, shares_of, sight_of, line_sight_of, look_of, LookChoice, visible, hidden, straddle}
use Rattle.site_laws.proofs.Directions.{dot_not_negative, east_within, north_within, up_within}
use Rattle.site_laws.proofs.FrameEncloses.{frame_encloses}
use Rattle.site_laws.proofs.Receivers.{has_receiver}

-- ---- the line
pub line_lies : {position sat : VectorEnds} {p s : Vector} → VectorLies position p → VectorLies sat s → VectorLies (line_of position sat) (minus s p)
unfolding line_of
line_lies {position} {sat} {p} {s} k l = record {
  x = sub_encloses refl 38 s.x p.x l.x k.x;
  y = sub_encloses refl 38 s.y p.y l.y k.y;
  z = sub_encloses refl 38 s.z p.z l.z k.z;
}

pub dot_lies : {a b : VectorEnds} {v d : Vector} → VectorLies a v → VectorLies b d → Lies (dot_of a b) 38 (dot v d)
unfolding dot_of
dot_lies {a} {b} {v} {d} k l = narrow76_encloses refl 38 _ (add_encloses refl 76 _ _ (add_encloses refl 76 _ _ (mul_wide_encloses refl 38 38 v.x d.x k.x l.x) (mul_wide_encloses refl 38 38 v.y d.y k.y l.y)) (mul_wide_encloses refl 38 38 v.z d.z k.z l.z))

-- the sum of the squares
abbrev pub squares_of : VectorEnds → Ends
squares_of d = add_of (add_of (sqr_wide_of d.x) (sqr_wide_of d.y)) (sqr_wide_of d.z)

sqr_wide_not_negative : (a : Ends) → pos 0 ≤ℤ (sqr_wide_of a).lo
unfolding sqr_wide_of
sqr_wide_not_negative a = by_sign (le_z a.lo (pos 0) && le_z (pos 0) a.hi)
  where
    least : (y z : ℤ) → pos 0 ≤ℤ y → pos 0 ≤ℤ z → pos 0 ≤ℤ int_min y z
    least y z h k = omega (arith, ints, clamps)

    by_sign : (t : Bool) → pos 0 ≤ℤ cond t (pos 0) (int_min (a.lo *ℤ a.lo) (a.hi *ℤ a.hi))
    by_sign true = record { le = tt }
    by_sign false = least _ _ (not_negative_square a.lo) (not_negative_square a.hi)

pub squares_not_negative : (d : VectorEnds) → pos 0 ≤ℤ (squares_of d).lo
unfolding add_of
squares_not_negative d = sums _ _ _ (sqr_wide_not_negative d.x) (sqr_wide_not_negative d.y) (sqr_wide_not_negative d.z)
  where
    sums : (x y z : ℤ) → pos 0 ≤ℤ x → pos 0 ≤ℤ y → pos 0 ≤ℤ z → pos 0 ≤ℤ ((x +ℤ y) +ℤ z)
    sums x y z h k l = omega (arith, ints)

pub range_lies : (N : Level) (a : VectorEnds) (d : Vector) (r : Fraction) → VectorLies a d → IsRoot N (dot d d) r → Lies (range_of a) 38 r
unfolding range_of
range_lies N a d r l root = sqrt_encloses refl (squares_not_negative a) N _ r (add_encloses refl 76 _ _ (add_encloses refl 76 _ _ (sqr_wide_encloses refl 38 d.x l.x) (sqr_wide_encloses refl 38 d.y l.y)) (sqr_wide_encloses refl 38 d.z l.z)) root

-- what a look at a choice of the model holds
pub record ChoiceLies (frame : FrameEnds) (sat : VectorEnds) (mask : Ends) (from : Site) (satellite : Vector) (sine range : Fraction) : Type 0 where
  pub range_in : Lies (range_of (line_of frame.position sat)) 38 range
  pub east_in : Lies (dot_of frame.east (line_of frame.position sat)) 38 (dot from.east (line_of_sight from satellite))
  pub north_in : Lies (dot_of frame.north (line_of frame.position sat)) 38 (dot from.north (line_of_sight from satellite))
  pub up_in : Lies (dot_of frame.up (line_of frame.position sat)) 38 (dot from.up (line_of_sight from satellite))
  pub least_in : Lies (mul_of mask (range_of (line_of frame.position sat))) 38 (sine *ᶠ range)

pub choice_lies : {N : Level} {box : PlaceEnds} {sat : VectorEnds} {mask : Ends} → IsNearEarth box → (c : LookChoice N box sat mask) → ChoiceLies (frame_of box) sat mask (site c.receiver) c.satellite c.sine c.range
choice_lies {N} {box} {sat} {mask} n c =
    let f : SiteLies (frame_of box) (site c.receiver) = frame_encloses refl n N c.place c.place_inside c.receiver in
    let l = line_lies f.position c.satellite_inside in
    let r = range_lies N _ _ c.range l c.is_range in
    record {
      range_in = r;
      east_in = dot_lies f.east l;
      north_in = dot_lies f.north l;
      up_in = dot_lies f.up l;
      least_in = mul_encloses refl c.sine c.range c.sine_inside r;
    }

-- ---- a choice exists
-- the lower end lies in an interval
low_lies : {a : Ends} → a.lo ≤ℤ a.hi → Lies a 38 (ratio a.lo (2 ^ 38))
low_lies {a} h = record { low = ≤ᶠ_refl _; high = ratio_mono (2 ^ 38) h }

pub has_choice : (N : Level) (box : PlaceEnds) (sat : VectorEnds) (mask : Ends) → IsNearEarth box → VectorInside sat sat → mask.lo ≤ℤ mask.hi → LookChoice N box sat mask
has_choice N box sat mask n s m =
    let place : Place = record { lat = ratio box.lat.lo (2 ^ 38); lon = ratio box.lon.lo (2 ^ 38); height = ratio box.height.lo (2 ^ 38) } in
    let receiver = has_receiver N place in
    let satellite : Vector = record { x = ratio sat.x.lo (2 ^ 38); y = ratio sat.y.lo (2 ^ 38); z = ratio sat.z.lo (2 ^ 38) } in
    let r = has_root N (dot (line_of_sight (site receiver) satellite) (line_of_sight (site receiver) satellite)) (dot_not_negative (line_of_sight (site receiver) satellite)) in
    record {
      place = place;
      place_inside = record { lat = low_lies n.lat.ordered; lon = low_lies n.lon.ordered; height = low_lies n.height.ordered };
      receiver = receiver;
      satellite = satellite;
      satellite_inside = record { x = low_lies s.x.ordered; y = low_lies s.y.ordered; z = low_lies s.z.ordered };
      sine = ratio mask.lo (2 ^ 38);
      sine_inside = low_lies m;
      range = r.0;
      is_range = r.1;
    }

-- what holds something is an interval
pub lies_ordered : {a : Ends} {x : Fraction} → Lies a 38 x → a.lo ≤ℤ a.hi
lies_ordered {a} {x} l = cancel a.lo a.hi (ratio_at_most_out a.lo a.hi (2 ^ 38) (2 ^ 38) (pow_pos 38) (pow_pos 38) (≤ᶠ_trans l.low l.high))
  where
    cancel : (y z : ℤ) → (y *ℤ pos (2 ^ 38)) ≤ℤ (z *ℤ pos (2 ^ 38)) → y ≤ℤ z
    cancel y z h = omega (arith, ints)

-- ---- the decisions
or_cases : (a b : Bool) → a || b ≡ true → (a ≡ true) ⊎ (b ≡ true)
or_cases true b e = inl refl
or_cases false b e = inr e

and_left : (a b : Bool) → a && b ≡ true → a ≡ true
and_left true b e = refl
and_left false b e = e

and_right : (a b : Bool) → a && b ≡ true → b ≡ true
and_right true b e = e
and_right false b e = absurd (cc)

pub when_hidden : (h s : Bool) (row : DirectionEnds) → cond h hidden (cond s (visible row) straddle) ≡ hidden → h ≡ true
when_hidden true s row e = refl
when_hidden false true row e = absurd (cc)
when_hidden false false row e = absurd (cc)

pub when_visible : (h s : Bool) (row w : DirectionEnds) → cond h hidden (cond s (visible row) straddle) ≡ visible w → (h ≡ false) × (s ≡ true) × (row ≡ w)
when_visible true s row w e = absurd (cc)
when_visible false true row w e = (refl, refl, cc)
when_visible false false row w e = absurd (cc)

pub when_straddle : (h s : Bool) (row : DirectionEnds) → cond h hidden (cond s (visible row) straddle) ≡ straddle → (h ≡ false) × (s ≡ false)
when_straddle true s row e = absurd (cc)
when_straddle false true row e = absurd (cc)
when_straddle false false row e = (refl, refl)

is_false : (b : Bool) → T (not b) → b ≡ false
is_false true t = absurd t
is_false false t = refl

is_true : (b : Bool) → T b → b ≡ true
is_true true t = refl
is_true false t = absurd t

and_false : (b : Bool) → b && false ≡ false
and_false true = refl
and_false false = refl

-- a look at what is hidden is at nothing visible
hidden_by : (range up least : Ends) (r u m : Fraction) → Lies range 38 r → Lies up 38 u → Lies least 38 m → is_hidden range up least ≡ true → is_at_most oneᶠ r && is_at_most m u ≡ false
hidden_by range up least r u m lr lu lm e = ⊎_elim near low (or_cases (lt_z range.hi (pos (2 ^ 38))) (lt_z up.hi least.lo) e)
  where
    near : lt_z range.hi (pos (2 ^ 38)) ≡ true → is_at_most oneᶠ r && is_at_most m u ≡ false
    near i = let s : r <ᶠ oneᶠ = strictly_below_encloses {a = range} {b = one_ends} (omega (arith, ints)) 38 r oneᶠ lr one_lies in rw (is_false (is_at_most oneᶠ r) s.lt) refl

    low : lt_z up.hi least.lo ≡ true → is_at_most oneᶠ r && is_at_most m u ≡ false
    low i = let s : u <ᶠ m = strictly_below_encloses {a = up} {b = least} (omega (arith, ints)) 38 u m lu lm in rw (is_false (is_at_most m u) s.lt) (and_false (is_at_most oneᶠ r))

-- and one at what is seen is at what is visible
seen_by : (range up least : Ends) (r u m : Fraction) → Lies range 38 r → Lies up 38 u → Lies least 38 m → is_seen range up least ≡ true → (oneᶠ ≤ᶠ r) × (m ≤ᶠ u)
seen_by range up least r u m lr lu lm e =
    let i = and_left (le_z (pos (2 ^ 38)) range.lo) (le_z least.hi up.lo) e in
    let j = and_right (le_z (pos (2 ^ 38)) range.lo) (le_z least.hi up.lo) e in (
      below_encloses {a = one_ends} {b = range} (omega (arith, ints)) 38 oneᶠ r one_lies lr,
      below_encloses {a = least} {b = up} (omega (arith, ints)) 38 m u lm lu,
    )

-- a share holds the quotient
share_lies : (part range : Ends) (x r : Fraction) → pos 1 ≤ℤ range.lo → range.lo ≤ℤ range.hi → Lies part 38 x → Lies range 38 r
    → (ratio (neg_ℤ (pos (2 ^ 38 + 1))) (2 ^ 38) ≤ᶠ x /ᶠ r) × (x /ᶠ r ≤ᶠ ratio (pos (2 ^ 38 + 1)) (2 ^ 38)) → Lies (share_of part range) 38 (x /ᶠ r)
unfolding share_of
share_lies part range x r p o lx lr w = clamp_encloses (pos (2 ^ 38 + 1)) refl 38 (x /ᶠ r) (div_encloses refl p o 38 x r lx lr) w.0 w.1

-- the direction of a line that is seen holds the row of each choice
pub direction_lies : {N : Level} {box : PlaceEnds} {sat : VectorEnds} {mask : Ends} → IsNearEarth box → (c : LookChoice N box sat mask) → pos (2 ^ 38) ≤ℤ (range_of (line_of (frame_of box).position sat)).lo
    → DirectionLies (direction_of (frame_of box) (line_of (frame_of box).position sat) (range_of (line_of (frame_of box).position sat)) (dot_of (frame_of box).up (line_of (frame_of box).position sat))) (direction_row (site c.receiver) c.satellite c.range)
unfolding shares_of
direction_lies {N} {box} {sat} {mask} n c far =
    let l = choice_lies n c in
    let o = lies_ordered l.range_in in
    let p : pos 1 ≤ℤ (range_of (line_of (frame_of box).position sat)).lo = positive far in
    let one : oneᶠ ≤ᶠ c.range = below_encloses {a = one_ends} {b = range_of (line_of (frame_of box).position sat)} far 38 oneᶠ c.range one_lies l.range_in in
    record {
      east = share_lies _ _ _ c.range p o l.east_in l.range_in (east_within c.receiver (line_of_sight (site c.receiver) c.satellite) c.range c.is_range one);
      north = share_lies _ _ _ c.range p o l.north_in l.range_in (north_within c.receiver (line_of_sight (site c.receiver) c.satellite) c.range c.is_range one);
      up = share_lies _ _ _ c.range p o l.up_in l.range_in (up_within c.receiver (line_of_sight (site c.receiver) c.satellite) c.range c.is_range one);
    }
  where
    positive : {z : ℤ} → pos (2 ^ 38) ≤ℤ z → pos 1 ≤ℤ z
    positive h = omega (arith, ints)

-- ---- what a look promises
pub look_hidden : {box : PlaceEnds} {sat : VectorEnds} {mask : Ends} → IsNearEarth box → look_of (frame_of box) sat mask ≡ hidden
    → (N : Level) (c : LookChoice N box sat mask) → is_visible (site c.receiver) c.satellite c.sine c.range ≡ false
unfolding look_of line_sight_of sight_of is_visible
look_hidden {box} {sat} {mask} n e N c = let l = choice_lies n c in hidden_by _ _ _ _ _ _ l.range_in l.up_in l.least_in (when_hidden _ _ _ e)

pub look_visible : {box : PlaceEnds} {sat : VectorEnds} {mask : Ends} {row : DirectionEnds} → IsNearEarth box → look_of (frame_of box) sat mask ≡ visible row
    → (N : Level) (c : LookChoice N box sat mask) → (is_visible (site c.receiver) c.satellite c.sine c.range ≡ true) × DirectionLies row (direction_row (site c.receiver) c.satellite c.range)
unfolding look_of line_sight_of sight_of is_visible
look_visible {box} {sat} {mask} {row} n e N c =
    let l = choice_lies n c in
    let w = when_visible _ _ _ row e in
    let s = seen_by _ _ _ c.range _ _ l.range_in l.up_in l.least_in w.1 in
    let far = and_left _ _ w.1 in
    (both _ _ (is_true _ s.0.le) (is_true _ s.1.le), subst (λ r. DirectionLies r (direction_row (site c.receiver) c.satellite c.range)) w.2 (direction_lies n c (reaches far)))
  where
    both : (a b : Bool) → a ≡ true → b ≡ true → a && b ≡ true
    both a b p q = rw (p, q) refl

    reaches : {z : ℤ} → le_z (pos (2 ^ 38)) z ≡ true → pos (2 ^ 38) ≤ℤ z
    reaches e = omega (arith, ints)
