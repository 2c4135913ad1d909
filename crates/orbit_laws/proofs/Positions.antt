-- Places over a piece of time: they hold what the model admits, are isotone, not too great and not too wide.
use Rattle.std.specs.Prelude.{◌≡◌, ℕ, ℤ, pos, ◌+◌, ◌*◌, ◌^◌, ◌≤◌, refl, ◌-ℤ◌, ◌≤ℤ◌, [], ◌∷◌}
use Rattle.std.proofs.Common.{arith, subst}
use Rattle.std.proofs.lemmas.Int.{ints}
use Rattle.std.specs.Int.{int_rem_euclid}
use lib.Dec.{lit≤}
use Rattle.whole_numbers.proofs.Integers.{≤ℤ_refl}
use Rattle.fractions.specs.Fraction.{Fraction, whole, ◌+ᶠ◌, ◌-ᶠ◌, ◌*ᶠ◌, ◌≤ᶠ◌}
use Rattle.fractions.specs.Inverse.{◌/ᶠ◌}
use Rattle.fractions.proofs.Quote.{quote, identity}
use Rattle.fractions.proofs.Ratios.{ratio_mono}
use Rattle.raim_model.specs.declared.almanac.AlmRecord.{AlmRecord}
use Rattle.raim_model.specs.AlmanacRanges.{IsAlmRecord, IsApplicable}
use Rattle.raim_model.specs.Constants.{tau, earth_rotation, week_ms}
use Rattle.raim_model.specs.Decimal.{turns_of_angle, turns_of_rate}
use Rattle.raim_model.specs.Level.{Level}
use Rattle.raim_model.specs.Orbit.{OrbitSolution, satellite_position, elapsed, mean_anomaly, node, perifocal_x, perifocal_y, in_plane_x, in_plane_y, semi_major_axis as model_axis, eccentricity as model_eccentricity}
use Rattle.fix_interval.specs.Ends.{Ends, IsInside, IsBelow, IsNarrow}
use Rattle.fix_interval.specs.Lies.{Lies}
use Rattle.fix_interval.specs.Sums.{add_of, sub_of}
use Rattle.fix_interval.specs.Products.{mul_of, mul_wide_of, narrow76_of, scale_int_of}
use Rattle.fix_interval.proofs.EndProducts.{mul_encloses, mul_isotone, narrow76_encloses, narrow76_isotone, scale_int_encloses, scale_int_isotone}
use Rattle.fix_interval.proofs.EndSums.{add_encloses, add_isotone, sub_encloses, sub_isotone}
use Rattle.fix_interval.specs.Ranges.{full_ends, around}
use Rattle.fix_interval.specs.Pairs.{PairEnds, full_pair, PairLies, PairInside}
use Rattle.fix_interval.proofs.EndInsides.{inside_trans, inside_self}
use Rattle.fix_interval.specs.Vectors.{VectorLies, VectorInside, VectorBelow, VectorNarrow}
use Rattle.fix_interval.proofs.EndWidths.{narrow_weaken, add_width, sub_width, mul_width, narrow76_width, scale_int_width}
use Rattle.trig_laws.specs.SinCos.{sin_cos_of}
use Rattle.trig_laws.proofs.Encloses.{sin_cos_encloses, sin_cos_isotone, sin_cos_full}
use Rattle.trig_laws.proofs.Narrow.{sin_cos_narrow}
use Rattle.kepler_laws.specs.Anomalies.{IsEccentricityInTurns}
use Rattle.kepler_laws.specs.EccentricSine.{ecc_sin_cos_of}
use Rattle.kepler_laws.proofs.Widths.{ecc_narrow}
use Rattle.kepler_laws.proofs.Wraps.{ecc_encloses, ecc_isotone, ecc_full}
use Rattle.orbit_laws.specs.Elements.{Elements, elements_of}
use Rattle.orbit_laws.specs.Positions.{mean_anomaly_over, node_over, perifocal_x_of, perifocal_y_of, in_plane_x_of, in_plane_y_of, place_of, orbit_place_of, place_over, position_of}
use Rattle.orbit_laws.specs.Sizes.{axis_ends, eccentricity_ends}
use Rattle.orbit_laws.proofs.Elements.{from_around, IsBounded, IsFine, Holds, elements_bounded, elements_fine, elements_hold}

-- an interval inside another is inside itself
self : {a b : Ends} → IsInside a b → IsInside a a
self {a} {b} i = inside_self a i.ordered

-- ---- isotone
-- times from k to l, within times from m to n
pub mean_anomaly_isotone : (e : Elements) → IsBounded e → (k l m n : ℤ) → m ≤ℤ k → k ≤ℤ l → l ≤ℤ n → IsInside (mean_anomaly_over e k l) (mean_anomaly_over e m n)
unfolding mean_anomaly_over
mean_anomaly_isotone e b k l m n low o high = add_isotone refl e.mean_anomaly (narrow76_of (scale_int_of e.motion m n)) (self b.mean_anomaly)
    (narrow76_isotone refl (scale_int_of e.motion m n) (scale_int_isotone k l refl o e.motion record { lo = m; hi = n } (self b.motion) low high))

pub node_isotone : (e : Elements) → IsBounded e → (k l m n : ℤ) → m ≤ℤ k → k ≤ℤ l → l ≤ℤ n → IsInside (node_over e k l) (node_over e m n)
unfolding node_over
node_isotone e b k l m n low o high = add_isotone refl e.node (narrow76_of (sub_of (scale_int_of e.drift m n) e.turned)) (self b.node)
    (narrow76_isotone refl (sub_of (scale_int_of e.drift m n) e.turned) (sub_isotone refl (scale_int_of e.drift m n) e.turned (scale_int_isotone k l refl o e.drift record { lo = m; hi = n } (self b.drift) low high) (self b.turned)))

-- the elements that a place is made of directly
pub record PartsInside (e c : Elements) : Type 0 where
  pub semi_major_axis : IsInside e.semi_major_axis c.semi_major_axis
  pub eccentricity : IsInside e.eccentricity c.eccentricity
  pub semi_minor_axis : IsInside e.semi_minor_axis c.semi_minor_axis

pub perigee_x_isotone : (e c : Elements) (p q : PairEnds) → PartsInside e c → PairInside p q → IsInside (perifocal_x_of e p) (perifocal_x_of c q)
unfolding perifocal_x_of
perigee_x_isotone e c p q i j = mul_isotone refl c.semi_major_axis (sub_of q.cosine c.eccentricity) i.semi_major_axis (sub_isotone refl q.cosine c.eccentricity j.cosine i.eccentricity)

pub perigee_y_isotone : (e c : Elements) (p q : PairEnds) → PartsInside e c → PairInside p q → IsInside (perifocal_y_of e p) (perifocal_y_of c q)
unfolding perifocal_y_of
perigee_y_isotone e c p q i j = mul_isotone refl c.semi_minor_axis q.sine i.semi_minor_axis j.sine

pub node_x_isotone : (x y u v : Ends) (p q : PairEnds) → IsInside x u → IsInside y v → PairInside p q → IsInside (in_plane_x_of x y p) (in_plane_x_of u v q)
unfolding in_plane_x_of
node_x_isotone x y u v p q i j k = sub_isotone refl (mul_of u q.cosine) (mul_of v q.sine) (mul_isotone refl u q.cosine i k.cosine) (mul_isotone refl v q.sine j k.sine)

pub node_y_isotone : (x y u v : Ends) (p q : PairEnds) → IsInside x u → IsInside y v → PairInside p q → IsInside (in_plane_y_of x y p) (in_plane_y_of u v q)
unfolding in_plane_y_of
node_y_isotone x y u v p q i j k = add_isotone refl (mul_of u q.sine) (mul_of v q.cosine) (mul_isotone refl u q.sine i k.sine) (mul_isotone refl v q.cosine j k.cosine)

pub place_isotone : (x y u v : Ends) (o i p j : PairEnds) → IsInside x u → IsInside y v → PairInside o p → PairInside i j → VectorInside (place_of x y o i) (place_of u v p j)
unfolding place_of
place_isotone x y u v o i p j xi yi oi ii =
    let c : IsInside (mul_of y i.cosine) (mul_of v j.cosine) = mul_isotone refl v j.cosine yi ii.cosine in
    record {
      x = sub_isotone refl (mul_of u p.cosine) (mul_of (mul_of v j.cosine) p.sine) (mul_isotone refl u p.cosine xi oi.cosine) (mul_isotone refl (mul_of v j.cosine) p.sine c oi.sine);
      y = add_isotone refl (mul_of u p.sine) (mul_of (mul_of v j.cosine) p.cosine) (mul_isotone refl u p.sine xi oi.sine) (mul_isotone refl (mul_of v j.cosine) p.cosine c oi.cosine);
      z = mul_isotone refl v j.sine yi ii.sine;
    }

pub orbit_place_isotone : (e c : Elements) (a w o i b v p j : PairEnds) → PartsInside e c → PairInside a b → PairInside w v → PairInside o p → PairInside i j → VectorInside (orbit_place_of e a w o i) (orbit_place_of c b v p j)
unfolding orbit_place_of
orbit_place_isotone e c a w o i b v p j ei ai wi oi ii =
    let x = perigee_x_isotone e c a b ei ai in
    let y = perigee_y_isotone e c a b ei ai in
    place_isotone _ _ _ _ o i p j (node_x_isotone _ _ _ _ w v x y wi) (node_y_isotone _ _ _ _ w v x y wi) oi ii

parts_self : (e : Elements) → IsBounded e → PartsInside e e
parts_self e b = record { semi_major_axis = self b.semi_major_axis; eccentricity = self b.eccentricity; semi_minor_axis = self b.semi_minor_axis }

pub place_over_isotone : (e : Elements) → IsBounded e → (k l m n : ℤ) → m ≤ℤ k → k ≤ℤ l → l ≤ℤ n → VectorInside (place_over e k l) (place_over e m n)
unfolding place_over
place_over_isotone e b k l m n low o high =
    let eps = b.in_turns in
    orbit_place_isotone e e _ _ _ _ _ _ _ _ (parts_self e b)
    (ecc_isotone refl (mean_anomaly_over e m n) e.in_turns eps (mean_anomaly_isotone e b k l m n low o high) (inside_self e.in_turns eps.ordered))
    (sin_cos_isotone refl e.perigee (self b.perigee))
    (sin_cos_isotone refl (node_over e m n) (node_isotone e b k l m n low o high))
    (sin_cos_isotone refl e.inclination (self b.inclination))

pub position_isotone : (rec : AlmRecord) (first last f l : ℤ) → IsAlmRecord rec → f ≤ℤ first → first ≤ℤ last → last ≤ℤ l → VectorInside (position_of rec first last) (position_of rec f l)
unfolding position_of
position_isotone rec first last f l i low o high = place_over_isotone (elements_of rec) (elements_bounded rec i) (first -ℤ rec.toa_ms) (last -ℤ rec.toa_ms) (f -ℤ rec.toa_ms) (l -ℤ rec.toa_ms) (omega (arith, ints)) (omega (arith, ints)) (omega (arith, ints))

-- ---- enclosure
-- the mean anomaly of t
mean_lies : (e : Elements) (rec : AlmRecord) (k l t : ℤ) (r : Fraction) → Holds rec e → Lies e.motion 76 (r /ᶠ tau) → whole k ≤ᶠ elapsed rec t → elapsed rec t ≤ᶠ whole l → Lies (mean_anomaly_over e k l) 38 (mean_anomaly rec t r)
unfolding mean_anomaly_over
mean_lies e rec k l t r h n from to = add_encloses refl 38 (turns_of_angle rec.m0) (r /ᶠ tau *ᶠ elapsed rec t) h.mean_anomaly
    (narrow76_encloses refl 38 (r /ᶠ tau *ᶠ elapsed rec t) (scale_int_encloses k l refl 76 (r /ᶠ tau) (elapsed rec t) n from to))

-- the node at t
node_lies : (e : Elements) (rec : AlmRecord) (k l t : ℤ) → Holds rec e → whole k ≤ᶠ elapsed rec t → elapsed rec t ≤ᶠ whole l → Lies (node_over e k l) 38 (node rec t)
unfolding node_over
node_lies e rec k l t h from to =
    let drift : Fraction = (turns_of_rate rec.rate -ᶠ earth_rotation) *ᶠ elapsed rec t in
    let turned : Fraction = earth_rotation *ᶠ whole (int_rem_euclid rec.toa_ms (pos week_ms)) in
    subst (Lies (add_of e.node (narrow76_of (sub_of (scale_int_of e.drift k l) e.turned))) 38) (regroup (turns_of_angle rec.omega0) drift turned)
    (add_encloses refl 38 (turns_of_angle rec.omega0) (drift -ᶠ turned) h.node
    (narrow76_encloses refl 38 (drift -ᶠ turned) (sub_encloses refl 76 drift turned (scale_int_encloses k l refl 76 (turns_of_rate rec.rate -ᶠ earth_rotation) (elapsed rec t) h.drift from to) h.turned)))
  where
    regroup : (a b c : Fraction) → a +ᶠ (b -ᶠ c) ≡ a +ᶠ b -ᶠ c
    regroup a b c = identity (a ∷ b ∷ c ∷ []) (search quote depth 20) tt

perigee_x_lies : (e : Elements) (p : PairEnds) (A x s c : Fraction) → Lies e.semi_major_axis 38 A → Lies e.eccentricity 38 x → PairLies p s c → Lies (perifocal_x_of e p) 38 (A *ᶠ (c -ᶠ x))
unfolding perifocal_x_of
perigee_x_lies e p A x s c h k l = mul_encloses refl A (c -ᶠ x) h (sub_encloses refl 38 c x l.cosine k)

perigee_y_lies : (e : Elements) (p : PairEnds) (B s c : Fraction) → Lies e.semi_minor_axis 38 B → PairLies p s c → Lies (perifocal_y_of e p) 38 (B *ᶠ s)
unfolding perifocal_y_of
perigee_y_lies e p B s c h l = mul_encloses refl B s h l.sine

node_x_lies : (u v : Ends) (w : PairEnds) (x y s c : Fraction) → Lies u 38 x → Lies v 38 y → PairLies w s c → Lies (in_plane_x_of u v w) 38 (x *ᶠ c -ᶠ y *ᶠ s)
unfolding in_plane_x_of
node_x_lies u v w x y s c h k l = sub_encloses refl 38 (x *ᶠ c) (y *ᶠ s) (mul_encloses refl x c h l.cosine) (mul_encloses refl y s k l.sine)

node_y_lies : (u v : Ends) (w : PairEnds) (x y s c : Fraction) → Lies u 38 x → Lies v 38 y → PairLies w s c → Lies (in_plane_y_of u v w) 38 (x *ᶠ s +ᶠ y *ᶠ c)
unfolding in_plane_y_of
node_y_lies u v w x y s c h k l = add_encloses refl 38 (x *ᶠ s) (y *ᶠ c) (mul_encloses refl x s h l.sine) (mul_encloses refl y c k l.cosine)

place_lies : (u v : Ends) (o i : PairEnds) (x y so co si ci : Fraction) → Lies u 38 x → Lies v 38 y → PairLies o so co → PairLies i si ci
    → VectorLies (place_of u v o i) record { x = x *ᶠ co -ᶠ y *ᶠ ci *ᶠ so; y = x *ᶠ so +ᶠ y *ᶠ ci *ᶠ co; z = y *ᶠ si }
unfolding place_of
place_lies u v o i x y so co si ci h k l m =
    let c = mul_encloses refl y ci k m.cosine in
    record {
      x = sub_encloses refl 38 (x *ᶠ co) (y *ᶠ ci *ᶠ so) (mul_encloses refl x co h l.cosine) (mul_encloses refl (y *ᶠ ci) so c l.sine);
      y = add_encloses refl 38 (x *ᶠ so) (y *ᶠ ci *ᶠ co) (mul_encloses refl x so h l.sine) (mul_encloses refl (y *ᶠ ci) co c l.cosine);
      z = mul_encloses refl y si k m.sine;
    }

pub position_encloses : (rec : AlmRecord) (first last t : ℤ) → IsAlmRecord rec → first ≤ℤ t → t ≤ℤ last → (N : Level) (s : OrbitSolution N rec t) → VectorLies (position_of rec first last) (satellite_position s)
unfolding position_of place_over orbit_place_of
position_encloses rec first last t i low high N s =
    let e : Elements = elements_of rec in
    let b : IsBounded e = elements_bounded rec i in
    let h : Holds rec e = elements_hold rec i in
    let k : ℤ = first -ℤ rec.toa_ms in
    let l : ℤ = last -ℤ rec.toa_ms in
    let kl : k ≤ℤ l = omega (arith, ints) in
    let from : whole k ≤ᶠ elapsed rec t = ratio_mono 1 (omega (arith, ints)) in
    let to : elapsed rec t ≤ᶠ whole l = ratio_mono 1 (omega (arith, ints)) in
    let m : Lies (mean_anomaly_over e k l) 38 (mean_anomaly rec t s.motion) = mean_lies e rec k l t s.motion h (h.motion N s.motion s.motion_root) from to in
    let mo : (mean_anomaly_over e k l).lo ≤ℤ (mean_anomaly_over e k l).hi = (mean_anomaly_isotone e b k l k l (≤ℤ_refl k) kl (≤ℤ_refl l)).ordered in
    let no : (node_over e k l).lo ≤ℤ (node_over e k l).hi = (node_isotone e b k l k l (≤ℤ_refl k) kl (≤ℤ_refl l)).ordered in
    let a = ecc_encloses refl mo b.in_turns N (mean_anomaly rec t s.motion) (model_eccentricity rec /ᶠ tau) s.anomaly s.sin_anomaly s.cos_anomaly m h.in_turns s.anomaly_solves s.at_anomaly in
    let w = sin_cos_encloses refl b.perigee.ordered N (turns_of_angle rec.perigee) s.sin_perigee s.cos_perigee h.perigee s.at_perigee in
    let o = sin_cos_encloses refl no N (node rec t) s.sin_node s.cos_node (node_lies e rec k l t h from to) s.at_node in
    let c = sin_cos_encloses refl b.inclination.ordered N (turns_of_angle rec.incl) s.sin_incl s.cos_incl h.inclination s.at_incl in
    let x = perigee_x_lies e (ecc_sin_cos_of (mean_anomaly_over e k l) e.in_turns) (model_axis rec) (model_eccentricity rec) s.sin_anomaly s.cos_anomaly h.semi_major_axis h.eccentricity a in
    let y = perigee_y_lies e (ecc_sin_cos_of (mean_anomaly_over e k l) e.in_turns) (model_axis rec *ᶠ s.axis_ratio) s.sin_anomaly s.cos_anomaly (h.semi_minor_axis N s.axis_ratio s.axis_ratio_root) a in
    place_lies _ _ _ _ (in_plane_x s) (in_plane_y s) s.sin_node s.cos_node s.sin_incl s.cos_incl
    (node_x_lies _ _ _ (perifocal_x s) (perifocal_y s) s.sin_perigee s.cos_perigee x y w)
    (node_y_lies _ _ _ (perifocal_x s) (perifocal_y s) s.sin_perigee s.cos_perigee x y w) o c

-- ---- magnitude
-- the widest elements that a place is made of
abbrev wide_elements : Elements → Elements
wide_elements e = record {
  semi_major_axis = axis_ends;
  motion = e.motion;
  eccentricity = eccentricity_ends;
  in_turns = e.in_turns;
  semi_minor_axis = around (50 * 2 ^ 38);
  mean_anomaly = e.mean_anomaly;
  node = e.node;
  perigee = e.perigee;
  inclination = e.inclination;
  drift = e.drift;
  turned = e.turned;
}

parts_wide : (e : Elements) → IsBounded e → PartsInside e (wide_elements e)
parts_wide e b = record { semi_major_axis = b.semi_major_axis; eccentricity = b.eccentricity; semi_minor_axis = b.semi_minor_axis }

perigee_x_widest : (e : Elements) → IsInside (perifocal_x_of (wide_elements e) full_pair) (around (51 * 2 ^ 38))
unfolding perifocal_x_of mul_of mul_wide_of narrow76_of sub_of
perigee_x_widest e = record { low = record { le = tt }; ordered = record { le = tt }; high = record { le = tt } }

perigee_y_widest : (e : Elements) → IsInside (perifocal_y_of (wide_elements e) full_pair) (around (50 * 2 ^ 38))
unfolding perifocal_y_of mul_of mul_wide_of narrow76_of
perigee_y_widest e = record { low = record { le = tt }; ordered = record { le = tt }; high = record { le = tt } }

pub perigee_x_inside : (e : Elements) (p : PairEnds) → IsBounded e → PairInside p full_pair → IsInside (perifocal_x_of e p) (around (51 * 2 ^ 38))
perigee_x_inside e p b i = inside_trans (perigee_x_isotone e (wide_elements e) p full_pair (parts_wide e b) i) (perigee_x_widest e)

pub perigee_y_inside : (e : Elements) (p : PairEnds) → IsBounded e → PairInside p full_pair → IsInside (perifocal_y_of e p) (around (50 * 2 ^ 38))
perigee_y_inside e p b i = inside_trans (perigee_y_isotone e (wide_elements e) p full_pair (parts_wide e b) i) (perigee_y_widest e)

node_x_widest : IsInside (in_plane_x_of (around (51 * 2 ^ 38)) (around (50 * 2 ^ 38)) full_pair) (around (101 * 2 ^ 38))
unfolding in_plane_x_of mul_of mul_wide_of narrow76_of sub_of
node_x_widest = record { low = record { le = tt }; ordered = record { le = tt }; high = record { le = tt } }

node_y_widest : IsInside (in_plane_y_of (around (51 * 2 ^ 38)) (around (50 * 2 ^ 38)) full_pair) (around (101 * 2 ^ 38))
unfolding in_plane_y_of mul_of mul_wide_of narrow76_of add_of
node_y_widest = record { low = record { le = tt }; ordered = record { le = tt }; high = record { le = tt } }

pub node_x_inside : (x y : Ends) (p : PairEnds) → IsInside x (around (51 * 2 ^ 38)) → IsInside y (around (50 * 2 ^ 38)) → PairInside p full_pair → IsInside (in_plane_x_of x y p) (around (101 * 2 ^ 38))
node_x_inside x y p i j k = inside_trans (node_x_isotone x y (around (51 * 2 ^ 38)) (around (50 * 2 ^ 38)) p full_pair i j k) node_x_widest

pub node_y_inside : (x y : Ends) (p : PairEnds) → IsInside x (around (51 * 2 ^ 38)) → IsInside y (around (50 * 2 ^ 38)) → PairInside p full_pair → IsInside (in_plane_y_of x y p) (around (101 * 2 ^ 38))
node_y_inside x y p i j k = inside_trans (node_y_isotone x y (around (51 * 2 ^ 38)) (around (50 * 2 ^ 38)) p full_pair i j k) node_y_widest

turned_widest : IsInside (mul_of (around (101 * 2 ^ 38)) full_ends) (around (101 * 2 ^ 38))
unfolding mul_of mul_wide_of narrow76_of
turned_widest = record { low = record { le = tt }; ordered = record { le = tt }; high = record { le = tt } }

-- a component times a sine or a cosine is no greater
pub turned_inside : (y s : Ends) → IsInside y (around (101 * 2 ^ 38)) → IsInside s full_ends → IsInside (mul_of y s) (around (101 * 2 ^ 38))
turned_inside y s i j = inside_trans (mul_isotone refl (around (101 * 2 ^ 38)) full_ends i j) turned_widest

sum_below : {a b : Ends} → IsInside a (around (101 * 2 ^ 38)) → IsInside b (around (101 * 2 ^ 38)) → IsBelow (add_of a b) (2 ^ 46)
unfolding add_of
sum_below {a} {b} i j = let il = i.low in let ih = i.high in let jl = j.low in let jh = j.high in record { low = omega (arith, ints); high = omega (arith, ints) }

difference_below : {a b : Ends} → IsInside a (around (101 * 2 ^ 38)) → IsInside b (around (101 * 2 ^ 38)) → IsBelow (sub_of a b) (2 ^ 46)
unfolding sub_of
difference_below {a} {b} i j = let il = i.low in let ih = i.high in let jl = j.low in let jh = j.high in record { low = omega (arith, ints); high = omega (arith, ints) }

component_below : {a : Ends} → IsInside a (around (101 * 2 ^ 38)) → IsBelow a (2 ^ 46)
component_below {a} i = let il = i.low in let io = i.ordered in let ih = i.high in record { low = omega (arith, ints); high = omega (arith, ints) }

pub place_below : (x y : Ends) (o i : PairEnds) → IsInside x (around (101 * 2 ^ 38)) → IsInside y (around (101 * 2 ^ 38)) → PairInside o full_pair → PairInside i full_pair → VectorBelow (place_of x y o i) (2 ^ 46)
unfolding place_of
place_below x y o i xi yi oi ii =
    let c = turned_inside y i.cosine yi ii.cosine in
    record {
      x = difference_below (turned_inside x o.cosine xi oi.cosine) (turned_inside (mul_of y i.cosine) o.sine c oi.sine);
      y = sum_below (turned_inside x o.sine xi oi.sine) (turned_inside (mul_of y i.cosine) o.cosine c oi.cosine);
      z = component_below (turned_inside y i.sine yi ii.sine);
    }

pub orbit_place_below : (e : Elements) (a w o i : PairEnds) → IsBounded e → PairInside a full_pair → PairInside w full_pair → PairInside o full_pair → PairInside i full_pair → VectorBelow (orbit_place_of e a w o i) (2 ^ 46)
unfolding orbit_place_of
orbit_place_below e a w o i b ai wi oi ii =
    let x = perigee_x_inside e a b ai in
    let y = perigee_y_inside e a b ai in
    place_below _ _ o i (node_x_inside _ _ w x y wi) (node_y_inside _ _ w x y wi) oi ii

pub mean_anomaly_ordered : (e : Elements) → IsBounded e → (k l : ℤ) → k ≤ℤ l → (mean_anomaly_over e k l).lo ≤ℤ (mean_anomaly_over e k l).hi
mean_anomaly_ordered e b k l o = (mean_anomaly_isotone e b k l k l (≤ℤ_refl k) o (≤ℤ_refl l)).ordered

pub node_ordered : (e : Elements) → IsBounded e → (k l : ℤ) → k ≤ℤ l → (node_over e k l).lo ≤ℤ (node_over e k l).hi
node_ordered e b k l o = (node_isotone e b k l k l (≤ℤ_refl k) o (≤ℤ_refl l)).ordered

pub place_over_below : (e : Elements) → IsBounded e → (k l : ℤ) → k ≤ℤ l → VectorBelow (place_over e k l) (2 ^ 46)
unfolding place_over
place_over_below e b k l o = orbit_place_below e _ _ _ _ b
    (ecc_full (mean_anomaly_over e k l) e.in_turns (mean_anomaly_ordered e b k l o) b.in_turns)
    (sin_cos_full e.perigee b.perigee.ordered)
    (sin_cos_full (node_over e k l) (node_ordered e b k l o))
    (sin_cos_full e.inclination b.inclination.ordered)

pub position_below : (rec : AlmRecord) (first last : ℤ) → IsAlmRecord rec → first ≤ℤ last → VectorBelow (position_of rec first last) (2 ^ 46)
unfolding position_of
position_below rec first last i o = place_over_below (elements_of rec) (elements_bounded rec i) (first -ℤ rec.toa_ms) (last -ℤ rec.toa_ms) (omega (arith, ints))

-- ---- width, at one millisecond
-- a sine and a cosine are at most w wide
record PairNarrow (p : PairEnds) (w : ℕ) : Type 0 where
  sine : IsNarrow p.sine w
  cosine : IsNarrow p.cosine w

mean_anomaly_width : (e : Elements) (k : ℤ) → IsBounded e → IsFine e → IsInside record { lo = k; hi = k } (around 7776000000) → IsNarrow (mean_anomaly_over e k k) 5
unfolding mean_anomaly_over
mean_anomaly_width e k b f i = add_width f.mean_anomaly (narrow76_width (7776000000 * 4) 1 (scale_int_width (2 ^ 52) 7776000000 4 k (from_around b.motion) i f.motion) (lit≤ tt))

node_width : (e : Elements) (k : ℤ) → IsBounded e → IsFine e → IsInside record { lo = k; hi = k } (around 7776000000) → IsNarrow (node_over e k k) 5
unfolding node_over
node_width e k b f i = add_width f.node (narrow76_width (7776000000 * 4 + 2 ^ 31) 1 (sub_width (scale_int_width (2 ^ 51) 7776000000 4 k b.drift i f.drift) f.turned) (lit≤ tt))

sin_cos_width : (a : Ends) (v w : ℕ) → a.lo ≤ℤ a.hi → IsNarrow a v → 16 * v + 256 ≤ w → PairNarrow (sin_cos_of a) w
sin_cos_width a v w o n h =
    let s = sin_cos_narrow {a = a} refl o in
    let nw = n.width in
    record { sine = record { width = omega (arith, ints, s.0) }; cosine = record { width = omega (arith, ints, s.1) } }

ecc_width : (m eps : Ends) → m.lo ≤ℤ m.hi → IsEccentricityInTurns eps → IsNarrow m 5 → IsNarrow eps 2 → PairNarrow (ecc_sin_cos_of m eps) 2208
ecc_width m eps o i n h =
    let hw = h.width in
    let s = ecc_narrow {m = m} {eps = eps} refl o i (omega (arith, ints)) in
    let nw = n.width in
    record { sine = record { width = omega (arith, ints, s.0) }; cosine = record { width = omega (arith, ints, s.1) } }

pub cosine_less_widest : IsInside (sub_of full_ends eccentricity_ends) (around (2 ^ 38 + 2 ^ 33))
unfolding sub_of
cosine_less_widest = record { low = record { le = tt }; ordered = record { le = tt }; high = record { le = tt } }

perigee_x_width : (e : Elements) (p : PairEnds) → IsBounded e → IsFine e → PairInside p full_pair → PairNarrow p 2208 → IsNarrow (perifocal_x_of e p) 108246
unfolding perifocal_x_of
perigee_x_width e p b f i n = mul_width (49 * 2 ^ 38) (2 ^ 38 + 2 ^ 33) 2 2209 108244 (from_around b.semi_major_axis) (inside_trans (sub_isotone refl full_ends eccentricity_ends i.cosine b.eccentricity) cosine_less_widest) f.semi_major_axis (sub_width n.cosine f.eccentricity) (lit≤ tt)

perigee_y_width : (e : Elements) (p : PairEnds) → IsBounded e → IsFine e → PairInside p full_pair → PairNarrow p 2208 → IsNarrow (perifocal_y_of e p) 110603
unfolding perifocal_y_of
perigee_y_width e p b f i n = mul_width (50 * 2 ^ 38) (2 ^ 38) 201 2208 110601 b.semi_minor_axis i.sine f.semi_minor_axis n.sine (lit≤ tt)

node_x_width : (x y : Ends) (p : PairEnds) → IsInside x (around (51 * 2 ^ 38)) → IsInside y (around (50 * 2 ^ 38)) → PairInside p full_pair → IsNarrow x 108246 → IsNarrow y 110603 → PairNarrow p 288 → IsNarrow (in_plane_x_of x y p) 247941
unfolding in_plane_x_of
node_x_width x y p i j k v w n = sub_width (mul_width (51 * 2 ^ 38) (2 ^ 38) 108246 288 122934 i k.cosine v n.cosine (lit≤ tt)) (mul_width (50 * 2 ^ 38) (2 ^ 38) 110603 288 125003 j k.sine w n.sine (lit≤ tt))

node_y_width : (x y : Ends) (p : PairEnds) → IsInside x (around (51 * 2 ^ 38)) → IsInside y (around (50 * 2 ^ 38)) → PairInside p full_pair → IsNarrow x 108246 → IsNarrow y 110603 → PairNarrow p 288 → IsNarrow (in_plane_y_of x y p) 247941
unfolding in_plane_y_of
node_y_width x y p i j k v w n = add_width (mul_width (51 * 2 ^ 38) (2 ^ 38) 108246 288 122934 i k.sine v n.sine (lit≤ tt)) (mul_width (50 * 2 ^ 38) (2 ^ 38) 110603 288 125003 j k.cosine w n.cosine (lit≤ tt))

place_width : (x y : Ends) (o i : PairEnds) → IsInside x (around (101 * 2 ^ 38)) → IsInside y (around (101 * 2 ^ 38)) → PairInside o full_pair → PairInside i full_pair → IsNarrow x 247941 → IsNarrow y 247941 → PairNarrow o 336 → PairNarrow i 288 → VectorNarrow (place_of x y o i) 592848
unfolding place_of
place_width x y o i xi yi oi ii xn yn on in_ =
    let c = turned_inside y i.cosine yi ii.cosine in
    let cn : IsNarrow (mul_of y i.cosine) 277031 = mul_width (101 * 2 ^ 38) (2 ^ 38) 247941 288 277029 yi ii.cosine yn in_.cosine (lit≤ tt) in
    record {
      x = sub_width (mul_width (101 * 2 ^ 38) (2 ^ 38) 247941 336 281877 xi oi.cosine xn on.cosine (lit≤ tt)) (mul_width (101 * 2 ^ 38) (2 ^ 38) 277031 336 310967 c oi.sine cn on.sine (lit≤ tt));
      y = add_width (mul_width (101 * 2 ^ 38) (2 ^ 38) 247941 336 281877 xi oi.sine xn on.sine (lit≤ tt)) (mul_width (101 * 2 ^ 38) (2 ^ 38) 277031 336 310967 c oi.cosine cn on.cosine (lit≤ tt));
      z = narrow_weaken (lit≤ tt) (mul_width (101 * 2 ^ 38) (2 ^ 38) 247941 288 277029 yi ii.sine yn in_.sine (lit≤ tt));
    }

orbit_place_width : (e : Elements) (a w o i : PairEnds) → IsBounded e → IsFine e → PairInside a full_pair → PairInside w full_pair → PairInside o full_pair → PairInside i full_pair → PairNarrow a 2208 → PairNarrow w 288 → PairNarrow o 336 → PairNarrow i 288 → VectorNarrow (orbit_place_of e a w o i) 592848
unfolding orbit_place_of
orbit_place_width e a w o i b f ai wi oi ii an wn on in_ =
    let x = perigee_x_inside e a b ai in
    let y = perigee_y_inside e a b ai in
    let xn = perigee_x_width e a b f ai an in
    let yn = perigee_y_width e a b f ai an in
    place_width _ _ o i (node_x_inside _ _ w x y wi) (node_y_inside _ _ w x y wi) oi ii (node_x_width _ _ w x y wi xn yn wn) (node_y_width _ _ w x y wi xn yn wn) on in_

pub place_over_width : (e : Elements) (k : ℤ) → IsBounded e → IsFine e → IsInside record { lo = k; hi = k } (around 7776000000) → VectorNarrow (place_over e k k) 592848
unfolding place_over
place_over_width e k b f i =
    let mo = mean_anomaly_ordered e b k k (≤ℤ_refl k) in
    let no = node_ordered e b k k (≤ℤ_refl k) in
    orbit_place_width e _ _ _ _ b f
    (ecc_full (mean_anomaly_over e k k) e.in_turns mo b.in_turns) (sin_cos_full e.perigee b.perigee.ordered) (sin_cos_full (node_over e k k) no) (sin_cos_full e.inclination b.inclination.ordered)
    (ecc_width (mean_anomaly_over e k k) e.in_turns mo b.in_turns (mean_anomaly_width e k b f i) f.in_turns)
    (sin_cos_width e.perigee 2 288 b.perigee.ordered f.perigee (lit≤ tt))
    (sin_cos_width (node_over e k k) 5 336 no (node_width e k b f i) (lit≤ tt))
    (sin_cos_width e.inclination 2 288 b.inclination.ordered f.inclination (lit≤ tt))

-- the milliseconds since the time of applicability are within 90 days
pub elapsed_inside : (rec : AlmRecord) (t : ℤ) → IsApplicable rec t → IsInside record { lo = t -ℤ rec.toa_ms; hi = t -ℤ rec.toa_ms } (around 7776000000)
elapsed_inside rec t a = let l = a.not_before in let h = a.not_after in record { low = omega (arith, ints); ordered = ≤ℤ_refl (t -ℤ rec.toa_ms); high = omega (arith, ints) }

pub position_width : (rec : AlmRecord) (t : ℤ) → IsAlmRecord rec → IsApplicable rec t → VectorNarrow (position_of rec t t) (2 ^ 20)
unfolding position_of
position_width rec t i a =
    let n = place_over_width (elements_of rec) (t -ℤ rec.toa_ms) (elements_bounded rec i) (elements_fine rec i) (elapsed_inside rec t a) in
    record { x = narrow_weaken (lit≤ tt) n.x; y = narrow_weaken (lit≤ tt) n.y; z = narrow_weaken (lit≤ tt) n.z }
