-- What the forms of a place and of a frame hold, where there are any.
use Rattle.std.proofs.Common.{arith, sym, subst, ◌≡◌, ◌<◌, ℕ, ℤ, ◌+ℤ◌, ◌-ℤ◌, ◌*ℤ◌, ◌≤ℤ◌, ◌<ℤ◌, Some, unsigned_abs, [], ◌∷◌}
use Rattle.std.proofs.lemmas.Int.{ints, clamps}
use Rattle.std.proofs.lemmas.Option.{same_Some}
use Rattle.std.specs.Int.{int_min, int_max}
use Rattle.whole_numbers.proofs.Certificates.{at_most, not_negative}
use Rattle.whole_numbers.proofs.Quote.{quote, identity}
use Rattle.raim_model.specs.declared.Waypoint.{Waypoint}
use Rattle.raim_model.specs.Ranges.{IsWaypoint}
use Rattle.fix_interval.specs.Ends.{Ends}
use Rattle.fix_interval.specs.Bounds.{hull_of}
use Rattle.fix_interval.specs.Decimals.{from_dec_over_of}
use Rattle.fix_interval.specs.Quotients.{div_int_of}
use Rattle.fix_interval.proofs.EndSums.{same_ends}
use Rattle.site_laws.specs.Places.{at_of, along_of, place_over_of}
use Rattle.site_laws.proofs.PlaceOver.{latitude_inside, longitude_inside, height_inside}
use Rattle.time_forms.specs.Forms.{IsTime, Holds}
use Rattle.time_forms.specs.Programs.{short_of}
use Rattle.time_forms.proofs.Known.{moving_holds}
use Rattle.time_forms.proofs.Coarser.{coarser_holds}
use Rattle.angle_forms.proofs.Steps.{then_some, short_holds}
use Rattle.site_forms.specs.Places.{PlaceForm, PlaceHolds, weighted_of, growth_of, along_form, checked_place_over}

-- ---- along a leg
-- the value at a time after the middle
moved : (a b s e m d : ℤ) → (a *ℤ (e -ℤ m) +ℤ b *ℤ (m -ℤ s)) +ℤ (b -ℤ a) *ℤ d ≡ a *ℤ (e -ℤ (m +ℤ d)) +ℤ b *ℤ ((m +ℤ d) -ℤ s)
moved a b s e m d = identity (a ∷ b ∷ s ∷ e ∷ m ∷ d ∷ []) (search quote depth 20) tt

-- the lower is not above the upper
in_order : (al ah bl bh s e t : ℤ) → s ≤ℤ t → t ≤ℤ e → al ≤ℤ ah → bl ≤ℤ bh → (al *ℤ (e -ℤ t) +ℤ bl *ℤ (t -ℤ s)) ≤ℤ (ah *ℤ (e -ℤ t) +ℤ bh *ℤ (t -ℤ s))
in_order al ah bl bh s e t p q a b = at_most (al ∷ ah ∷ bl ∷ bh ∷ s ∷ e ∷ t ∷ []) ((ah -ℤ al) *ℤ (e -ℤ t) +ℤ (bh -ℤ bl) *ℤ (t -ℤ s)) (search not_negative) (search quote depth 20) tt

-- the hull of one value
one_hull : (e : Ends) → hull_of e e ≡ e
unfolding hull_of
one_hull e = same_ends (least e.lo) (greatest e.hi)
  where
    least : (x : ℤ) → int_min x x ≡ x
    least x = omega (arith, ints, clamps)

    greatest : (x : ℤ) → int_max x x ≡ x
    greatest x = omega (arith, ints, clamps)

along-at : (s e m d : ℤ) (a b : Ends) → div_int_of record { lo = (weighted_of s e m a b).lo +ℤ (growth_of a b).lo *ℤ d; hi = (weighted_of s e m a b).hi +ℤ (growth_of a b).hi *ℤ d } (unsigned_abs (e -ℤ s)) ≡ along_of s e (m +ℤ d) (m +ℤ d) a b
unfolding along_of at_of div_int_of
along-at s e m d a b = rw (moved a.lo b.lo s e m d, moved a.hi b.hi s e m d) (sym (one_hull (at_of s e (m +ℤ d) a b)))

length_positive : (s e : ℤ) → s <ℤ e → 0 < unsigned_abs (e -ℤ s)
length_positive s e h = omega (arith, ints)

pub along_holds : {h : ℕ} {d : ℤ} (s e m : ℤ) (a b : Ends) → IsTime h d → s ≤ℤ (m +ℤ d) → (m +ℤ d) <ℤ e → a.lo ≤ℤ a.hi → b.lo ≤ℤ b.hi → Holds h d (along_form s e m h a b) (along_of s e (m +ℤ d) (m +ℤ d) a b)
unfolding along_form
along_holds {h} {d} s e m a b t p q oa ob =
    let o = rw (sym (moved a.lo b.lo s e m d), sym (moved a.hi b.hi s e m d)) at (in_order a.lo a.hi b.lo b.hi s e (m +ℤ d) p (weaker q) oa ob) in
    subst (λ (x : Ends). Holds h d (along_form s e m h a b) x) (along-at s e m d a b)
    (coarser_holds (unsigned_abs (e -ℤ s)) _ _ (length_positive s e (apart p q)) t (moving_holds (weighted_of s e m a b) (growth_of a b) t o))
  where
    weaker : {y z : ℤ} → y <ℤ z → y ≤ℤ z
    weaker h = omega (arith, ints)

    apart : s ≤ℤ (m +ℤ d) → (m +ℤ d) <ℤ e → s <ℤ e
    apart h k = omega (arith, ints)

pub place_over_holds : {h : ℕ} {d : ℤ} (start stop : Waypoint) (m : ℤ) (f : PlaceForm) → IsWaypoint start → IsWaypoint stop → IsTime h d → start.at ≤ℤ (m +ℤ d) → (m +ℤ d) <ℤ stop.at → checked_place_over start stop m h ≡ Some f → PlaceHolds h d f (place_over_of start stop (m +ℤ d) (m +ℤ d))
unfolding checked_place_over place_over_of
place_over_holds {h} {d} start stop m f i j t p q e =
    then_some _ (short_of (along_form start.at stop.at m h (from_dec_over_of start.lat 360) (from_dec_over_of stop.lat 360))) f e (λ a ea e1.
    then_some _ (short_of (along_form start.at stop.at m h (from_dec_over_of start.lon 360) (from_dec_over_of stop.lon 360))) f e1 (λ b eb e2.
    then_some _ (short_of (along_form start.at stop.at m h (from_dec_over_of start.height 1000000) (from_dec_over_of stop.height 1000000))) f e2 (λ c ec e3.
    subst (λ (g : PlaceForm). PlaceHolds h d g (place_over_of start stop (m +ℤ d) (m +ℤ d))) (same_Some _ _ e3) record {
      lat = short_holds _ a _ ea (along_holds start.at stop.at m _ _ t p q (latitude_inside start.lat i.latitude).ordered (latitude_inside stop.lat j.latitude).ordered);
      lon = short_holds _ b _ eb (along_holds start.at stop.at m _ _ t p q (longitude_inside start.lon i.longitude).ordered (longitude_inside stop.lon j.longitude).ordered);
      height = short_holds _ c _ ec (along_holds start.at stop.at m _ _ t p q (height_inside start.height i.height).ordered (height_inside stop.height j.height).ordered);
    })))
