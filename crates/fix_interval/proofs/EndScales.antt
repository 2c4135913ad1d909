-- Scaling outward by a ratio, going a unit outward, and 1: what they hold, and that they are isotone.
use Rattle.std.specs.Prelude.{◌≡◌, ℕ, ℤ, pos, negsuc, ◌*◌, ◌^◌, ◌<◌, refl, ◌*ℤ◌, [], ◌∷◌}
use Rattle.std.proofs.Common.{arith, ap, sym, ◌∙◌, subst, mul-pos}
use Rattle.std.proofs.lemmas.Int.{ints}
use Rattle.std.proofs.lemmas.Nat.{pow_pos}
use lib.Dec.{lit≤}
use Rattle.whole_numbers.proofs.Divisions.{floor_of_mono, ceil_of_mono}
use Rattle.whole_numbers.proofs.Integers.{not_negative_natural}
use Rattle.whole_numbers.proofs.Products.{*ℤ_mono_left}
use Rattle.fractions.specs.Fraction.{Fraction, ratio, oneᶠ, ◌+ᶠ◌, ◌-ᶠ◌, ◌*ᶠ◌, ◌≤ᶠ◌, IsNear}
use Rattle.fractions.proofs.Certificates.{not_negative, at_most}
use Rattle.fractions.proofs.Floors.{ratio-floor_of, ratio-ceil_of}
use Rattle.fractions.proofs.Laws.{≤ᶠ_trans, ≤ᶠ_refl, *ᶠ_mono_left, *ᶠ_comm, *ᶠ_assoc}
use Rattle.fractions.proofs.Quote.{quote}
use Rattle.fractions.proofs.Ratios.{ratio-mul, ratio-add, ratio-same, not_negative_ratio, neg-ratio}
use Rattle.fractions.proofs.StrictOrder.{*ᶠ_cancel, positive_ratio}
use Rattle.fix_interval.specs.Bounds.{widen_of}
use Rattle.fix_interval.specs.Ends.{Ends, IsInside}
use Rattle.fix_interval.specs.Lies.{Lies}
use Rattle.fix_interval.specs.Quotients.{scale_of}
use Rattle.fix_interval.specs.Ranges.{one_ends}
use Rattle.fix_interval.proofs.EndProducts.{rounded_ordered}

-- an end times p / q
scaled : (z : ℤ) (p q s : ℕ) → 0 < q → ratio (z *ℤ pos p) (q * 2 ^ s) ≡ ratio (pos p) q *ᶠ ratio z (2 ^ s)
scaled z p q s h = ap (λ t. ratio t (q * 2 ^ s)) (turned z p) ∙ sym (ratio-mul (pos p) z q (2 ^ s) h (pow_pos s))
  where
    turned : (z : ℤ) (p : ℕ) → z *ℤ pos p ≡ pos p *ℤ z
    turned z p = omega (arith, ints)

-- the product of a choice with p / q lies in it
pub scale_encloses : {a r : Ends} (p q : ℕ) → r ≡ scale_of a p q → 0 < q → (s : ℕ) (x : Fraction) → Lies a s x → Lies r s (ratio (pos p) q *ᶠ x)
unfolding scale_of
scale_encloses {a} {r} p q e h s x l =
    let up : ratio (pos p) q *ᶠ ratio a.lo (2 ^ s) ≤ᶠ ratio (pos p) q *ᶠ x = rw (*ᶠ_comm (ratio (pos p) q) x, *ᶠ_comm (ratio (pos p) q) (ratio a.lo (2 ^ s))) (*ᶠ_mono_left (not_negative_ratio p q) l.low) in
    let down : ratio (pos p) q *ᶠ x ≤ᶠ ratio (pos p) q *ᶠ ratio a.hi (2 ^ s) = rw (*ᶠ_comm (ratio (pos p) q) x, *ᶠ_comm (ratio (pos p) q) (ratio a.hi (2 ^ s))) (*ᶠ_mono_left (not_negative_ratio p q) l.high) in
    rw e record {
      low = ≤ᶠ_trans (ratio-floor_of (a.lo *ℤ pos p) q (2 ^ s) h (pow_pos s)) (rw (scaled a.lo p q s h) up);
      high = ≤ᶠ_trans down (rw (sym (scaled a.hi p q s h)) (ratio-ceil_of (a.hi *ℤ pos p) q (2 ^ s) h (pow_pos s)));
    }

-- what is within a unit of a choice lies a unit outward
pub widen_encloses : {a r : Ends} → r ≡ widen_of a → (s : ℕ) (x y : Fraction) → Lies a s x → IsNear y x (ratio (pos 1) (2 ^ s)) → Lies r s y
unfolding widen_of
widen_encloses {a} {r} e s x y l h = rw e record {
  low = rw (sym (ratio-add a.lo (negsuc 0) (2 ^ s))) (rw (sym (neg-ratio (pos 1) (2 ^ s))) (at_most (ratio a.lo (2 ^ s) ∷ x ∷ y ∷ ratio (pos 1) (2 ^ s) ∷ []) ((x -ᶠ ratio a.lo (2 ^ s)) +ᶠ ((y +ᶠ ratio (pos 1) (2 ^ s)) -ᶠ x)) (search not_negative) (search quote depth 20) tt));
  high = rw (sym (ratio-add a.hi (pos 1) (2 ^ s))) (at_most (ratio a.hi (2 ^ s) ∷ x ∷ y ∷ ratio (pos 1) (2 ^ s) ∷ []) ((ratio a.hi (2 ^ s) -ᶠ x) +ᶠ ((x +ᶠ ratio (pos 1) (2 ^ s)) -ᶠ y)) (search not_negative) (search quote depth 20) tt);
}

-- 1 lies in its ends
pub one_lies : Lies one_ends 38 oneᶠ
one_lies = let e : ratio (pos (2 ^ 38)) (2 ^ 38) ≡ oneᶠ = ratio-same (pos (2 ^ 38)) (pos 1) (2 ^ 38) 1 (pow_pos 38) (lit≤ tt) refl in record { low = rw e (≤ᶠ_refl oneᶠ); high = rw e (≤ᶠ_refl oneᶠ) }

-- wider ends are wider when scaled
pub scale_isotone : {a c : Ends} (p q : ℕ) → 0 < q → IsInside a c → IsInside (scale_of a p q) (scale_of c p q)
unfolding scale_of
scale_isotone {a} {c} p q h i = record {
  low = floor_of_mono (c.lo *ℤ pos p) (a.lo *ℤ pos p) q h (*ℤ_mono_left c.lo a.lo (pos p) (not_negative_natural p) i.low);
  ordered = rounded_ordered (a.lo *ℤ pos p) (a.hi *ℤ pos p) q h (*ℤ_mono_left a.lo a.hi (pos p) (not_negative_natural p) i.ordered);
  high = ceil_of_mono (a.hi *ℤ pos p) (c.hi *ℤ pos p) q h (*ℤ_mono_left a.hi c.hi (pos p) (not_negative_natural p) i.high);
}

-- ---- from scale 76 to scale 38
-- what lies at scale 76 with 38 places less, lies at scale 38
pub coarser : {r : Ends} (x : Fraction) → Lies r 76 (ratio (pos 1) (2 ^ 38) *ᶠ x) → Lies r 38 x
coarser {r} x l = record {
  low = *ᶠ_cancel (positive_ratio 1 (2 ^ 38) (lit≤ tt)) (rw (fine r.lo, *ᶠ_comm x (ratio (pos 1) (2 ^ 38))) l.low);
  high = *ᶠ_cancel (positive_ratio 1 (2 ^ 38) (lit≤ tt)) (rw (fine r.hi, *ᶠ_comm x (ratio (pos 1) (2 ^ 38))) l.high);
}
  where
    fine : (z : ℤ) → ratio z (2 ^ 38) *ᶠ ratio (pos 1) (2 ^ 38) ≡ ratio z (2 ^ 76)
    fine z = ratio-mul z (pos 1) (2 ^ 38) (2 ^ 38) (pow_pos 38) (pow_pos 38) ∙ ap (λ t. ratio t (2 ^ 76)) (once z)
      where
        once : (z : ℤ) → z *ℤ pos 1 ≡ z
        once z = omega (arith, ints)

-- times p / q, and 38 places less
pub scale_coarser : {a r : Ends} (p q : ℕ) → r ≡ scale_of a p (q * 2 ^ 38) → 0 < q → (x : Fraction) → Lies a 76 x → Lies r 38 (ratio (pos p) q *ᶠ x)
scale_coarser {a} {r} p q e h x l =
    let m = scale_encloses p (q * 2 ^ 38) e (mul-pos h (pow_pos 38)) 76 x l in
    coarser (ratio (pos p) q *ᶠ x) (subst (Lies r 76) (ap (λ t. t *ᶠ x) (split p q h) ∙ *ᶠ_assoc (ratio (pos 1) (2 ^ 38)) (ratio (pos p) q) x) m)
  where
    split : (p q : ℕ) → 0 < q → ratio (pos p) (q * 2 ^ 38) ≡ ratio (pos 1) (2 ^ 38) *ᶠ ratio (pos p) q
    split p q h = sym (ratio-mul (pos 1) (pos p) (2 ^ 38) q (pow_pos 38) h ∙ ratio-same (pos (1 * p)) (pos p) (2 ^ 38 * q) (q * 2 ^ 38) (mul-pos (pow_pos 38) h) (mul-pos h (pow_pos 38)) (omega (arith, ints)))
