-- From the inequality that intervals certify, which has no division, to whether a slope is too steep.
use Rattle.std.specs.Prelude.{◌≡◌, Bool, true, false, not, T, List, [], ◌∷◌, map, refl}
use Rattle.std.proofs.Common.{ap, sym, ◌∙◌}
use Rattle.fractions.specs.Fraction.{Fraction, zeroᶠ, ◌+ᶠ◌, ◌-ᶠ◌, ◌*ᶠ◌, ◌≤ᶠ◌, ◌<ᶠ◌, is_at_most}
use Rattle.fractions.proofs.Laws.{*ᶠ_mono_left, not_negative_square}
use Rattle.fractions.proofs.StrictOrder.{<ᶠ_from_not, <ᶠ_not, <ᶠ_≤ᶠ_trans, *ᶠ_cancel, positive_product, positive_apart, positive_numeral}
use Rattle.fractions.proofs.Quote.{quote, identity}
use Rattle.raim_model.specs.Constants.{least_determinant}
use Rattle.raim_model.specs.Geometry.{Axis, Row, Matrix, normal_matrix, determinant, IsInverse, inverse_of, SquaredShift, residual_share}
use Rattle.raim_model.specs.PointVerdict.{is_below, is_steep, without_one}
use Rattle.geometry_laws.specs.Minors.{adjugate}
use Rattle.geometry_laws.specs.Shifts.{IsSquare}
use Rattle.geometry_laws.proofs.Cramer.{inverse_of_is}
use Rattle.geometry_laws.proofs.Certified.{times_shift}
use Rattle.slope_laws.proofs.Removal.{residual_is, det_same}

true_of : (b : Bool) → T b → b ≡ true
true_of true t = refl
true_of false t = absurd t

pub below_is : {x y : Fraction} → x <ᶠ y → is_below x y ≡ true
below_is {x} {y} h = true_of (is_below x y) h.lt

pub below_is_not : {x y : Fraction} → y ≤ᶠ x → is_below x y ≡ false
below_is_not {x} {y} h = ap not (true_of (is_at_most y x) h.le)

-- a determinant that counts as regular is above 0
pub regular : {d : Fraction} → least_determinant ≤ᶠ d → zeroᶠ <ᶠ d
regular {d} h = <ᶠ_≤ᶠ_trans (positive_numeral 1 1024 tt) h

-- a row, and the sums of products of the rows without it
abbrev pub AreRemoved : List Row → List Row → List (List Row) → Type 0
AreRemoved all [] [] = Unit {0}
AreRemoved all (g ∷ gs) (hs ∷ hss) = ((j k : Axis) → normal_matrix hs j k ≡ normal_matrix all j k -ᶠ g j *ᶠ g k) × AreRemoved all gs hss
AreRemoved all gs hss = ⊥

removed_behind : (f : Row) (all gs : List Row) (hss : List (List Row)) → AreRemoved all gs hss → AreRemoved (f ∷ all) gs (map (λ hs. f ∷ hs) hss)
unfolding normal_matrix
removed_behind f all [] [] h = tt
removed_behind f all (g ∷ gs) (hs ∷ hss) h = (
  λ j k. ap (λ t. f j *ᶠ f k +ᶠ t) (h.0 j k) ∙ regroup (f j *ᶠ f k) (normal_matrix all j k) (g j *ᶠ g k),
  removed_behind f all gs hss h.1,
)
  where
    regroup : (x y z : Fraction) → x +ᶠ (y -ᶠ z) ≡ (x +ᶠ y) -ᶠ z
    regroup x y z = identity (x ∷ y ∷ z ∷ []) (search quote depth 20) tt
removed_behind f all [] (hs ∷ hss) h = absurd h
removed_behind f all (g ∷ gs) [] h = absurd h

pub are_removed : (gs : List Row) → AreRemoved gs gs (without_one gs)
unfolding normal_matrix
are_removed [] = tt
are_removed (g ∷ gs) = (
  λ j k. regroup (g j *ᶠ g k) (normal_matrix gs j k),
  removed_behind g gs gs (without_one gs) (are_removed gs),
)
  where
    regroup : (x y : Fraction) → y ≡ (x +ᶠ y) -ᶠ x
    regroup x y = identity (x ∷ y ∷ []) (search quote depth 20) tt

-- D S_ii is D_i
pub residual_is_less : (gs hs : List Row) (g : Row) (X : Matrix) → IsInverse (normal_matrix gs) X → ((j k : Axis) → normal_matrix hs j k ≡ normal_matrix gs j k -ᶠ g j *ᶠ g k)
    → determinant (normal_matrix gs) *ᶠ residual_share X g ≡ determinant (normal_matrix hs)
residual_is_less gs hs g X v e = residual_is (normal_matrix gs) X g v ∙ sym (det_same (normal_matrix hs) (λ j k. normal_matrix gs j k -ᶠ g j *ᶠ g k) e)

-- the scaled slope is the slope times D^2
scaled_is : (shift : SquaredShift) → IsSquare shift → (gs : List Row) (g : Row) (X : Matrix) (k : Fraction) → IsInverse (normal_matrix gs) X
    → k *ᶠ shift (adjugate (normal_matrix gs)) g ≡ (k *ᶠ shift X g) *ᶠ (determinant (normal_matrix gs) *ᶠ determinant (normal_matrix gs))
scaled_is shift s gs g X k v = ap (λ t. k *ᶠ t) (times_shift shift s (normal_matrix gs) X v g) ∙ turn (determinant (normal_matrix gs)) (shift X g) k
  where
    turn : (d a k : Fraction) → k *ᶠ ((d *ᶠ d) *ᶠ a) ≡ (k *ᶠ a) *ᶠ (d *ᶠ d)
    turn d a k = identity (d ∷ a ∷ k ∷ []) (search quote depth 20) tt

share_is : (gs hs : List Row) (g : Row) (X : Matrix) → IsInverse (normal_matrix gs) X → ((j k : Axis) → normal_matrix hs j k ≡ normal_matrix gs j k -ᶠ g j *ᶠ g k)
    → determinant (normal_matrix gs) *ᶠ determinant (normal_matrix hs) ≡ residual_share X g *ᶠ (determinant (normal_matrix gs) *ᶠ determinant (normal_matrix gs))
share_is gs hs g X v e = rw (← residual_is_less gs hs g X v e) (turn (determinant (normal_matrix gs)) (residual_share X g))
  where
    turn : (d s : Fraction) → d *ᶠ (d *ᶠ s) ≡ s *ᶠ (d *ᶠ d)
    turn d s = identity (d ∷ s ∷ []) (search quote depth 20) tt

pub not_steep : (shift : SquaredShift) → IsSquare shift → (gs hs : List Row) (g : Row) (k : Fraction) → least_determinant ≤ᶠ determinant (normal_matrix gs) → ((a b : Axis) → normal_matrix hs a b ≡ normal_matrix gs a b -ᶠ g a *ᶠ g b)
    → k *ᶠ shift (adjugate (normal_matrix gs)) g ≤ᶠ determinant (normal_matrix gs) *ᶠ determinant (normal_matrix hs) → is_steep shift k (inverse_of (normal_matrix gs)) g ≡ false
unfolding is_steep
not_steep shift s gs hs g k r e h =
    let d : zeroᶠ <ᶠ determinant (normal_matrix gs) = regular r in
    let v : IsInverse (normal_matrix gs) (inverse_of (normal_matrix gs)) = inverse_of_is (normal_matrix gs) (positive_apart d) in
    let p = rw (scaled_is shift s gs g (inverse_of (normal_matrix gs)) k v, share_is gs hs g (inverse_of (normal_matrix gs)) v e) at h in
    below_is_not (*ᶠ_cancel (positive_product (determinant (normal_matrix gs)) (determinant (normal_matrix gs)) d d) p)

pub steep : (shift : SquaredShift) → IsSquare shift → (gs hs : List Row) (g : Row) (k : Fraction) → least_determinant ≤ᶠ determinant (normal_matrix gs) → ((a b : Axis) → normal_matrix hs a b ≡ normal_matrix gs a b -ᶠ g a *ᶠ g b)
    → determinant (normal_matrix gs) *ᶠ determinant (normal_matrix hs) <ᶠ k *ᶠ shift (adjugate (normal_matrix gs)) g → is_steep shift k (inverse_of (normal_matrix gs)) g ≡ true
unfolding is_steep
steep shift s gs hs g k r e h =
    let d : zeroᶠ <ᶠ determinant (normal_matrix gs) = regular r in
    let X : Matrix = inverse_of (normal_matrix gs) in
    let v : IsInverse (normal_matrix gs) X = inverse_of_is (normal_matrix gs) (positive_apart d) in
    let p = rw (scaled_is shift s gs g X k v, share_is gs hs g X v e) at h in
    below_is (<ᶠ_from_not (residual_share X g) (k *ᶠ shift X g) (λ q. <ᶠ_not p (*ᶠ_mono_left (not_negative_square (determinant (normal_matrix gs))) q)))
