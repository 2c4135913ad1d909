-- What follows its tangent lies in the form of the line.
use Rattle.std.specs.Prelude.{◌≡◌, ℕ, ℤ, pos, ◌^◌, ◌+ℤ◌, ◌-ℤ◌, ◌*ℤ◌, ◌≤ℤ◌, [], ◌∷◌}
use Rattle.std.proofs.Common.{arith, ap, ap₂, sym, ◌∙◌, subst}
use Rattle.std.proofs.lemmas.Int.{ints}
use lib.Dec.{lit≤}
use Rattle.whole_numbers.specs.Rounding.{floor_of}
use Rattle.whole_numbers.proofs.Divisions.{floor_of_low}
use Rattle.fractions.specs.Fraction.{Fraction, ratio, oneᶠ, ◌+ᶠ◌, ◌-ᶠ◌, ◌*ᶠ◌, neg, ◌≤ᶠ◌, IsNear}
use Rattle.fractions.proofs.Certificates.{at_most, not_negative, constants}
use Rattle.fractions.proofs.Laws.{≤ᶠ_refl, ≤ᶠ_trans}
use Rattle.fractions.proofs.Quote.{quote, identity}
use Rattle.fractions.proofs.Near.{near_weaken}
use Rattle.raim_model.specs.Constants.{tau}
use Rattle.fix_interval.specs.Ends.{Ends}
use Rattle.fix_interval.specs.Lies.{Lies}
use Rattle.series_laws.proofs.Turns.{IsWithinOne}
use Rattle.time_forms.specs.Forms.{Form, IsTime, Holds, size}
use Rattle.time_forms.specs.Operations.{fixed_of, neg_form}
use Rattle.time_forms.proofs.FormSpans.{holds_both}
use Rattle.orbit_forms.specs.Lines.{turn_units, radians_of, bend_of, line_form}
use Rattle.orbit_forms.proofs.Units.{units, unit, part_of, line_at, units-add, units-neg, units-sub, units-times, units_mono, product_floor, line_near, part_low, part_high, size_units_high, size_units_low}

-- ---- fractions
-- a factor of at most m
pub near_factor : (k m a b e : Fraction) → neg m ≤ᶠ k → k ≤ᶠ m → IsNear a b e → IsNear (k *ᶠ a) (k *ᶠ b) (m *ᶠ e)
near_factor k m a b e l u n =
    let nl : a ≤ᶠ b +ᶠ e = n.low in
    let nh : b ≤ᶠ a +ᶠ e = n.high in
    record {
      low = at_most (k ∷ m ∷ a ∷ b ∷ e ∷ []) (ratio (pos 1) 2 *ᶠ ((k -ᶠ neg m) *ᶠ ((b +ᶠ e) -ᶠ a) +ᶠ (m -ᶠ k) *ᶠ ((a +ᶠ e) -ᶠ b))) (search not_negative depth 10) (search quote depth 20) tt;
      high = at_most (k ∷ m ∷ a ∷ b ∷ e ∷ []) (ratio (pos 1) 2 *ᶠ ((m -ᶠ k) *ᶠ ((b +ᶠ e) -ᶠ a) +ᶠ (k -ᶠ neg m) *ᶠ ((a +ᶠ e) -ᶠ b))) (search not_negative depth 10) (search quote depth 20) tt;
    }

abbrev pub gap44 : Fraction
gap44 = ratio (pos 1) (2 ^ 44)

-- what a slope turns, where it and the turns are rounded
pub slope_near : (y z e V W w S q f : Fraction) → IsWithinOne y → IsNear y z e → IsNear (tau *ᶠ V) W q → neg w ≤ᶠ W → W ≤ᶠ w → IsNear (z *ᶠ W) S f
    → IsNear ((tau *ᶠ y) *ᶠ V) S ((w *ᶠ e +ᶠ q) +ᶠ f)
slope_near y z e V W w S q f one n p l u s =
    let a = near_factor y oneᶠ (tau *ᶠ V) W q one.low one.high p in
    let b = near_factor W w y z e l u n in
    let al : y *ᶠ (tau *ᶠ V) ≤ᶠ y *ᶠ W +ᶠ oneᶠ *ᶠ q = a.low in
    let ah : y *ᶠ W ≤ᶠ y *ᶠ (tau *ᶠ V) +ᶠ oneᶠ *ᶠ q = a.high in
    let bl : W *ᶠ y ≤ᶠ W *ᶠ z +ᶠ w *ᶠ e = b.low in
    let bh : W *ᶠ z ≤ᶠ W *ᶠ y +ᶠ w *ᶠ e = b.high in
    let sl : z *ᶠ W ≤ᶠ S +ᶠ f = s.low in
    let sh : S ≤ᶠ z *ᶠ W +ᶠ f = s.high in
    record {
      low = at_most (y ∷ z ∷ e ∷ V ∷ W ∷ w ∷ S ∷ q ∷ f ∷ []) (((y *ᶠ W +ᶠ oneᶠ *ᶠ q) -ᶠ y *ᶠ (tau *ᶠ V)) +ᶠ ((W *ᶠ z +ᶠ w *ᶠ e) -ᶠ W *ᶠ y) +ᶠ ((S +ᶠ f) -ᶠ z *ᶠ W)) (search not_negative) (search quote depth 30) tt;
      high = at_most (y ∷ z ∷ e ∷ V ∷ W ∷ w ∷ S ∷ q ∷ f ∷ []) (((y *ᶠ (tau *ᶠ V) +ᶠ oneᶠ *ᶠ q) -ᶠ y *ᶠ W) +ᶠ ((W *ᶠ y +ᶠ w *ᶠ e) -ᶠ W *ᶠ z) +ᶠ ((z *ᶠ W +ᶠ f) -ᶠ S)) (search not_negative) (search quote depth 30) tt;
    }

-- seven times the remainder is more than what it makes of a slope
place_near : (y X C V R T : Fraction) → IsWithinOne y → IsNear X (C +ᶠ V *ᶠ T) R → IsNear ((tau *ᶠ y) *ᶠ (X -ᶠ C)) ((tau *ᶠ y) *ᶠ (V *ᶠ T)) (ratio (pos 7) 1 *ᶠ R)
place_near y X C V R T one n =
    let yl : neg oneᶠ ≤ᶠ y = one.low in
    let yh : y ≤ᶠ oneᶠ = one.high in
    let nl : X ≤ᶠ (C +ᶠ V *ᶠ T) +ᶠ R = n.low in
    let nh : C +ᶠ V *ᶠ T ≤ᶠ X +ᶠ R = n.high in
    let t : tau ≤ᶠ ratio (pos 7) 1 = constants (search quote depth 20) tt in
    let l : neg (ratio (pos 7) 1) ≤ᶠ tau *ᶠ y = at_most (y ∷ []) (tau *ᶠ (y -ᶠ neg oneᶠ) +ᶠ (ratio (pos 7) 1 -ᶠ tau)) (search not_negative) (search quote depth 20) tt in
    let h : tau *ᶠ y ≤ᶠ ratio (pos 7) 1 = at_most (y ∷ []) (tau *ᶠ (oneᶠ -ᶠ y) +ᶠ (ratio (pos 7) 1 -ᶠ tau)) (search not_negative) (search quote depth 20) tt in
    near_factor (tau *ᶠ y) (ratio (pos 7) 1) (X -ᶠ C) (V *ᶠ T) R l h record {
      low = at_most (X ∷ C ∷ V ∷ R ∷ T ∷ []) (((C +ᶠ V *ᶠ T) +ᶠ R) -ᶠ X) (search not_negative) (search quote depth 20) tt;
      high = at_most (X ∷ C ∷ V ∷ R ∷ T ∷ []) ((X +ᶠ R) -ᶠ (C +ᶠ V *ᶠ T)) (search not_negative) (search quote depth 20) tt;
    }

-- how far the place is from the centre, squared
pub square_at_most : (X C V W R T : Fraction) → neg oneᶠ ≤ᶠ T → T ≤ᶠ oneᶠ → neg W ≤ᶠ V → V ≤ᶠ W → IsNear X (C +ᶠ V *ᶠ T) R → (X -ᶠ C) *ᶠ (X -ᶠ C) ≤ᶠ (W +ᶠ R) *ᶠ (W +ᶠ R)
square_at_most X C V W R T tl th vl vh n =
    let nl : X ≤ᶠ (C +ᶠ V *ᶠ T) +ᶠ R = n.low in
    let nh : C +ᶠ V *ᶠ T ≤ᶠ X +ᶠ R = n.high in
    let a : X -ᶠ C ≤ᶠ W +ᶠ R = at_most (X ∷ C ∷ V ∷ W ∷ R ∷ T ∷ [])
    ((((C +ᶠ V *ᶠ T) +ᶠ R) -ᶠ X) +ᶠ ratio (pos 1) 2 *ᶠ ((oneᶠ -ᶠ T) *ᶠ (V -ᶠ neg W) +ᶠ (T -ᶠ neg oneᶠ) *ᶠ (W -ᶠ V))) (search not_negative depth 10) (search quote depth 30) tt in
    let b : neg (W +ᶠ R) ≤ᶠ X -ᶠ C = at_most (X ∷ C ∷ V ∷ W ∷ R ∷ T ∷ [])
    (((X +ᶠ R) -ᶠ (C +ᶠ V *ᶠ T)) +ᶠ ratio (pos 1) 2 *ᶠ ((oneᶠ -ᶠ T) *ᶠ (W -ᶠ V) +ᶠ (T -ᶠ neg oneᶠ) *ᶠ (V -ᶠ neg W))) (search not_negative depth 10) (search quote depth 30) tt in
    square (X -ᶠ C) (W +ᶠ R) b a
  where
    square : (x m : Fraction) → neg m ≤ᶠ x → x ≤ᶠ m → x *ᶠ x ≤ᶠ m *ᶠ m
    square x m l h = at_most (x ∷ m ∷ []) ((x -ᶠ neg m) *ᶠ (m -ᶠ x)) (search not_negative) (search quote depth 20) tt

-- all of it
together : (t s y P G Q D x S T B M e f g : Fraction) → IsNear t (s +ᶠ P) (ratio (pos 20) 1 *ᶠ Q +ᶠ B) → IsNear s x e → IsNear P G f → IsNear (T *ᶠ D) (T *ᶠ S) (oneᶠ *ᶠ g) → G ≡ T *ᶠ D → Q ≤ᶠ M
    → IsNear t (x +ᶠ S *ᶠ T) ((((e +ᶠ g) +ᶠ f) +ᶠ ratio (pos 20) 1 *ᶠ M) +ᶠ B)
together t s y P G Q D x S T B M e f g n a b c i q =
    let nl : t ≤ᶠ (s +ᶠ P) +ᶠ (ratio (pos 20) 1 *ᶠ Q +ᶠ B) = n.low in
    let nh : s +ᶠ P ≤ᶠ t +ᶠ (ratio (pos 20) 1 *ᶠ Q +ᶠ B) = n.high in
    let al : s ≤ᶠ x +ᶠ e = a.low in
    let ah : x ≤ᶠ s +ᶠ e = a.high in
    let bl : P ≤ᶠ G +ᶠ f = b.low in
    let bh : G ≤ᶠ P +ᶠ f = b.high in
    let cl : T *ᶠ D ≤ᶠ T *ᶠ S +ᶠ oneᶠ *ᶠ g = c.low in
    let ch : T *ᶠ S ≤ᶠ T *ᶠ D +ᶠ oneᶠ *ᶠ g = c.high in
    let dl : G ≤ᶠ T *ᶠ D = subst (λ z. G ≤ᶠ z) i (≤ᶠ_refl G) in
    let dh : T *ᶠ D ≤ᶠ G = subst (λ z. z ≤ᶠ G) i (≤ᶠ_refl G) in
    record {
      low = at_most (t ∷ s ∷ P ∷ G ∷ Q ∷ D ∷ x ∷ S ∷ T ∷ B ∷ M ∷ e ∷ f ∷ g ∷ [])
          ((((s +ᶠ P) +ᶠ (ratio (pos 20) 1 *ᶠ Q +ᶠ B)) -ᶠ t) +ᶠ ((x +ᶠ e) -ᶠ s) +ᶠ ((G +ᶠ f) -ᶠ P) +ᶠ (T *ᶠ D -ᶠ G) +ᶠ ((T *ᶠ S +ᶠ oneᶠ *ᶠ g) -ᶠ T *ᶠ D) +ᶠ ratio (pos 20) 1 *ᶠ (M -ᶠ Q)) (search not_negative depth 10) (search quote depth 30) tt;
      high = at_most (t ∷ s ∷ P ∷ G ∷ Q ∷ D ∷ x ∷ S ∷ T ∷ B ∷ M ∷ e ∷ f ∷ g ∷ [])
          (((t +ᶠ (ratio (pos 20) 1 *ᶠ Q +ᶠ B)) -ᶠ (s +ᶠ P)) +ᶠ ((s +ᶠ e) -ᶠ x) +ᶠ ((P +ᶠ f) -ᶠ G) +ᶠ (G -ᶠ T *ᶠ D) +ᶠ ((T *ᶠ D +ᶠ oneᶠ *ᶠ g) -ᶠ T *ᶠ S) +ᶠ ratio (pos 20) 1 *ᶠ (M -ᶠ Q)) (search not_negative depth 10) (search quote depth 30) tt;
    }

-- ---- rounding
-- half a unit and a unit
abbrev pub turn_error : Fraction
turn_error = ratio (pos 1) 2 *ᶠ unit +ᶠ unit

tau_near : IsNear tau (units turn_units) unit
tau_near = record { low = constants (search quote depth 20) tt; high = constants (search quote depth 20) tt }

pub turns_near : (v : ℤ) → size v ≤ℤ pos (2 ^ 37) → IsNear (tau *ᶠ units v) (units (radians_of v)) turn_error
turns_near v small =
    let V : Fraction = units v in
    let U : Fraction = units turn_units in
    let S : Fraction = units (size v) in
    let W : Fraction = units (radians_of v) in
    let b : S ≤ᶠ units (pos (2 ^ 37)) = units_mono small in
    let c : units (pos (2 ^ 37)) ≤ᶠ ratio (pos 1) 2 = constants (search quote depth 20) tt in
    let sh : V ≤ᶠ S = size_units_high v in
    let sl : neg S ≤ᶠ V = size_units_low v in
    let h : V ≤ᶠ ratio (pos 1) 2 = ≤ᶠ_trans sh (≤ᶠ_trans b c) in
    let d : S ≤ᶠ ratio (pos 1) 2 = ≤ᶠ_trans b c in
    let l : neg (ratio (pos 1) 2) ≤ᶠ V = at_most (V ∷ S ∷ []) ((V -ᶠ neg S) +ᶠ (ratio (pos 1) 2 -ᶠ S)) (search not_negative) (search quote depth 20) tt in
    let n = near_factor V (ratio (pos 1) 2) tau U unit l h tau_near in
    let p : IsNear (U *ᶠ V) W unit = product_floor turn_units v in
    let nl : V *ᶠ tau ≤ᶠ V *ᶠ U +ᶠ ratio (pos 1) 2 *ᶠ unit = n.low in
    let nh : V *ᶠ U ≤ᶠ V *ᶠ tau +ᶠ ratio (pos 1) 2 *ᶠ unit = n.high in
    let pl : U *ᶠ V ≤ᶠ W +ᶠ unit = p.low in
    let ph : W ≤ᶠ U *ᶠ V +ᶠ unit = p.high in
    record {
      low = at_most (V ∷ W ∷ []) (((V *ᶠ U +ᶠ ratio (pos 1) 2 *ᶠ unit) -ᶠ V *ᶠ tau) +ᶠ ((W +ᶠ unit) -ᶠ U *ᶠ V)) (search not_negative) (search quote depth 30) tt;
      high = at_most (V ∷ W ∷ []) (((V *ᶠ tau +ᶠ ratio (pos 1) 2 *ᶠ unit) -ᶠ V *ᶠ U) +ᶠ ((U *ᶠ V +ᶠ unit) -ᶠ W)) (search not_negative) (search quote depth 30) tt;
    }

-- the bend, in units
bend_enough : (m : ℤ) → ratio (pos 20) 1 *ᶠ (units m *ᶠ units m) +ᶠ unit ≤ᶠ units (bend_of m)
bend_enough m =
    let M : Fraction = units m in
    let F : Fraction = units (floor_of ((pos 20 *ℤ m) *ℤ m) (2 ^ 38)) in
    let p : units (pos 20 *ℤ m) *ᶠ M ≤ᶠ F +ᶠ unit = (product_floor (pos 20 *ℤ m) m).low in
    let e : units (pos 20 *ℤ m) ≡ ratio (pos 20) 1 *ᶠ M = units-times (pos 20) m in
    let q : (ratio (pos 20) 1 *ᶠ M) *ᶠ M ≤ᶠ F +ᶠ unit = rw e at p in
    let r : ratio (pos 20) 1 *ᶠ (M *ᶠ M) +ᶠ unit ≤ᶠ F +ᶠ units (pos 2) = at_most (M ∷ F ∷ []) ((F +ᶠ unit) -ᶠ (ratio (pos 20) 1 *ᶠ M) *ᶠ M) (search not_negative) (search quote depth 30) tt in
    subst (λ z. ratio (pos 20) 1 *ᶠ (M *ᶠ M) +ᶠ unit ≤ᶠ z) (sym (units-add _ (pos 2))) r

-- the remainder of the line without its slack
remainder_parts : (a b c d k : ℤ) → units (((((a +ℤ b) +ℤ pos 7 *ℤ c) +ℤ d) +ℤ k) +ℤ pos 3) ≡ ((((units a +ᶠ units b) +ᶠ ratio (pos 7) 1 *ᶠ units c) +ᶠ units d) +ᶠ units k) +ᶠ units (pos 3)
remainder_parts a b c d k =
    let e0 : units (a +ℤ b) ≡ units a +ᶠ units b = units-add a b in
    let e1 : units ((a +ℤ b) +ℤ pos 7 *ℤ c) ≡ (units a +ᶠ units b) +ᶠ ratio (pos 7) 1 *ᶠ units c = units-add (a +ℤ b) (pos 7 *ℤ c) ∙ ap₂ (λ x y. x +ᶠ y) e0 (units-times (pos 7) c) in
    let e2 : units (((a +ℤ b) +ℤ pos 7 *ℤ c) +ℤ d) ≡ ((units a +ᶠ units b) +ᶠ ratio (pos 7) 1 *ᶠ units c) +ᶠ units d = units-add _ d ∙ ap (λ z. z +ᶠ units d) e1 in
    let e3 : units ((((a +ℤ b) +ℤ pos 7 *ℤ c) +ℤ d) +ℤ k) ≡ (((units a +ᶠ units b) +ᶠ ratio (pos 7) 1 *ᶠ units c) +ᶠ units d) +ᶠ units k = units-add _ k ∙ ap (λ z. z +ᶠ units k) e2 in
    units-add _ (pos 3) ∙ ap (λ z. z +ᶠ units (pos 3)) e3

-- what is lost is at most that remainder
remainder_enough : (e w q R M F B K : Fraction) → w *ᶠ q ≤ᶠ F +ᶠ unit → ratio (pos 20) 1 *ᶠ M +ᶠ unit ≤ᶠ B
    → (((e +ᶠ ((w *ᶠ q +ᶠ turn_error) +ᶠ unit)) +ᶠ ratio (pos 7) 1 *ᶠ R) +ᶠ ratio (pos 20) 1 *ᶠ M) +ᶠ gap44 ≤ᶠ (((((e +ᶠ F) +ᶠ ratio (pos 7) 1 *ᶠ R) +ᶠ B) +ᶠ K) +ᶠ units (pos 3)) -ᶠ K
remainder_enough e w q R M F B K p b =
    let g : gap44 +ᶠ ratio (pos 5) 2 *ᶠ unit +ᶠ unit ≤ᶠ unit +ᶠ units (pos 3) = constants (search quote depth 30) tt in
    at_most (e ∷ w ∷ q ∷ R ∷ M ∷ F ∷ B ∷ K ∷ []) (((F +ᶠ unit) -ᶠ w *ᶠ q) +ᶠ (B -ᶠ (ratio (pos 20) 1 *ᶠ M +ᶠ unit)) +ᶠ ((unit +ᶠ units (pos 3)) -ᶠ (gap44 +ᶠ ratio (pos 5) 2 *ᶠ unit +ᶠ unit))) (search not_negative depth 10) (search quote depth 40) tt

-- ---- the line of whole numbers
pub line_form_near : {h : ℕ} {d : ℤ} (x y u : Form) (k : ℤ) (X t s z : Fraction) → IsTime h d → size u.turning ≤ℤ pos (2 ^ 37)
    → IsNear X (line_at u (part_of d h)) (units u.remainder) → IsNear s (units x.centre) (units x.remainder) → IsNear z (units y.centre) (units y.remainder) → IsWithinOne z
    → IsNear t (s +ᶠ (tau *ᶠ z) *ᶠ (X -ᶠ units u.centre)) (ratio (pos 20) 1 *ᶠ ((X -ᶠ units u.centre) *ᶠ (X -ᶠ units u.centre)) +ᶠ gap44)
    → IsNear t (line_at (line_form x y u k) (part_of d h)) (units (line_form x y u k).remainder -ᶠ units k)
unfolding line_form
line_form_near {h} {d} x y u k X t s z i small place a b one law =
    let T : Fraction = part_of d h in
    let C : Fraction = units u.centre in
    let V : Fraction = units u.turning in
    let R : Fraction = units u.remainder in
    let W : ℤ = radians_of u.turning in
    let S : Fraction = units (floor_of (y.centre *ℤ W) (2 ^ 38)) in
    let w : Fraction = units (size W) in
    let m : ℤ = size u.turning +ℤ u.remainder in
    let F : ℤ = floor_of (y.remainder *ℤ size W) (2 ^ 38) in
    let sl = slope_near z (units y.centre) (units y.remainder) V (units W) w S turn_error unit one b (turns_near u.turning small) (size_units_low W) (size_units_high W) (product_floor y.centre W) in
    let tu = near_factor T oneᶠ ((tau *ᶠ z) *ᶠ V) S ((w *ᶠ units y.remainder +ᶠ turn_error) +ᶠ unit) (part_low i) (part_high i) sl in
    let pl = place_near z X C V R T one place in
    let sq : (X -ᶠ C) *ᶠ (X -ᶠ C) ≤ᶠ (units (size u.turning) +ᶠ R) *ᶠ (units (size u.turning) +ᶠ R) = square_at_most X C V (units (size u.turning)) R T (part_low i) (part_high i) (size_units_low u.turning) (size_units_high u.turning) place in
    let em : units m ≡ units (size u.turning) +ᶠ R = units-add (size u.turning) u.remainder in
    let sq' : (X -ᶠ C) *ᶠ (X -ᶠ C) ≤ᶠ units m *ᶠ units m = subst (λ q. (X -ᶠ C) *ᶠ (X -ᶠ C) ≤ᶠ q *ᶠ q) (sym em) sq in
    let all = together t s z ((tau *ᶠ z) *ᶠ (X -ᶠ C)) ((tau *ᶠ z) *ᶠ (V *ᶠ T)) ((X -ᶠ C) *ᶠ (X -ᶠ C)) ((tau *ᶠ z) *ᶠ V) (units x.centre) S T gap44 (units m *ᶠ units m) (units x.remainder) (ratio (pos 7) 1 *ᶠ R) ((w *ᶠ units y.remainder +ᶠ turn_error) +ᶠ unit) law a pl tu (turned z V T) sq' in
    let fl : w *ᶠ units y.remainder ≤ᶠ units F +ᶠ unit = swap (units y.remainder) w (units F +ᶠ unit) (product_floor y.remainder (size W)).low in
    let enough = remainder_enough (units x.remainder) w (units y.remainder) R (units m *ᶠ units m) (units F) (units (bend_of m)) (units k) fl (bend_enough m) in
    near_weaken (subst (λ q. (((units x.remainder +ᶠ ((w *ᶠ units y.remainder +ᶠ turn_error) +ᶠ unit)) +ᶠ ratio (pos 7) 1 *ᶠ R) +ᶠ ratio (pos 20) 1 *ᶠ (units m *ᶠ units m)) +ᶠ gap44 ≤ᶠ q -ᶠ units k) (sym (remainder_parts x.remainder F u.remainder (bend_of m) k)) enough) all
  where
    turned : (z V T : Fraction) → (tau *ᶠ z) *ᶠ (V *ᶠ T) ≡ T *ᶠ ((tau *ᶠ z) *ᶠ V)
    turned z V T = identity (z ∷ V ∷ T ∷ []) (search quote depth 20) tt

    swap : (a b c : Fraction) → a *ᶠ b ≤ᶠ c → b *ᶠ a ≤ᶠ c
    swap a b c h = at_most (a ∷ b ∷ c ∷ []) (c -ᶠ a *ᶠ b) (search not_negative) (search quote depth 20) tt

-- ---- intervals
-- what lies in fixed ends is near their middle
pub fixed_near : (e : Ends) (s : Fraction) → Lies e 38 s → IsNear s (units (fixed_of e).centre) (units (fixed_of e).remainder)
unfolding fixed_of
fixed_near e s l =
    let c : ℤ = floor_of (e.lo +ℤ e.hi) 2 in
    let C : Fraction = units c in
    let L : Fraction = units e.lo in
    let H : Fraction = units e.hi in
    let R : Fraction = units (e.hi -ℤ c) in
    let sl : L ≤ᶠ s = l.low in
    let sh : s ≤ᶠ H = l.high in
    let er : R ≡ H -ᶠ C = units-sub e.hi c in
    let f : units (c +ℤ c) ≤ᶠ units (e.lo +ℤ e.hi) = units_mono (twice c (e.lo +ℤ e.hi) (floor_of_low (e.lo +ℤ e.hi) 2 (lit≤ tt))) in
    let ec : units (c +ℤ c) ≡ C +ᶠ C = units-add c c in
    let eh : units (e.lo +ℤ e.hi) ≡ L +ᶠ H = units-add e.lo e.hi in
    let g : C +ᶠ C ≤ᶠ L +ᶠ H = rw (ec, eh) at f in
    let n : IsNear s C (H -ᶠ C) = record {
      low = at_most (s ∷ C ∷ L ∷ H ∷ []) (H -ᶠ s) (search not_negative) (search quote depth 20) tt;
      high = at_most (s ∷ C ∷ L ∷ H ∷ []) ((s -ᶠ L) +ᶠ ((L +ᶠ H) -ᶠ (C +ᶠ C))) (search not_negative) (search quote depth 20) tt;
    } in
    subst (λ r. IsNear s C r) (sym er) n
  where
    twice : (c z : ℤ) → (c *ℤ pos 2) ≤ℤ z → (c +ℤ c) ≤ℤ z
    twice c z h = omega (arith, ints)

-- and its negative is near that of the middle
pub neg_near : (f : Form) (s : Fraction) → IsNear s (units f.centre) (units f.remainder) → IsNear (neg s) (units (neg_form f).centre) (units (neg_form f).remainder)
unfolding neg_form
neg_near f s n =
    let C : Fraction = units f.centre in
    let R : Fraction = units f.remainder in
    let nl : s ≤ᶠ C +ᶠ R = n.low in
    let nh : C ≤ᶠ s +ᶠ R = n.high in
    let m : IsNear (neg s) (neg C) R = record {
      low = at_most (s ∷ C ∷ R ∷ []) ((s +ᶠ R) -ᶠ C) (search not_negative) (search quote depth 20) tt;
      high = at_most (s ∷ C ∷ R ∷ []) ((C +ᶠ R) -ᶠ s) (search not_negative) (search quote depth 20) tt;
    } in
    subst (λ r. IsNear (neg s) r R) (sym (units-neg f.centre)) m

-- an interval of at most k units that holds something near the line, but for k units, lies in the form
pub near_holds : {h : ℕ} {d : ℤ} (f : Form) (a : Ends) (k : ℤ) (t : Fraction) → IsTime h d → Lies a 38 t → a.lo ≤ℤ a.hi → (a.hi -ℤ a.lo) ≤ℤ k → IsNear t (line_at f (part_of d h)) (units f.remainder -ᶠ units k) → Holds h d f a
near_holds {h} {d} f a k t i l o w n =
    let A : Fraction = units a.lo in
    let B : Fraction = units a.hi in
    let K : Fraction = units k in
    let R : Fraction = units f.remainder in
    let L : Fraction = line_at f (part_of d h) in
    let al : A ≤ᶠ t = l.low in
    let bl : t ≤ᶠ B = l.high in
    let nl : t ≤ᶠ L +ᶠ (R -ᶠ K) = n.low in
    let nh : L ≤ᶠ t +ᶠ (R -ᶠ K) = n.high in
    let e : units (a.hi -ℤ a.lo) ≡ B -ᶠ A = units-sub a.hi a.lo in
    let wk : B -ᶠ A ≤ᶠ K = rw e at (units_mono w) in
    let p = ends A B K R L al bl nl nh wk in
    holds_both o (line_near f a.lo i p.0) (line_near f a.hi i p.1)
  where
    ends : (A B K R L : Fraction) → A ≤ᶠ t → t ≤ᶠ B → t ≤ᶠ L +ᶠ (R -ᶠ K) → L ≤ᶠ t +ᶠ (R -ᶠ K) → B -ᶠ A ≤ᶠ K → (IsNear A L R) × (IsNear B L R)
    ends A B K R L al bl nl nh wk = (
      record {
        low = at_most (A ∷ B ∷ K ∷ R ∷ L ∷ t ∷ []) ((t -ᶠ A) +ᶠ ((L +ᶠ (R -ᶠ K)) -ᶠ t) +ᶠ (K -ᶠ (B -ᶠ A)) +ᶠ (B -ᶠ t) +ᶠ (t -ᶠ A)) (search not_negative) (search quote depth 20) tt;
        high = at_most (A ∷ B ∷ K ∷ R ∷ L ∷ t ∷ []) (((t +ᶠ (R -ᶠ K)) -ᶠ L) +ᶠ (K -ᶠ (B -ᶠ A)) +ᶠ (B -ᶠ t)) (search not_negative) (search quote depth 20) tt;
      },
      record {
        low = at_most (A ∷ B ∷ K ∷ R ∷ L ∷ t ∷ []) (((L +ᶠ (R -ᶠ K)) -ᶠ t) +ᶠ (K -ᶠ (B -ᶠ A)) +ᶠ (t -ᶠ A)) (search not_negative) (search quote depth 20) tt;
        high = at_most (A ∷ B ∷ K ∷ R ∷ L ∷ t ∷ []) (((t +ᶠ (R -ᶠ K)) -ᶠ L) +ᶠ (K -ᶠ (B -ᶠ A)) +ᶠ (B -ᶠ t) +ᶠ (t -ᶠ A) +ᶠ (B -ᶠ t)) (search not_negative) (search quote depth 20) tt;
      },
    )
