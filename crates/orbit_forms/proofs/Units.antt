-- Forms of whole numbers as lines of fractions.
use Rattle.std.specs.Prelude.{◌≡◌, ℕ, ℤ, pos, neg_ℤ, ◌<◌, ◌*◌, ◌^◌, ◌+ℤ◌, ◌-ℤ◌, ◌*ℤ◌, ◌≤ℤ◌, [], ◌∷◌}
use Rattle.std.proofs.Common.{arith, ap, ap₂, sym, ◌∙◌, subst}
use Rattle.std.proofs.lemmas.Int.{ints}
use Rattle.std.proofs.lemmas.Nat.{pow_pos}
use Rattle.std.proofs.Math.Nat.{mul-pos}
use lib.Dec.{lit≤}
use Rattle.whole_numbers.specs.Rounding.{floor_of}
use Rattle.whole_numbers.proofs.Divisions.{floor_of_low, floor_of_high, next_multiple}
use Rattle.whole_numbers.proofs.Quote.{quote as quote_z, identity as identity_z}
use Rattle.fractions.specs.Fraction.{Fraction, ratio, oneᶠ, ◌+ᶠ◌, ◌-ᶠ◌, ◌*ᶠ◌, neg, ◌≤ᶠ◌, IsNear}
use Rattle.fractions.proofs.Certificates.{at_most, not_negative}
use Rattle.fractions.proofs.Quote.{quote}
use Rattle.fractions.proofs.Ratios.{ratio-add, ratio-mul, ratio-same, ratio_mono, ratio_at_most, ratio_at_most_out, neg-ratio}
use Rattle.time_forms.specs.Forms.{Form, IsTime, LiesIn, size}
use Rattle.time_forms.proofs.Bounds.{size_high, size_low}

-- z units
abbrev pub units : ℤ → Fraction
units z = ratio z (2 ^ 38)

abbrev pub unit : Fraction
unit = units (pos 1)

-- the time within its piece, from -1 to 1
abbrev pub part_of : ℤ → ℕ → Fraction
part_of d h = ratio d h

pub units-add : (y z : ℤ) → units (y +ℤ z) ≡ units y +ᶠ units z
units-add y z = sym (ratio-add y z (2 ^ 38))

pub units-neg : (z : ℤ) → units (neg_ℤ z) ≡ neg (units z)
units-neg z = sym (neg-ratio z (2 ^ 38))

pub units-sub : (y z : ℤ) → units (y -ℤ z) ≡ units y -ᶠ units z
units-sub y z = e ∙ ap (λ t. units y +ᶠ t) (units-neg z)
  where
    same : y -ℤ z ≡ y +ℤ neg_ℤ z
    same = omega (arith, ints)

    e : units (y -ℤ z) ≡ units y +ᶠ units (neg_ℤ z)
    e = ap units same ∙ units-add y (neg_ℤ z)

-- k times
pub units-times : (k z : ℤ) → units (k *ℤ z) ≡ ratio k 1 *ᶠ units z
units-times k z = sym (ratio-mul k z 1 (2 ^ 38) (lit≤ tt) (pow_pos 38))

pub units_mono : {y z : ℤ} → y ≤ℤ z → units y ≤ᶠ units z
units_mono h = ratio_mono (2 ^ 38) h

-- a product of units, rounded down to units
pub floor_next : (z : ℤ) (k : ℕ) → 0 < k → z ≤ℤ ((floor_of z k +ℤ pos 1) *ℤ pos k)
floor_next z k h = let a = floor_of_high z k h in let b = next_multiple (floor_of z k) k in omega (arith, ints)

pub product_floor : (a b : ℤ) → IsNear (units a *ᶠ units b) (units (floor_of (a *ℤ b) (2 ^ 38))) unit
product_floor a b =
    let e : units a *ᶠ units b ≡ ratio (a *ℤ b) (2 ^ 38 * 2 ^ 38) = ratio-mul a b (2 ^ 38) (2 ^ 38) (pow_pos 38) (pow_pos 38) in
    let f : ℤ = floor_of (a *ℤ b) (2 ^ 38) in
    let x : Fraction = units a in
    let y : Fraction = units b in
    let g : Fraction = units f in
    let low : g ≤ᶠ x *ᶠ y = rw e (ratio_at_most f (a *ℤ b) (2 ^ 38) (2 ^ 38 * 2 ^ 38) (pow_pos 38) (mul-pos (pow_pos 38) (pow_pos 38)) (scaled_low f (a *ℤ b) (floor_of_low (a *ℤ b) (2 ^ 38) (pow_pos 38)))) in
    let high : x *ᶠ y ≤ᶠ units (f +ℤ pos 1) = rw e (ratio_at_most (a *ℤ b) (f +ℤ pos 1) (2 ^ 38 * 2 ^ 38) (2 ^ 38) (mul-pos (pow_pos 38) (pow_pos 38)) (pow_pos 38) (scaled_high f (a *ℤ b) (floor_next (a *ℤ b) (2 ^ 38) (pow_pos 38)))) in
    record {
      low = subst (λ t. x *ᶠ y ≤ᶠ t) (units-add f (pos 1)) high;
      high = at_most (x ∷ y ∷ g ∷ []) ((x *ᶠ y -ᶠ g) +ᶠ unit) (search not_negative) (search quote depth 20) tt;
    }
  where
    scaled_low : (f z : ℤ) → (f *ℤ pos (2 ^ 38)) ≤ℤ z → (f *ℤ pos (2 ^ 38 * 2 ^ 38)) ≤ℤ (z *ℤ pos (2 ^ 38))
    scaled_low f z h = omega (arith, ints)

    scaled_high : (f z : ℤ) → z ≤ℤ ((f +ℤ pos 1) *ℤ pos (2 ^ 38)) → (z *ℤ pos (2 ^ 38)) ≤ℤ ((f +ℤ pos 1) *ℤ pos (2 ^ 38 * 2 ^ 38))
    scaled_high f z h = omega (arith, ints)

-- ---- a form as a line
-- h z of h times as small parts
spread : (h k : ℕ) (z : ℤ) → 0 < h → 0 < k → ratio (pos h *ℤ z) (k * h) ≡ ratio z k
spread h k z p q = ratio-same (pos h *ℤ z) z (k * h) k (mul-pos q p) q (identity_z (pos h ∷ pos k ∷ z ∷ []) (search quote_z depth 20) tt)

turned : (h k : ℕ) (v d : ℤ) → 0 < h → 0 < k → ratio (v *ℤ d) (k * h) ≡ ratio v k *ᶠ ratio d h
turned h k v d p q = sym (ratio-mul v d k h q p)

-- the line of a form at a time
abbrev pub line_at : Form → Fraction → Fraction
line_at f t = units f.centre +ᶠ units f.turning *ᶠ t

form_end : (h : ℕ) (d c v : ℤ) → 0 < h → ratio (pos h *ℤ c +ℤ v *ℤ d) (2 ^ 38 * h) ≡ units c +ᶠ units v *ᶠ ratio d h
form_end h d c v p = sym (ratio-add (pos h *ℤ c) (v *ℤ d) (2 ^ 38 * h)) ∙ ap₂ (λ x y. x +ᶠ y) (spread h (2 ^ 38) c p (pow_pos 38)) (turned h (2 ^ 38) v d p (pow_pos 38))

-- what is near a form lies near its line
pub near_line : {h : ℕ} {d : ℤ} (f : Form) (z : ℤ) → IsTime h d → LiesIn h d f z → IsNear (units z) (line_at f (part_of d h)) (units f.remainder)
near_line {h} {d} f z t p =
    let s = t.some in
    let Z : Fraction = units z in
    let C : Fraction = units f.centre in
    let V : Fraction = units f.turning in
    let R : Fraction = units f.remainder in
    let T : Fraction = ratio d h in
    let ez : ratio (pos h *ℤ z) (2 ^ 38 * h) ≡ Z = spread h (2 ^ 38) z s (pow_pos 38) in
    let el : ratio (pos h *ℤ (f.centre -ℤ f.remainder) +ℤ f.turning *ℤ d) (2 ^ 38 * h) ≡ (C -ᶠ R) +ᶠ V *ᶠ T = form_end h d (f.centre -ℤ f.remainder) f.turning s ∙ ap (λ x. x +ᶠ V *ᶠ T) (units-sub f.centre f.remainder) in
    let eh : ratio (pos h *ℤ (f.centre +ℤ f.remainder) +ℤ f.turning *ℤ d) (2 ^ 38 * h) ≡ (C +ᶠ R) +ᶠ V *ᶠ T = form_end h d (f.centre +ℤ f.remainder) f.turning s ∙ ap (λ x. x +ᶠ V *ᶠ T) (units-add f.centre f.remainder) in
    let l : (C -ᶠ R) +ᶠ V *ᶠ T ≤ᶠ Z = rw (el, ez) at (ratio_mono (2 ^ 38 * h) p.low) in
    let k : Z ≤ᶠ (C +ᶠ R) +ᶠ V *ᶠ T = rw (eh, ez) at (ratio_mono (2 ^ 38 * h) p.high) in
    record {
      low = at_most (Z ∷ C ∷ V ∷ R ∷ T ∷ []) (((C +ᶠ R) +ᶠ V *ᶠ T) -ᶠ Z) (search not_negative) (search quote depth 20) tt;
      high = at_most (Z ∷ C ∷ V ∷ R ∷ T ∷ []) (Z -ᶠ ((C -ᶠ R) +ᶠ V *ᶠ T)) (search not_negative) (search quote depth 20) tt;
    }

-- and the other way round
pub line_near : {h : ℕ} {d : ℤ} (f : Form) (z : ℤ) → IsTime h d → IsNear (units z) (line_at f (part_of d h)) (units f.remainder) → LiesIn h d f z
line_near {h} {d} f z t n =
    let s = t.some in
    let m : 0 < 2 ^ 38 * h = mul-pos (pow_pos 38) s in
    let Z : Fraction = units z in
    let C : Fraction = units f.centre in
    let V : Fraction = units f.turning in
    let R : Fraction = units f.remainder in
    let T : Fraction = ratio d h in
    let nl : Z ≤ᶠ (C +ᶠ V *ᶠ T) +ᶠ R = n.low in
    let nh : C +ᶠ V *ᶠ T ≤ᶠ Z +ᶠ R = n.high in
    let ez : ratio (pos h *ℤ z) (2 ^ 38 * h) ≡ Z = spread h (2 ^ 38) z s (pow_pos 38) in
    let el : ratio (pos h *ℤ (f.centre -ℤ f.remainder) +ℤ f.turning *ℤ d) (2 ^ 38 * h) ≡ (C -ᶠ R) +ᶠ V *ᶠ T = form_end h d (f.centre -ℤ f.remainder) f.turning s ∙ ap (λ x. x +ᶠ V *ᶠ T) (units-sub f.centre f.remainder) in
    let eh : ratio (pos h *ℤ (f.centre +ℤ f.remainder) +ℤ f.turning *ℤ d) (2 ^ 38 * h) ≡ (C +ᶠ R) +ᶠ V *ᶠ T = form_end h d (f.centre +ℤ f.remainder) f.turning s ∙ ap (λ x. x +ᶠ V *ᶠ T) (units-add f.centre f.remainder) in
    let l : (C -ᶠ R) +ᶠ V *ᶠ T ≤ᶠ Z = at_most (Z ∷ C ∷ V ∷ R ∷ T ∷ []) ((Z +ᶠ R) -ᶠ (C +ᶠ V *ᶠ T)) (search not_negative) (search quote depth 20) tt in
    let k : Z ≤ᶠ (C +ᶠ R) +ᶠ V *ᶠ T = at_most (Z ∷ C ∷ V ∷ R ∷ T ∷ []) (((C +ᶠ V *ᶠ T) +ᶠ R) -ᶠ Z) (search not_negative) (search quote depth 20) tt in
    record {
      low = cancel _ _ (2 ^ 38 * h) m (ratio_at_most_out _ _ (2 ^ 38 * h) (2 ^ 38 * h) m m (rw (el, ez) l));
      high = cancel _ _ (2 ^ 38 * h) m (ratio_at_most_out _ _ (2 ^ 38 * h) (2 ^ 38 * h) m m (rw (eh, ez) k));
    }
  where
    cancel : (y z : ℤ) (k : ℕ) → 0 < k → (y *ℤ pos k) ≤ℤ (z *ℤ pos k) → y ≤ℤ z
    cancel y z k p h = Rattle.whole_numbers.proofs.Certificates.at_most_scaled (y ∷ z ∷ pos k ∷ []) k p (z *ℤ pos k -ℤ y *ℤ pos k) (search Rattle.whole_numbers.proofs.Certificates.not_negative) (search quote_z depth 20) tt

-- the part is from -1 to 1
pub part_low : {h : ℕ} {d : ℤ} → IsTime h d → neg oneᶠ ≤ᶠ part_of d h
part_low {h} {d} t = subst (λ x. x ≤ᶠ ratio d h) (sym (neg-ratio (pos 1) 1)) (ratio_at_most (neg_ℤ (pos 1)) d 1 h (lit≤ tt) t.some (let a = t.after in omega (arith, ints)))

pub part_high : {h : ℕ} {d : ℤ} → IsTime h d → part_of d h ≤ᶠ oneᶠ
part_high {h} {d} t = ratio_at_most d (pos 1) h 1 t.some (lit≤ tt) (let a = t.before in omega (arith, ints))

-- a number of units lies between its size and the negative of that
pub size_units_high : (z : ℤ) → units z ≤ᶠ units (size z)
size_units_high z = units_mono (size_high z)

pub size_units_low : (z : ℤ) → neg (units (size z)) ≤ᶠ units z
size_units_low z = subst (λ t. t ≤ᶠ units z) (units-neg (size z)) (units_mono (size_low z))
