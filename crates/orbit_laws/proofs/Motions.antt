-- The mean motion: its ends hold each root that the model admits, and are not too great or too wide.
use Rattle.std.specs.Prelude.{◌≡◌, ℕ, ℤ, pos, ◌+◌, ◌*◌, ◌^◌, ◌<◌, ◌≤◌, ◌+ℤ◌, ◌-ℤ◌, ◌*ℤ◌, neg_ℤ, ◌≤ℤ◌, ◌<ℤ◌, ◌≢◌, unsigned_abs, [], ◌∷◌}
use Rattle.std.proofs.Common.{arith, ap, sym, ◌∙◌, subst}
use Rattle.std.proofs.lemmas.Int.{ints}
use Rattle.std.proofs.lemmas.Nat.{pow_pos}
use Rattle.std.proofs.Math.Nat.{pow-le-pow_right}
use lib.Dec.{lit≤}
use Rattle.whole_numbers.specs.Rounding.{floor_of, ceil_of}
use Rattle.whole_numbers.proofs.Divisions.{floor_of_low, floor_of_high, ceil_of_high, at_most-floor_of, ceil_of-at_most, floor_of-at_most-ceil_of, multiple_below}
use Rattle.whole_numbers.proofs.Integers.{≤ℤ_trans}
use Rattle.whole_numbers.proofs.Products.{*ℤ_mono_right}
use Rattle.whole_numbers.proofs.Quote.{quote as quote_whole, identity as identity_whole}
use Rattle.fractions.specs.Fraction.{Fraction, ratio, zeroᶠ, ◌+ᶠ◌, ◌-ᶠ◌, ◌*ᶠ◌, ◌≤ᶠ◌, ◌<ᶠ◌}
use Rattle.fractions.specs.Inverse.{◌/ᶠ◌}
use Rattle.fractions.proofs.Certificates.{at_most, constants, constants_below, not_negative}
use Rattle.fractions.proofs.Laws.{≤ᶠ_refl, ≤ᶠ_trans, *ᶠ_mono_left, *ᶠ_mono, root_mono}
use Rattle.fractions.proofs.Quote.{quote, identity}
use Rattle.fractions.proofs.Ratios.{ratio-add, ratio_mono, ratio_anti, not_negative_ratio, not_negative_constant, neg-ratio}
use Rattle.fractions.proofs.StrictOrder.{*ᶠ_cancel, positive_apart, positive_product, positive_constant, <ᶠ_≤ᶠ_trans}
use Rattle.raim_model.specs.Constants.{tau, mu}
use Rattle.raim_model.specs.Level.{Level}
use Rattle.raim_model.specs.Root.{IsRoot, gap_of}
use Rattle.fix_interval.specs.Ends.{Ends, IsInside, IsNarrow}
use Rattle.fix_interval.specs.Lies.{Lies}
use Rattle.fix_interval.proofs.EndProducts.{corner}
use Rattle.orbit_laws.specs.Elements.{motion_units, motion_of}
use Rattle.orbit_laws.proofs.Products.{over-times}

-- ---- in fractions: T is the radians of a turn, y the power of three halves of the half axis, m the gravitational constant
-- over its square, g a gap, u a unit, and r a root of m but for the gap
-- p y is at most the root of m y^2 over T: a unit less times T is at most r
root_from : (T y m g u p r : Fraction) → zeroᶠ ≤ᶠ T → zeroᶠ <ᶠ y → zeroᶠ ≤ᶠ r → u ≤ᶠ p → zeroᶠ ≤ᶠ u
    → ((p *ᶠ y) *ᶠ T) *ᶠ ((p *ᶠ y) *ᶠ T) ≤ᶠ m *ᶠ (y *ᶠ y) → m ≤ᶠ r *ᶠ r +ᶠ g → g ≤ᶠ (p *ᶠ u) *ᶠ (T *ᶠ T)
    → (p -ᶠ u) *ᶠ T ≤ᶠ r
root_from T y m g u p r nT py nr up nu low near gap =
    let nyy : zeroᶠ <ᶠ y *ᶠ y = positive_product y y py py in
    let e : ((p *ᶠ y) *ᶠ T) *ᶠ ((p *ᶠ y) *ᶠ T) ≡ ((p *ᶠ T) *ᶠ (p *ᶠ T)) *ᶠ (y *ᶠ y) = identity (p ∷ y ∷ T ∷ []) (search quote depth 20) tt in
    let h : (p *ᶠ T) *ᶠ (p *ᶠ T) ≤ᶠ m = *ᶠ_cancel nyy (subst (λ t. t ≤ᶠ m *ᶠ (y *ᶠ y)) e low) in
    let nw : zeroᶠ ≤ᶠ (p -ᶠ u) *ᶠ T = search not_negative in
    root_mono nw nr (at_most (T ∷ m ∷ g ∷ u ∷ p ∷ r ∷ [])
    ((m -ᶠ (p *ᶠ T) *ᶠ (p *ᶠ T)) +ᶠ ((r *ᶠ r +ᶠ g) -ᶠ m) +ᶠ ((p *ᶠ u) *ᶠ (T *ᶠ T) -ᶠ g) +ᶠ u *ᶠ ((p -ᶠ u) *ᶠ (T *ᶠ T)))
    (search not_negative depth 10) (search quote depth 30) tt)

-- q y is at least the root of m y^2 over T: a unit more times T is at least r
root_to : (T y m g u q r : Fraction) → zeroᶠ ≤ᶠ T → zeroᶠ <ᶠ y → zeroᶠ ≤ᶠ r → zeroᶠ ≤ᶠ q → zeroᶠ ≤ᶠ u
    → m *ᶠ (y *ᶠ y) ≤ᶠ ((q *ᶠ y) *ᶠ T) *ᶠ ((q *ᶠ y) *ᶠ T) → r *ᶠ r ≤ᶠ m +ᶠ g → g ≤ᶠ (q *ᶠ u) *ᶠ (T *ᶠ T)
    → r ≤ᶠ (q +ᶠ u) *ᶠ T
root_to T y m g u q r nT py nr nq nu high near gap =
    let nyy : zeroᶠ <ᶠ y *ᶠ y = positive_product y y py py in
    let e : ((q *ᶠ y) *ᶠ T) *ᶠ ((q *ᶠ y) *ᶠ T) ≡ ((q *ᶠ T) *ᶠ (q *ᶠ T)) *ᶠ (y *ᶠ y) = identity (q ∷ y ∷ T ∷ []) (search quote depth 20) tt in
    let h : m ≤ᶠ (q *ᶠ T) *ᶠ (q *ᶠ T) = *ᶠ_cancel nyy (subst (λ t. m *ᶠ (y *ᶠ y) ≤ᶠ t) e high) in
    let nw : zeroᶠ ≤ᶠ (q +ᶠ u) *ᶠ T = search not_negative in
    root_mono nr nw (at_most (T ∷ m ∷ g ∷ u ∷ q ∷ r ∷ [])
    (((q *ᶠ T) *ᶠ (q *ᶠ T) -ᶠ m) +ᶠ ((m +ᶠ g) -ᶠ r *ᶠ r) +ᶠ ((q *ᶠ u) *ᶠ (T *ᶠ T) -ᶠ g) +ᶠ u *ᶠ ((q +ᶠ u) *ᶠ (T *ᶠ T)))
    (search not_negative depth 10) (search quote depth 30) tt)

-- ---- the constant
abbrev pub units_low : Fraction
units_low = ratio (pos motion_units) (2 ^ 132)

abbrev pub units_high : Fraction
units_high = ratio (pos (motion_units + 1)) (2 ^ 132)

units_below : (units_low *ᶠ tau) *ᶠ (units_low *ᶠ tau) ≤ᶠ mu
units_below = constants (search quote depth 20) tt

units_above : mu ≤ᶠ (units_high *ᶠ tau) *ᶠ (units_high *ᶠ tau)
units_above = constants (search quote depth 20) tt

tau_positive : zeroᶠ <ᶠ tau
tau_positive = constants_below (search quote depth 20) tt

-- a unit at scale 76
abbrev pub unit76 : Fraction
unit76 = ratio (pos 1) (2 ^ 76)

least_motion : ratio (pos 1) (2 ^ 100) ≤ᶠ (ratio (pos (2 ^ 47)) (2 ^ 76) *ᶠ unit76) *ᶠ (tau *ᶠ tau)
least_motion = constants (search quote depth 20) tt

-- the gap of the model is at most what 2^47 units and more make of a unit
gap_small : (N : Level) (p : Fraction) → ratio (pos (2 ^ 47)) (2 ^ 76) ≤ᶠ p → gap_of N ≤ᶠ (p *ᶠ unit76) *ᶠ (tau *ᶠ tau)
gap_small N p h =
    let g : gap_of N ≤ᶠ ratio (pos 1) (2 ^ 100) = ratio_anti (2 ^ 100) (2 ^ N.terms) (pow_pos 100) (pow-le-pow_right (lit≤ tt) N.enough) in
    let nu : zeroᶠ ≤ᶠ unit76 = not_negative_ratio 1 (2 ^ 76) in
    let nt : zeroᶠ ≤ᶠ tau *ᶠ tau = constants (search quote depth 20) tt in
    ≤ᶠ_trans g (≤ᶠ_trans least_motion (*ᶠ_mono_left nt (*ᶠ_mono_left nu h)))

-- ---- the power of three halves: from 64 to 343
pub record IsCube (c : Ends) : Type 0 where
  pub low : pos (2 ^ 62) ≤ℤ c.lo
  pub ordered : c.lo ≤ℤ c.hi
  pub high : c.hi ≤ℤ pos (343 * 2 ^ 56)

-- the magnitude of what is not negative
pub plain_abs : (z : ℤ) → pos 0 ≤ℤ z → pos (unsigned_abs z) ≡ z
plain_abs z h = omega (arith, ints)

-- quotients of the units by a power within its ends
pub quotient_great : (z : ℤ) (n : ℕ) → pos (2 ^ 62) ≤ℤ z → z ≤ℤ pos (343 * 2 ^ 56) → motion_units ≤ n → pos (2 ^ 47) ≤ℤ floor_of (pos n) (unsigned_abs z)
quotient_great z n l h m = (at_most-floor_of (pos (2 ^ 47)) (pos n) (unsigned_abs z) (omega (arith, ints))).1 (omega (arith, ints))

-- each root over the radians of a turn lies in the mean motion
pub motion_encloses : (c : Ends) (y : Fraction) → IsCube c → Lies c 56 y → (N : Level) (z r : Fraction) → z ≡ y *ᶠ y → IsRoot N (mu /ᶠ z) r → Lies (motion_of c) 76 (r /ᶠ tau)
unfolding motion_of
motion_encloses c y i l N z r ez root =
    let il = i.low in
    let io = i.ordered in
    let ih = i.high in
    let hi_positive : 0 < unsigned_abs c.hi = omega (arith, ints) in
    let lo_positive : 0 < unsigned_abs c.lo = omega (arith, ints) in
    let k : ℤ = floor_of (pos motion_units) (unsigned_abs c.hi) in
    let k' : ℤ = ceil_of (pos (motion_units + 1)) (unsigned_abs c.lo) in
    let p : Fraction = ratio k (2 ^ 76) in
    let q : Fraction = ratio k' (2 ^ 76) in
    let kg : pos (2 ^ 47) ≤ℤ k = quotient_great c.hi motion_units (omega (arith, ints)) ih (lit≤ tt) in
    let kg' : pos (2 ^ 47) ≤ℤ k' = ≤ℤ_trans (pos (2 ^ 47)) (floor_of (pos (motion_units + 1)) (unsigned_abs c.lo)) k' (quotient_great c.lo (motion_units + 1) il (omega (arith, ints)) (lit≤ tt)) (floor_of-at_most-ceil_of (pos (motion_units + 1)) (unsigned_abs c.lo) lo_positive) in
    let pg : ratio (pos (2 ^ 47)) (2 ^ 76) ≤ᶠ p = ratio_mono (2 ^ 76) kg in
    let qg : ratio (pos (2 ^ 47)) (2 ^ 76) ≤ᶠ q = ratio_mono (2 ^ 76) kg' in
    let np : zeroᶠ ≤ᶠ p = ≤ᶠ_trans (not_negative_ratio (2 ^ 47) (2 ^ 76)) pg in
    let nq : zeroᶠ ≤ᶠ q = ≤ᶠ_trans (not_negative_ratio (2 ^ 47) (2 ^ 76)) qg in
    let nu : zeroᶠ ≤ᶠ unit76 = not_negative_ratio 1 (2 ^ 76) in
    let nT : zeroᶠ ≤ᶠ tau = constants (search quote depth 20) tt in
    let l_positive : zeroᶠ <ᶠ ratio c.lo (2 ^ 56) = positive_constant c.lo (2 ^ 56) (omega (arith, ints)) in
    let py : zeroᶠ <ᶠ y = <ᶠ_≤ᶠ_trans l_positive l.low in
    let ny : zeroᶠ ≤ᶠ y = ≤ᶠ_trans (not_negative_constant c.lo (2 ^ 56) (omega (arith, ints))) l.low in
    let nl : zeroᶠ ≤ᶠ ratio c.lo (2 ^ 56) = not_negative_constant c.lo (2 ^ 56) (omega (arith, ints)) in
    let m : Fraction = mu /ᶠ z in
    let em : m *ᶠ (y *ᶠ y) ≡ mu = subst (λ t. m *ᶠ t ≡ mu) ez (over-times mu z (subst (λ t. t ≢ zeroᶠ) (sym ez) (positive_apart (positive_product y y py py)))) in
    -- k times the upper end is at most the units
    let kh : (k *ℤ c.hi) ≤ℤ pos motion_units = subst (λ t. (k *ℤ t) ≤ℤ pos motion_units) (plain_abs c.hi (omega (arith, ints))) (floor_of_low (pos motion_units) (unsigned_abs c.hi) hi_positive) in
    let ph : p *ᶠ ratio c.hi (2 ^ 56) ≤ᶠ units_low = rw (corner k c.hi 76 56) (ratio_mono (2 ^ 132) kh) in
    let py_low : p *ᶠ y ≤ᶠ units_low = ≤ᶠ_trans (*ᶠ_mono np ny (≤ᶠ_refl p) l.high) ph in
    let npy : zeroᶠ ≤ᶠ p *ᶠ y = search not_negative in
    let low : ((p *ᶠ y) *ᶠ tau) *ᶠ ((p *ᶠ y) *ᶠ tau) ≤ᶠ m *ᶠ (y *ᶠ y) = subst (λ t. ((p *ᶠ y) *ᶠ tau) *ᶠ ((p *ᶠ y) *ᶠ tau) ≤ᶠ t) (sym em) (≤ᶠ_trans (square_grows (p *ᶠ y) units_low tau npy nT py_low) units_below) in
    -- and k' times the lower end at least the units and one
    let kl : pos (motion_units + 1) ≤ℤ (k' *ℤ c.lo) = subst (λ t. pos (motion_units + 1) ≤ℤ (k' *ℤ t)) (plain_abs c.lo (omega (arith, ints))) (ceil_of_high (pos (motion_units + 1)) (unsigned_abs c.lo) lo_positive) in
    let ql : units_high ≤ᶠ q *ᶠ ratio c.lo (2 ^ 56) = rw (corner k' c.lo 76 56) (ratio_mono (2 ^ 132) kl) in
    let qy_high : units_high ≤ᶠ q *ᶠ y = ≤ᶠ_trans ql (*ᶠ_mono nq nl (≤ᶠ_refl q) l.low) in
    let high : m *ᶠ (y *ᶠ y) ≤ᶠ ((q *ᶠ y) *ᶠ tau) *ᶠ ((q *ᶠ y) *ᶠ tau) = subst (λ t. t ≤ᶠ ((q *ᶠ y) *ᶠ tau) *ᶠ ((q *ᶠ y) *ᶠ tau)) (sym em) (≤ᶠ_trans units_above (square_grows units_high (q *ᶠ y) tau (not_negative_ratio (motion_units + 1) (2 ^ 132)) nT qy_high)) in
    let up : unit76 ≤ᶠ p = ≤ᶠ_trans (ratio_mono (2 ^ 76) (omega (arith, ints))) pg in
    let from : (p -ᶠ unit76) *ᶠ tau ≤ᶠ r = root_from tau y m (gap_of N) unit76 p r nT py root.not_negative up nu low root.near.high (gap_small N p pg) in
    let to : r ≤ᶠ (q +ᶠ unit76) *ᶠ tau = root_to tau y m (gap_of N) unit76 q r nT py root.not_negative nq nu high root.near.low (gap_small N q qg) in
    let er : (r /ᶠ tau) *ᶠ tau ≡ r = over-times r tau (positive_apart tau_positive) in
    record {
      low = *ᶠ_cancel tau_positive (rw (er, less k) from);
      high = *ᶠ_cancel tau_positive (rw (er, more k') to);
    }
  where
    square_grows : (a b t : Fraction) → zeroᶠ ≤ᶠ a → zeroᶠ ≤ᶠ t → a ≤ᶠ b → (a *ᶠ t) *ᶠ (a *ᶠ t) ≤ᶠ (b *ᶠ t) *ᶠ (b *ᶠ t)
    square_grows a b t na nt h =
        let nb : zeroᶠ ≤ᶠ b = ≤ᶠ_trans na h in
        let k : a *ᶠ t ≤ᶠ b *ᶠ t = *ᶠ_mono_left nt h in
        let nat : zeroᶠ ≤ᶠ a *ᶠ t = search not_negative in
        let nbt : zeroᶠ ≤ᶠ b *ᶠ t = search not_negative in
        *ᶠ_mono nbt nat k k

    less : (k : ℤ) → ratio (k -ℤ pos 1) (2 ^ 76) ≡ ratio k (2 ^ 76) -ᶠ unit76
    less k = sym (ap (λ t. ratio k (2 ^ 76) +ᶠ t) (neg-ratio (pos 1) (2 ^ 76)) ∙ ratio-add k (neg_ℤ (pos 1)) (2 ^ 76))

    more : (k : ℤ) → ratio (k +ℤ pos 1) (2 ^ 76) ≡ ratio k (2 ^ 76) +ᶠ unit76
    more k = sym (ratio-add k (pos 1) (2 ^ 76))

-- ---- magnitude and width
-- the quotient by the upper end times each end is at most the units
floor_times : (K L : ℕ) → 0 < K → L ≤ K → pos 0 ≤ℤ floor_of (pos motion_units) K → ((floor_of (pos motion_units) K *ℤ pos L) ≤ℤ pos motion_units)
floor_times K L h m n = ≤ℤ_trans (floor_of (pos motion_units) K *ℤ pos L) (floor_of (pos motion_units) K *ℤ pos K) (pos motion_units) (*ℤ_mono_right (pos L) (pos K) (floor_of (pos motion_units) K) n (omega (arith, ints))) (floor_of_low (pos motion_units) K h)

-- so it is at most the quotient by the lower end
pub quotients_ordered : (K L : ℕ) → 0 < L → L ≤ K → pos 0 ≤ℤ floor_of (pos motion_units) K → floor_of (pos motion_units) K ≤ℤ ceil_of (pos (motion_units + 1)) L
quotients_ordered K L h m n =
    let low = floor_times K L (omega arith) m n in
    let high = ceil_of_high (pos (motion_units + 1)) L h in
    multiple_below (floor_of (pos motion_units) K) (ceil_of (pos (motion_units + 1)) L) L (omega (arith, ints))

-- at most 2^52 units
pub motion_inside : (c : Ends) → IsCube c → IsInside (motion_of c) record { lo = pos 0; hi = pos (2 ^ 52) }
unfolding motion_of
motion_inside c i =
    let il = i.low in
    let io = i.ordered in
    let ih = i.high in
    let kg = quotient_great c.hi motion_units (omega (arith, ints)) ih (lit≤ tt) in
    let top : ceil_of (pos (motion_units + 1)) (unsigned_abs c.lo) ≤ℤ pos 4503599627370495 = (ceil_of-at_most (pos (motion_units + 1)) (pos 4503599627370495) (unsigned_abs c.lo) (omega (arith, ints))).1 (omega (arith, ints)) in
    let mid = quotients_ordered (unsigned_abs c.hi) (unsigned_abs c.lo) (omega (arith, ints)) (omega (arith, ints)) (omega (arith, ints)) in
    record { low = omega (arith, ints); ordered = omega (arith, ints); high = omega (arith, ints) }

-- two units apart before they go a unit outward
quotients_near : (K L : ℕ) → 2 ^ 62 ≤ L → L ≤ K → K ≤ L + 163 → pos 0 ≤ℤ floor_of (pos motion_units) K → ceil_of (pos (motion_units + 1)) L ≤ℤ (floor_of (pos motion_units) K +ℤ pos 2)
quotients_near K L great m near n =
    let k : ℤ = floor_of (pos motion_units) K in
    let hp : 0 < K = omega arith in
    let hl : 0 < L = omega arith in
    let small : (k *ℤ pos (2 ^ 62)) ≤ℤ pos motion_units = floor_times K (2 ^ 62) hp (omega arith) n in
    let next : pos motion_units <ℤ (k *ℤ pos K +ℤ pos K) = floor_of_high (pos motion_units) K hp in
    let wider : (k *ℤ pos K) ≤ℤ (k *ℤ pos (L + 163)) = *ℤ_mono_right (pos K) (pos (L + 163)) k n (omega (arith, ints)) in
    let split : k *ℤ pos (L + 163) ≡ k *ℤ pos L +ℤ k *ℤ pos 163 = identity_whole (k ∷ pos L ∷ []) (search quote_whole depth 20) tt in
    let more : (k +ℤ pos 2) *ℤ pos L ≡ k *ℤ pos L +ℤ pos 2 *ℤ pos L = identity_whole (k ∷ pos L ∷ []) (search quote_whole depth 20) tt in
    (ceil_of-at_most (pos (motion_units + 1)) (k +ℤ pos 2) L hl).1 (omega (arith, ints))

pub motion_width : (c : Ends) → IsCube c → IsNarrow c 163 → IsNarrow (motion_of c) 4
unfolding motion_of
motion_width c i n =
    let il = i.low in
    let io = i.ordered in
    let ih = i.high in
    let w = n.width in
    let kg = quotient_great c.hi motion_units (omega (arith, ints)) ih (lit≤ tt) in
    let near = quotients_near (unsigned_abs c.hi) (unsigned_abs c.lo) (omega (arith, ints)) (omega (arith, ints)) (omega (arith, ints)) (omega (arith, ints)) in
    record { width = omega (arith, ints) }
