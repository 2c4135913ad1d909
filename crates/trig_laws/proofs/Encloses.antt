-- The sine and cosine of turns enclose what the model admits, and wider turns give wider answers.
use Rattle.std.specs.Prelude.{◌≡◌, zero, suc, ℤ, pos, negsuc, ◌^◌, ◌≤◌, refl, ◌+ℤ◌, ◌-ℤ◌, ◌≤ℤ◌, neg_ℤ, Bool, true, false, cond, unsigned_abs}
use Rattle.std.proofs.Common.{arith, ap, sym, ◌∙◌}
use Rattle.std.proofs.lemmas.Int.{ints}
use Rattle.std.proofs.lemmas.Nat.{pow_pos}
use Rattle.std.specs.Int.{int_rem_euclid}
use lib.Dec.{lit≤}
use lib.Signed.{le_z}
use Rattle.fractions.specs.Fraction.{Fraction, ratio, oneᶠ, ◌*ᶠ◌, neg, ◌≤ᶠ◌}
use Rattle.fractions.proofs.Ratios.{ratio-same, neg-ratio}
use Rattle.raim_model.specs.Constants.{tau}
use Rattle.raim_model.specs.Level.{Level}
use Rattle.raim_model.specs.Sine.{IsSineCosine, Turned, quarter_of, turns_left}
use Rattle.fix_interval.specs.Ends.{Ends, IsInside}
use Rattle.fix_interval.specs.Lies.{Lies}
use Rattle.fix_interval.proofs.EndSums.{neg_encloses}
use Rattle.fix_interval.specs.Ranges.{full_ends}
use Rattle.fix_interval.specs.Pairs.{PairEnds, full_pair, hull_from, PairLies, PairInside}
use Rattle.fix_interval.proofs.EndInsides.{lies_inside}
use Rattle.fix_interval.proofs.EndPairs.{hulls_lie, hulls_above, hulls_least, last_of_range, full_self}
use Rattle.series_laws.proofs.Turns.{radians_small, turns_small, between}
use Rattle.series_laws.proofs.Units.{sine_small, cosine_small}
use Rattle.trig_laws.specs.SinCos.{turn_of, pair_at, nearest_quarter_of, sin_cos_of}
use Rattle.trig_laws.proofs.Isotones.{pair_isotone, pair_full, turn_full}
use Rattle.trig_laws.proofs.Left.{quarter_encloses}
use Rattle.trig_laws.proofs.Quarters.{quarter_above, quarter_below, quarter_mono}

-- ---- turned by quarters
turn_encloses : (k : ℤ) (a b : Ends) (x y s c : Fraction) → Lies a 38 x → Lies b 38 y → Turned k x y s c → PairLies (turn_of k a b) s c
turn_encloses (pos zero) a b x y s c p q t = record { sine = rw t.0 p; cosine = rw t.1 q }
turn_encloses (pos (suc zero)) a b x y s c p q t = record { sine = rw t.0 q; cosine = rw t.1 (neg_encloses a x p) }
turn_encloses (pos (suc (suc zero))) a b x y s c p q t = record { sine = rw t.0 (neg_encloses a x p); cosine = rw t.1 (neg_encloses b y q) }
turn_encloses (pos (suc (suc (suc n)))) a b x y s c p q t = record { sine = rw t.0 (neg_encloses b y q); cosine = rw t.1 p }
turn_encloses (negsuc n) a b x y s c p q t = record { sine = rw t.0 (neg_encloses b y q); cosine = rw t.1 p }

pub pair_encloses : (N : Level) (a : Ends) (u s c : Fraction) → Lies a 38 u → IsSineCosine N u s c → PairLies (pair_at a (quarter_of u)) s c
unfolding pair_at
pair_encloses N a u s c l p = let h = quarter_encloses N a u s c l p in turn_encloses (int_rem_euclid (quarter_of u) (pos 4)) _ _ p.sine p.cosine s c h.0 h.1 p.turned

-- ---- the whole
not_wide : (a c : Ends) → IsInside a c → le_z (pos (2 ^ 38)) (c.hi -ℤ c.lo) ≡ false → le_z (pos (2 ^ 38)) (a.hi -ℤ a.lo) ≡ true → ⊥
not_wide a c p d e = omega (arith, ints)

narrow_isotone : (a c : Ends) → IsInside a c → PairInside (hull_from (pair_at a) (nearest_quarter_of a.lo) (unsigned_abs (nearest_quarter_of a.hi -ℤ nearest_quarter_of a.lo))) (hull_from (pair_at c) (nearest_quarter_of c.lo) (unsigned_abs (nearest_quarter_of c.hi -ℤ nearest_quarter_of c.lo)))
narrow_isotone a c p =
    let la : nearest_quarter_of a.lo +ℤ pos (unsigned_abs (nearest_quarter_of a.hi -ℤ nearest_quarter_of a.lo)) ≡ nearest_quarter_of a.hi = last_of_range _ _ (quarter_mono a.lo a.hi p.ordered) in
    let oc : c.lo ≤ℤ c.hi = omega (arith, ints) in
    let lc : nearest_quarter_of c.lo +ℤ pos (unsigned_abs (nearest_quarter_of c.hi -ℤ nearest_quarter_of c.lo)) ≡ nearest_quarter_of c.hi = last_of_range _ _ (quarter_mono c.lo c.hi oc) in
    let ml : nearest_quarter_of c.lo ≤ℤ nearest_quarter_of a.lo = quarter_mono c.lo a.lo p.low in
    let mh : nearest_quarter_of a.hi ≤ℤ nearest_quarter_of c.hi = quarter_mono a.hi c.hi p.high in
    hulls_least (pair_at a) _ (nearest_quarter_of a.lo) _ (λ q i j.
    let k : q ≤ℤ nearest_quarter_of a.hi = rw la at j in
    hulls_above (pair_at c) (pair_at a q) (nearest_quarter_of c.lo) q _ (inside_low ml i) (rw lc (inside_low k mh)) (pair_isotone a c q i k p))
  where
    inside_low : {x y z : ℤ} → x ≤ℤ y → y ≤ℤ z → x ≤ℤ z
    inside_low h k = omega (arith, ints)

narrow_full : (a : Ends) → a.lo ≤ℤ a.hi → PairInside (hull_from (pair_at a) (nearest_quarter_of a.lo) (unsigned_abs (nearest_quarter_of a.hi -ℤ nearest_quarter_of a.lo))) full_pair
narrow_full a o =
    let la : nearest_quarter_of a.lo +ℤ pos (unsigned_abs (nearest_quarter_of a.hi -ℤ nearest_quarter_of a.lo)) ≡ nearest_quarter_of a.hi = last_of_range _ _ (quarter_mono a.lo a.hi o) in
    hulls_least (pair_at a) _ (nearest_quarter_of a.lo) _ (λ q i j. pair_full a q o i (rw la at j))

-- wider turns give wider answers
pub sin_cos_isotone : {a : Ends} {r : PairEnds} → r ≡ sin_cos_of a → (c : Ends) → IsInside a c → PairInside r (sin_cos_of c)
unfolding sin_cos_of
sin_cos_isotone {a} {r} e c p = rw e (by_width (le_z (pos (2 ^ 38)) (a.hi -ℤ a.lo)) (le_z (pos (2 ^ 38)) (c.hi -ℤ c.lo)) refl refl)
  where
    by_width : (t v : Bool) → le_z (pos (2 ^ 38)) (a.hi -ℤ a.lo) ≡ t → le_z (pos (2 ^ 38)) (c.hi -ℤ c.lo) ≡ v
        → PairInside (cond t full_pair (hull_from (pair_at a) (nearest_quarter_of a.lo) (unsigned_abs (nearest_quarter_of a.hi -ℤ nearest_quarter_of a.lo)))) (cond v full_pair (hull_from (pair_at c) (nearest_quarter_of c.lo) (unsigned_abs (nearest_quarter_of c.hi -ℤ nearest_quarter_of c.lo))))
    by_width true true d e = full_self
    by_width true false d e = absurd (not_wide a c p e d)
    by_width false true d e = narrow_full a p.ordered
    by_width false false d e = narrow_isotone a c p

-- ---- the model's pair lies from -1 to 1
unit_lies : (s : Fraction) → neg oneᶠ ≤ᶠ s → s ≤ᶠ oneᶠ → Lies full_ends 38 s
unit_lies s h k =
    let e : ratio (pos (2 ^ 38)) (2 ^ 38) ≡ oneᶠ = ratio-same (pos (2 ^ 38)) (pos 1) (2 ^ 38) 1 (pow_pos 38) (lit≤ tt) refl in
    let f : ratio (neg_ℤ (pos (2 ^ 38))) (2 ^ 38) ≡ neg oneᶠ = sym (neg-ratio (pos (2 ^ 38)) (2 ^ 38)) ∙ ap neg e in
    record { low = rw f h; high = rw e k }

pairs_enclose : (N : Level) (a : Ends) (u s c : Fraction) → a.lo ≤ℤ a.hi → Lies a 38 u → IsSineCosine N u s c → PairLies (hull_from (pair_at a) (nearest_quarter_of a.lo) (unsigned_abs (nearest_quarter_of a.hi -ℤ nearest_quarter_of a.lo))) s c
pairs_enclose N a u s c o l p =
    let la : nearest_quarter_of a.lo +ℤ pos (unsigned_abs (nearest_quarter_of a.hi -ℤ nearest_quarter_of a.lo)) ≡ nearest_quarter_of a.hi = last_of_range _ _ (quarter_mono a.lo a.hi o) in
    hulls_lie (pair_at a) (nearest_quarter_of a.lo) (quarter_of u) _ s c (quarter_above a.lo u l.low) (rw la (quarter_below a.hi u l.high)) (pair_encloses N a u s c l p)

pub full_lies : (N : Level) (u s c : Fraction) → IsSineCosine N u s c → PairLies full_pair s c
full_lies N u s c p =
    let r = radians_small (turns_left u) (turns_small u) in
    let m : 7 ≤ N.terms = omega (arith, N.enough) in
    let n : 2 ≤ N.terms = omega (arith, N.enough) in
    let i = between p.sine (sine_small N.terms (tau *ᶠ turns_left u) p.sine m r p.near_sine) in
    let j = between p.cosine (cosine_small N.terms (tau *ᶠ turns_left u) p.cosine n r p.near_cosine) in
    let t = turn_encloses (int_rem_euclid (quarter_of u) (pos 4)) full_ends full_ends p.sine p.cosine s c (unit_lies p.sine i.0 i.1) (unit_lies p.cosine j.0 j.1) p.turned in
    let f = turn_full (int_rem_euclid (quarter_of u) (pos 4)) full_ends full_ends full_self.sine full_self.cosine in
    record { sine = lies_inside t.sine f.sine; cosine = lies_inside t.cosine f.cosine }

-- the answer holds each pair of the model, at each level
pub sin_cos_encloses : {a : Ends} {r : PairEnds} → r ≡ sin_cos_of a → a.lo ≤ℤ a.hi → (N : Level) (u s c : Fraction) → Lies a 38 u → IsSineCosine N u s c → PairLies r s c
unfolding sin_cos_of
sin_cos_encloses {a} {r} e o N u s c l p = rw e (by_width (le_z (pos (2 ^ 38)) (a.hi -ℤ a.lo)))
  where
    by_width : (t : Bool) → PairLies (cond t full_pair (hull_from (pair_at a) (nearest_quarter_of a.lo) (unsigned_abs (nearest_quarter_of a.hi -ℤ nearest_quarter_of a.lo)))) s c
    by_width true = full_lies N u s c p
    by_width false = pairs_enclose N a u s c o l p

-- each part is an interval from -1 to 1
pub sin_cos_full : (a : Ends) → a.lo ≤ℤ a.hi → PairInside (sin_cos_of a) full_pair
unfolding sin_cos_of
sin_cos_full a o = by_width (le_z (pos (2 ^ 38)) (a.hi -ℤ a.lo))
  where
    by_width : (t : Bool) → PairInside (cond t full_pair (hull_from (pair_at a) (nearest_quarter_of a.lo) (unsigned_abs (nearest_quarter_of a.hi -ℤ nearest_quarter_of a.lo)))) full_pair
    by_width true = full_self
    by_width false = narrow_full a o
