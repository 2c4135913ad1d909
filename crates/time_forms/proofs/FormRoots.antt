-- The root of a form holds the root of what the form holds.
use Rattle.std.proofs.Common.{◌≡◌, sym, subst, [], ◌∷◌, ℕ, zero, suc, ◌+◌, ◌-◌, ◌*◌, ◌<◌, ◌≤◌, ℤ, pos, neg_ℤ, ◌+ℤ◌, ◌-ℤ◌, ◌*ℤ◌, ◌≤ℤ◌, ◌<ℤ◌, refl, arith, mul-pos, ⊎_elim}
use Rattle.std.proofs.lemmas.Int.{ints}
use Rattle.whole_numbers.specs.Rounding.{floor_of}
use Rattle.whole_numbers.specs.Root.{root_of}
use Rattle.whole_numbers.proofs.Integers.{≤ℤ_trans, ≤ℤ_total, not_negative_natural, not_negative_square}
use Rattle.whole_numbers.proofs.Roots.{root_of_low, root_of_high, root_of_mono}
use Rattle.whole_numbers.proofs.Quote.{quote}
use Rattle.whole_numbers.proofs.Certificates.{at_most, at_most_scaled, not_negative}
use Rattle.fix_interval.specs.Ends.{Ends}
use Rattle.fix_interval.specs.Roots.{sqrt_of}
use Rattle.time_forms.specs.Forms.{Form, IsTime, LiesIn, Holds, size, least_of, greatest_of}
use Rattle.time_forms.specs.RootForms.{root_pair, root_gap, root_reach, root_bend, sqrt_form}
use Rattle.time_forms.proofs.Bounds.{size_high, size_low}
use Rattle.time_forms.proofs.FormSpans.{least_low, greatest_high, holds_lo, holds_hi, remainder_not_negative, least_at_most_centre}
use Rattle.time_forms.proofs.FormProducts.{IsAround, around_high, around_low}
use Rattle.time_forms.proofs.Rests.{next_floor, rest_around, time_around}

-- ---- a number between squares
record IsRootOf (n : ℕ) (z : ℤ) : Type 0 where
  low : (pos n *ℤ pos n) ≤ℤ z
  high : z ≤ℤ (pos n *ℤ pos n +ℤ pos 2 *ℤ pos n)

root_is : (z : ℤ) → pos 0 ≤ℤ z → IsRootOf (root_of z) z
root_is z h = record { low = root_of_low z h; high = let p = root_of_high z in above (root_of z) z p }
  where
    above : (n : ℕ) (z : ℤ) → z <ℤ pos ((n + 1) * (n + 1)) → z ≤ℤ (pos n *ℤ pos n +ℤ pos 2 *ℤ pos n)
    above n z p = omega (arith, ints)

-- the root of what is above 0 is above 0
pub root_some : (z : ℤ) → pos 1 ≤ℤ z → 1 ≤ root_of z
root_some z h = some (root_of z) (root_of_high z)
  where
    some : (n : ℕ) → z <ℤ pos ((n + 1) * (n + 1)) → 1 ≤ n
    some zero p = absurd (omega (arith, ints))
    some (suc n) p = omega arith

-- ---- how far two roots are from one another, times their sum
-- of w the root of c and n the root of z, where z is within m of c
gap_high : (w n m c z : ℤ) → pos 0 ≤ℤ n → (n *ℤ n) ≤ℤ z → c ≤ℤ (w *ℤ w +ℤ pos 2 *ℤ w) → z ≤ℤ (c +ℤ m) → ((n -ℤ w) *ℤ (n +ℤ w)) ≤ℤ (m +ℤ pos 2 *ℤ w)
gap_high w n m c z k p q s = at_most (w ∷ n ∷ m ∷ c ∷ z ∷ []) ((z -ℤ n *ℤ n) +ℤ (((w *ℤ w +ℤ pos 2 *ℤ w) -ℤ c) +ℤ ((c +ℤ m) -ℤ z))) (search not_negative) (search quote depth 20) tt

gap_low : (w n m c z : ℤ) → pos 0 ≤ℤ n → pos 0 ≤ℤ w → pos 0 ≤ℤ m → z ≤ℤ (n *ℤ n +ℤ pos 2 *ℤ n) → (w *ℤ w) ≤ℤ c → (c -ℤ m) ≤ℤ z → ((w -ℤ n) *ℤ (n +ℤ w)) ≤ℤ (m +ℤ pos 2 *ℤ w)
gap_low w n m c z k l o p q s = ⊎_elim smaller greater (≤ℤ_total n w)
  where
    smaller : n ≤ℤ w → ((w -ℤ n) *ℤ (n +ℤ w)) ≤ℤ (m +ℤ pos 2 *ℤ w)
    smaller i = at_most (w ∷ n ∷ m ∷ c ∷ z ∷ []) (((n *ℤ n +ℤ pos 2 *ℤ n) -ℤ z) +ℤ ((c -ℤ w *ℤ w) +ℤ ((z -ℤ (c -ℤ m)) +ℤ pos 2 *ℤ (w -ℤ n)))) (search not_negative) (search quote depth 20) tt

    greater : w ≤ℤ n → ((w -ℤ n) *ℤ (n +ℤ w)) ≤ℤ (m +ℤ pos 2 *ℤ w)
    greater i = at_most (w ∷ n ∷ m ∷ c ∷ z ∷ []) ((n -ℤ w) *ℤ (n +ℤ w) +ℤ (m +ℤ pos 2 *ℤ w)) (search not_negative) (search quote depth 20) tt

-- ---- what the line misses
-- u (m + 2 w) is at most 2 w (e + 1) k^2, where u is at most m and k^2, m at most t k, and t^2 at most 2 w e
bend_enough : (u m t e w k : ℤ) → pos 0 ≤ℤ u → u ≤ℤ m → pos 0 ≤ℤ w → pos 0 ≤ℤ k → u ≤ℤ (k *ℤ k) → m ≤ℤ (t *ℤ k) → (t *ℤ t) ≤ℤ (e *ℤ (pos 2 *ℤ w))
    → (u *ℤ (m +ℤ pos 2 *ℤ w)) ≤ℤ (((pos 2 *ℤ w) *ℤ (e +ℤ pos 1)) *ℤ (k *ℤ k))
bend_enough u m t e w k nu um nw nk uk mt te =
    let nm = ≤ℤ_trans (pos 0) u m nu um in
    let nt = ≤ℤ_trans (pos 0) m (t *ℤ k) nm mt in
    at_most (u ∷ m ∷ t ∷ e ∷ w ∷ k ∷ [])
    (m *ℤ (m -ℤ u) +ℤ ((t *ℤ k -ℤ m) *ℤ (t *ℤ k) +ℤ (m *ℤ (t *ℤ k -ℤ m) +ℤ ((e *ℤ (pos 2 *ℤ w) -ℤ t *ℤ t) *ℤ (k *ℤ k) +ℤ (pos 2 *ℤ w) *ℤ (k *ℤ k -ℤ u)))))
    (search not_negative depth 12) (search quote depth 24) tt

-- v times the difference of the roots, over their sum
bend_around : (k : ℕ) (v g m t e w : ℤ) → 0 < k → pos 0 ≤ℤ w → size v ≤ℤ m → size v ≤ℤ (pos k *ℤ pos k) → m ≤ℤ (t *ℤ pos k) → (t *ℤ t) ≤ℤ (e *ℤ (pos 2 *ℤ w))
    → (g *ℤ pos k) ≤ℤ (m +ℤ pos 2 *ℤ w) → (neg_ℤ g *ℤ pos k) ≤ℤ (m +ℤ pos 2 *ℤ w) → IsAround (((pos 2 *ℤ w) *ℤ (e +ℤ pos 1)) *ℤ pos k) (v *ℤ g)
bend_around k v g m t e w some nw um uk mt te gh gl =
    let far : IsAround (m +ℤ pos 2 *ℤ w) (g *ℤ pos k) = reach (g *ℤ pos k) (neg_ℤ g *ℤ pos k) (m +ℤ pos 2 *ℤ w) (turned g (pos k)) gh gl in
    let turn : IsAround (size v) v = record { low = size_low v; high = size_high v } in
    let enough = bend_enough (size v) m t e w (pos k) (not_negative_natural _) um nw (not_negative_natural k) uk mt te in
    record { low = below (pos 2 *ℤ w) e v g (size v *ℤ (m +ℤ pos 2 *ℤ w)) (around_low turn far) enough; high = above (pos 2 *ℤ w) e v g (size v *ℤ (m +ℤ pos 2 *ℤ w)) (around_high turn far) enough }
  where
    turned : (g k : ℤ) → neg_ℤ g *ℤ k ≡ neg_ℤ (g *ℤ k)
    turned g k = Rattle.whole_numbers.proofs.Integers.neg_ℤ-*ℤ g k

    reach : (y z m : ℤ) → z ≡ neg_ℤ y → y ≤ℤ m → z ≤ℤ m → IsAround m y
    reach y z m e p q = record { low = omega (arith, ints); high = p }

    below : (w e v g b : ℤ) → neg_ℤ b ≤ℤ (v *ℤ (g *ℤ pos k)) → b ≤ℤ ((w *ℤ (e +ℤ pos 1)) *ℤ (pos k *ℤ pos k)) → neg_ℤ ((w *ℤ (e +ℤ pos 1)) *ℤ pos k) ≤ℤ (v *ℤ g)
    below w e v g b p q = at_most_scaled (w ∷ e ∷ v ∷ g ∷ b ∷ pos k ∷ []) k some ((v *ℤ (g *ℤ pos k) -ℤ neg_ℤ b) +ℤ ((w *ℤ (e +ℤ pos 1)) *ℤ (pos k *ℤ pos k) -ℤ b)) (search not_negative) (search quote depth 20) tt

    above : (w e v g b : ℤ) → (v *ℤ (g *ℤ pos k)) ≤ℤ b → b ≤ℤ ((w *ℤ (e +ℤ pos 1)) *ℤ (pos k *ℤ pos k)) → (v *ℤ g) ≤ℤ ((w *ℤ (e +ℤ pos 1)) *ℤ pos k)
    above w e v g b p q = at_most_scaled (w ∷ e ∷ v ∷ g ∷ b ∷ pos k ∷ []) k some ((b -ℤ v *ℤ (g *ℤ pos k)) +ℤ ((w *ℤ (e +ℤ pos 1)) *ℤ (pos k *ℤ pos k) -ℤ b)) (search not_negative) (search quote depth 20) tt

-- ---- the root of a number near a form
root_high : (w n : ℕ) (h d c v r z l e b : ℤ) → 0 < (2 * w) * (n + w) → pos 0 ≤ℤ h
    → (pos n *ℤ pos n) ≤ℤ z
    → (h *ℤ z) ≤ℤ (h *ℤ (c +ℤ r) +ℤ v *ℤ d)
    → c ≤ℤ (pos w *ℤ pos w +ℤ pos 2 *ℤ pos w)
    → r ≤ℤ (l *ℤ (pos n +ℤ pos w))
    → ((v *ℤ (pos w -ℤ pos n)) *ℤ d) ≤ℤ ((((pos 2 *ℤ pos w) *ℤ (e +ℤ pos 1)) *ℤ (pos n +ℤ pos w)) *ℤ h)
    → ((v -ℤ b *ℤ (pos 2 *ℤ pos w)) *ℤ d) ≤ℤ ((pos 2 *ℤ pos w) *ℤ h)
    → (h *ℤ (pos n +ℤ pos 2)) ≤ℤ (h *ℤ (pos w +ℤ ((l +ℤ e) +ℤ pos 6)) +ℤ b *ℤ d)
root_high w n h d c v r z l e b some nh p q s t u x = let nw = not_negative_natural w in let nn = not_negative_natural n in at_most_scaled (pos w ∷ pos n ∷ h ∷ d ∷ c ∷ v ∷ r ∷ z ∷ l ∷ e ∷ b ∷ []) ((2 * w) * (n + w)) some
    (((pos 2 *ℤ pos w) *ℤ h) *ℤ (z -ℤ pos n *ℤ pos n) +ℤ ((pos 2 *ℤ pos w) *ℤ ((h *ℤ (c +ℤ r) +ℤ v *ℤ d) -ℤ h *ℤ z) +ℤ (((pos 2 *ℤ pos w) *ℤ h) *ℤ ((pos w *ℤ pos w +ℤ pos 2 *ℤ pos w) -ℤ c) +ℤ (((pos 2 *ℤ pos w) *ℤ h) *ℤ (l *ℤ (pos n +ℤ pos w) -ℤ r)
    +ℤ (((((pos 2 *ℤ pos w) *ℤ (e +ℤ pos 1)) *ℤ (pos n +ℤ pos w)) *ℤ h -ℤ (v *ℤ (pos w -ℤ pos n)) *ℤ d) +ℤ ((pos n +ℤ pos w) *ℤ ((pos 2 *ℤ pos w) *ℤ h -ℤ (v -ℤ b *ℤ (pos 2 *ℤ pos w)) *ℤ d) +ℤ (pos 4 *ℤ pos w) *ℤ (h *ℤ pos n)))))))
    (search not_negative depth 14) (search quote depth 28) tt

root_low : (w n : ℕ) (h d c v r z l e b : ℤ) → 0 < (2 * w) * (n + w) → pos 0 ≤ℤ h
    → z ≤ℤ (pos n *ℤ pos n +ℤ pos 2 *ℤ pos n)
    → (h *ℤ (c -ℤ r) +ℤ v *ℤ d) ≤ℤ (h *ℤ z)
    → (pos w *ℤ pos w) ≤ℤ c
    → r ≤ℤ (l *ℤ (pos n +ℤ pos w))
    → neg_ℤ ((((pos 2 *ℤ pos w) *ℤ (e +ℤ pos 1)) *ℤ (pos n +ℤ pos w)) *ℤ h) ≤ℤ ((v *ℤ (pos w -ℤ pos n)) *ℤ d)
    → neg_ℤ ((pos 2 *ℤ pos w) *ℤ h) ≤ℤ ((v -ℤ b *ℤ (pos 2 *ℤ pos w)) *ℤ d)
    → (h *ℤ (pos w -ℤ ((l +ℤ e) +ℤ pos 6)) +ℤ b *ℤ d) ≤ℤ (h *ℤ (pos n -ℤ pos 1))
root_low w n h d c v r z l e b some nh p q s t u x = let nw = not_negative_natural w in let nn = not_negative_natural n in at_most_scaled (pos w ∷ pos n ∷ h ∷ d ∷ c ∷ v ∷ r ∷ z ∷ l ∷ e ∷ b ∷ []) ((2 * w) * (n + w)) some
    (((pos 2 *ℤ pos w) *ℤ h) *ℤ ((pos n *ℤ pos n +ℤ pos 2 *ℤ pos n) -ℤ z) +ℤ ((pos 2 *ℤ pos w) *ℤ (h *ℤ z -ℤ (h *ℤ (c -ℤ r) +ℤ v *ℤ d)) +ℤ (((pos 2 *ℤ pos w) *ℤ h) *ℤ (c -ℤ pos w *ℤ pos w) +ℤ (((pos 2 *ℤ pos w) *ℤ h) *ℤ (l *ℤ (pos n +ℤ pos w) -ℤ r)
    +ℤ (((v *ℤ (pos w -ℤ pos n)) *ℤ d -ℤ neg_ℤ ((((pos 2 *ℤ pos w) *ℤ (e +ℤ pos 1)) *ℤ (pos n +ℤ pos w)) *ℤ h)) +ℤ ((pos n +ℤ pos w) *ℤ ((v -ℤ b *ℤ (pos 2 *ℤ pos w)) *ℤ d -ℤ neg_ℤ ((pos 2 *ℤ pos w) *ℤ h)) +ℤ ((pos 4 *ℤ pos w) *ℤ (h *ℤ pos w) +ℤ ((pos 2 *ℤ pos w) *ℤ h) *ℤ (pos n +ℤ pos w))))))))
    (search not_negative depth 14) (search quote depth 28) tt

-- ---- what the definitions give
-- the size of what turns is below the square of the sum of the roots
turn_small : (w n u c : ℤ) → pos 0 ≤ℤ w → pos 1 ≤ℤ n → u ≤ℤ c → c ≤ℤ (w *ℤ w +ℤ pos 2 *ℤ w) → u ≤ℤ ((n +ℤ w) *ℤ (n +ℤ w))
turn_small w n u c i j p q = at_most (w ∷ n ∷ u ∷ c ∷ []) (((w *ℤ w +ℤ pos 2 *ℤ w) -ℤ c) +ℤ ((c -ℤ u) +ℤ ((n -ℤ pos 1) *ℤ ((n -ℤ pos 1) +ℤ (pos 2 *ℤ w +ℤ pos 2)) +ℤ pos 1))) (search not_negative depth 12) (search quote depth 20) tt

-- ---- the root of a number near a form whose least is above 0
-- what both sides need, of w the root of the centre and n that of the number
record IsRootNear (h : ℕ) (d : ℤ) (f : Form) (z : ℤ) : Type 0 where
  some : 0 < (2 * root_of f.centre) * (root_of z + root_of f.centre)
  centre : IsRootOf (root_of f.centre) f.centre
  number : IsRootOf (root_of z) z
  number_some : 1 ≤ root_of z
  remainder : f.remainder ≤ℤ (root_gap f *ℤ (pos (root_of z) +ℤ pos (root_of f.centre)))
  bend : IsAround ((((pos 2 *ℤ pos (root_of f.centre)) *ℤ (root_bend f +ℤ pos 1)) *ℤ (pos (root_of z) +ℤ pos (root_of f.centre))) *ℤ pos h) ((f.turning *ℤ (pos (root_of f.centre) -ℤ pos (root_of z))) *ℤ d)
  rest : IsAround ((pos 2 *ℤ pos (root_of f.centre)) *ℤ pos h) ((f.turning -ℤ floor_of f.turning (2 * root_of f.centre) *ℤ (pos 2 *ℤ pos (root_of f.centre))) *ℤ d)

root_facts : {h : ℕ} {d : ℤ} (f : Form) (z : ℤ) → IsTime h d → pos 1 ≤ℤ least_of f → LiesIn h d f z → IsRootNear h d f z
unfolding least_of greatest_of
root_facts {h} {d} f z t some p =
    let nr = remainder_not_negative f z t p in
    let nv = not_negative_natural (Rattle.std.proofs.Common.unsigned_abs f.turning) in
    let least = least_low f z t p in
    let greatest = greatest_high f z t p in
    let above : least_of f ≤ℤ f.centre = least_at_most_centre f z t p in
    let c1 : pos 1 ≤ℤ f.centre = ≤ℤ_trans (pos 1) (least_of f) f.centre some above in
    let z1 : pos 1 ≤ℤ z = ≤ℤ_trans (pos 1) (least_of f) z some least in
    let w = root_of f.centre in
    let n = root_of z in
    let l = root_of (least_of f) in
    let w1 = root_some f.centre c1 in
    let n1 = root_some z z1 in
    let l1 = root_some (least_of f) some in
    let ln : l ≤ n = root_of_mono (least_of f) z (from_one (least_of f) some) least in
    let cr = root_is f.centre (from_one f.centre c1) in
    let zr = root_is z (from_one z z1) in
    let s0 : 0 < root_pair f = omega arith in
    let sk : root_pair f ≤ n + w = omega arith in
    let k0 : 0 < n + w = omega arith in
    let ww0 : 0 < 2 * w = omega arith in
    let nm : pos 0 ≤ℤ (size f.turning +ℤ f.remainder) = both (size f.turning) f.remainder nv nr in
    let te = next_floor (root_reach f *ℤ root_reach f) (2 * w) (2 * w) ww0 (omega arith) (not_negative_square (root_reach f)) in
    record {
      some = mul-pos ww0 k0;
      centre = cr;
      number = zr;
      number_some = n1;
      remainder = next_floor f.remainder (root_pair f) (n + w) s0 sk nr;
      bend = let b = bend_around (n + w) f.turning (pos w -ℤ pos n) (size f.turning +ℤ f.remainder) (root_reach f) (root_bend f) (pos w) k0 (not_negative_natural w) (more (size f.turning) f.remainder nr)
          (turn_small (pos w) (pos n) (size f.turning) f.centre (not_negative_natural w) (up n1) (part f.centre (size f.turning) f.remainder nr some) cr.high)
          (next_floor (size f.turning +ℤ f.remainder) (root_pair f) (n + w) s0 sk nm)
          te
          (gap_low (pos w) (pos n) (size f.turning +ℤ f.remainder) f.centre z (not_negative_natural n) (not_negative_natural w) nm zr.high cr.low (regroup f.centre (size f.turning) f.remainder z least))
          (subst (λ y. (y *ℤ (pos n +ℤ pos w)) ≤ℤ ((size f.turning +ℤ f.remainder) +ℤ pos 2 *ℤ pos w)) (turned (pos n) (pos w)) (gap_high (pos w) (pos n) (size f.turning +ℤ f.remainder) f.centre z (not_negative_natural n) zr.low cr.high (regroup' f.centre (size f.turning) f.remainder z greatest)))
          in record { low = around_low b (time_around t); high = around_high b (time_around t) };
      rest = let b = rest_around f.turning (2 * w) ww0 in record { low = around_low b (time_around t); high = around_high b (time_around t) };
    }
  where
    from_one : (z : ℤ) → pos 1 ≤ℤ z → pos 0 ≤ℤ z
    from_one z p = omega (arith, ints)

    both : (y z : ℤ) → pos 0 ≤ℤ y → pos 0 ≤ℤ z → pos 0 ≤ℤ (y +ℤ z)
    both y z p q = omega (arith, ints)

    more : (y z : ℤ) → pos 0 ≤ℤ z → y ≤ℤ (y +ℤ z)
    more y z p = omega (arith, ints)

    up : {n : ℕ} → 1 ≤ n → pos 1 ≤ℤ pos n
    up h = omega (arith, ints)

    part : (c v r : ℤ) → pos 0 ≤ℤ r → pos 1 ≤ℤ ((c -ℤ v) -ℤ r) → v ≤ℤ c
    part c v r p q = omega (arith, ints)

    regroup : (c v r z : ℤ) → ((c -ℤ v) -ℤ r) ≤ℤ z → (c -ℤ (v +ℤ r)) ≤ℤ z
    regroup c v r z p = omega (arith, ints)

    regroup' : (c v r z : ℤ) → z ≤ℤ ((c +ℤ v) +ℤ r) → z ≤ℤ (c +ℤ (v +ℤ r))
    regroup' c v r z p = omega (arith, ints)

    turned : (n w : ℤ) → n -ℤ w ≡ neg_ℤ (w -ℤ n)
    turned n w = omega (arith, ints)

-- the root of an interval lies in the root of the form that holds the interval
pub sqrt_holds : {h : ℕ} {d : ℤ} (f : Form) (a : Ends) → IsTime h d → pos 1 ≤ℤ least_of f → Holds h d f a → Holds h d (sqrt_form f) (sqrt_of a)
unfolding sqrt_form sqrt_of
sqrt_holds {h} {d} f a t some p =
    let lo = holds_lo p in
    let hi = holds_hi p in
    let low = root_facts f a.lo t some lo in
    let high = root_facts f a.hi t some hi in
    let lo0 : pos 0 ≤ℤ a.lo = start (least_of f) a.lo some (least_low f a.lo t lo) in
    record {
      low = subst (λ y. (pos h *ℤ (pos (root_of f.centre) -ℤ ((root_gap f +ℤ root_bend f) +ℤ pos 6)) +ℤ floor_of f.turning (2 * root_of f.centre) *ℤ d) ≤ℤ (pos h *ℤ y)) (one_less (root_of a.lo) low.number_some)
          (root_low (root_of f.centre) (root_of a.lo) (pos h) d f.centre f.turning f.remainder a.lo (root_gap f) (root_bend f) (floor_of f.turning (2 * root_of f.centre)) low.some (not_negative_natural h) low.number.high lo.low low.centre.low low.remainder low.bend.low low.rest.low);
      ordered = let m = root_of_mono a.lo a.hi lo0 p.ordered in wide (root_of a.lo) (root_of a.hi) m;
      high = root_high (root_of f.centre) (root_of a.hi) (pos h) d f.centre f.turning f.remainder a.hi (root_gap f) (root_bend f) (floor_of f.turning (2 * root_of f.centre)) high.some (not_negative_natural h) high.number.low hi.high high.centre.high high.remainder high.bend.high high.rest.high;
    }
  where
    start : (l z : ℤ) → pos 1 ≤ℤ l → l ≤ℤ z → pos 0 ≤ℤ z
    start l z p q = omega (arith, ints)

    one_less : (n : ℕ) → 1 ≤ n → pos n -ℤ pos 1 ≡ pos (n - 1)
    one_less n h = omega (arith, ints)

    wide : (m n : ℕ) → m ≤ n → pos (m - 1) ≤ℤ pos (n + 2)
    wide m n h = omega (arith, ints)
