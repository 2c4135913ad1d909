-- How wide sums, products, quotients and roots of ends are.
use Rattle.std.specs.Prelude.{◌≡◌, ℕ, ℤ, pos, ◌+◌, ◌*◌, ◌^◌, ◌<◌, ◌≤◌, refl, ◌+ℤ◌, ◌-ℤ◌, ◌*ℤ◌, neg_ℤ, ◌≤ℤ◌, ◌&&◌, cond, [], ◌∷◌}
use Rattle.std.proofs.Common.{arith, subst}
use Rattle.std.proofs.lemmas.Int.{ints}
use Rattle.std.proofs.lemmas.Nat.{pow_pos}
use Rattle.std.specs.Int.{int_min, int_max}
use lib.Dec.{lit≤}
use lib.Signed.{le_z}
use Rattle.whole_numbers.specs.Root.{root_of}
use Rattle.whole_numbers.specs.Rounding.{floor_of, ceil_of}
use Rattle.whole_numbers.proofs.Certificates.{not_negative, at_most_scaled}
use Rattle.whole_numbers.proofs.Divisions.{floor_of_high, ceil_of_low, multiple_below}
use Rattle.whole_numbers.proofs.Integers.{≤ℤ_trans, ≤ℤ_refl, not_negative_natural}
use Rattle.whole_numbers.proofs.Products.{*ℤ_mono_left}
use Rattle.whole_numbers.proofs.Quote.{quote, identity}
use Rattle.whole_numbers.proofs.Roots.{root_of_high, root_of_mono, root_of-unique}
use Rattle.fix_interval.specs.Ends.{Ends, IsInside, IsNarrow}
use Rattle.fix_interval.specs.Products.{mul_of, mul_wide_of, narrow76_of, scale_int_of, sqr_wide_of}
use Rattle.fix_interval.specs.Quotients.{div_int_of, scale_of}
use Rattle.fix_interval.specs.Ranges.{around}
use Rattle.fix_interval.specs.Roots.{sqrt_of}
use Rattle.fix_interval.specs.Sums.{add_of, sub_of}
use Rattle.fix_interval.proofs.EndProducts.{pick_min, pick_max}
use Rattle.fix_interval.proofs.EndSquares.{below_least_square}

-- what is at most v wide is at most as wide as a greater number
pub narrow_weaken : {a : Ends} {v w : ℕ} → v ≤ w → IsNarrow a v → IsNarrow a w
narrow_weaken {a} {v} {w} h p = record { width = omega (arith, ints) }

-- ---- sums
-- a sum is as wide as both together
pub add_width : {a b : Ends} {v w : ℕ} → IsNarrow a v → IsNarrow b w → IsNarrow (add_of a b) (v + w)
unfolding add_of
add_width {a} {b} {v} {w} p q = record { width = omega (arith, ints) }

-- and so is a difference
pub sub_width : {a b : Ends} {v w : ℕ} → IsNarrow a v → IsNarrow b w → IsNarrow (sub_of a b) (v + w)
unfolding sub_of
sub_width {a} {b} {v} {w} p q = record { width = omega (arith, ints) }

-- ---- rounded outward
-- rounded outward by q, numbers that are at most w q apart are at most w + 1 apart
pub rounded_width : (y z : ℤ) (q w : ℕ) → 0 < q → (z -ℤ y) ≤ℤ (pos w *ℤ pos q) → (ceil_of z q -ℤ floor_of y q) ≤ℤ pos (w + 1)
rounded_width y z q w h k =
    let f = floor_of_high y q h in
    let c = ceil_of_low z q h in
    let e : (ceil_of z q -ℤ floor_of y q) *ℤ pos q ≡ ceil_of z q *ℤ pos q -ℤ floor_of y q *ℤ pos q = identity (ceil_of z q ∷ floor_of y q ∷ pos q ∷ []) (search quote depth 20) tt in
    let g : pos (w + 1) *ℤ pos q ≡ pos w *ℤ pos q +ℤ pos q = omega (arith, ints) in
    multiple_below (ceil_of z q -ℤ floor_of y q) (pos (w + 1)) q (omega (arith, ints))

-- by 38 places
pub narrow76_width : {a : Ends} (v w : ℕ) → IsNarrow a v → v ≤ w * 2 ^ 38 → IsNarrow (narrow76_of a) (w + 2)
unfolding narrow76_of
narrow76_width {a} v w p h = record { width = omega (arith, ints, floor_of_high a.lo (2 ^ 38) (pow_pos 38), ceil_of_low a.hi (2 ^ 38) (pow_pos 38)) }

-- by a ratio
pub scale_width : {a : Ends} (p q v w : ℕ) → 0 < q → IsNarrow a v → v * p ≤ w * q → IsNarrow (scale_of a p q) (w + 1)
unfolding scale_of
scale_width {a} p q v w h n k =
    let e : (a.hi -ℤ a.lo) *ℤ pos p ≡ a.hi *ℤ pos p -ℤ a.lo *ℤ pos p = identity (a.hi ∷ a.lo ∷ pos p ∷ []) (search quote depth 20) tt in
    let m : ((a.hi -ℤ a.lo) *ℤ pos p) ≤ℤ (pos v *ℤ pos p) = *ℤ_mono_left (a.hi -ℤ a.lo) (pos v) (pos p) (not_negative_natural p) n.width in
    record { width = rounded_width (a.lo *ℤ pos p) (a.hi *ℤ pos p) q w h (omega (arith, ints)) }

-- by a whole number
pub div_int_width : {a : Ends} (k v w : ℕ) → 0 < k → IsNarrow a v → v ≤ w * k → IsNarrow (div_int_of a k) (w + 1)
unfolding div_int_of
div_int_width {a} k v w h n m = record { width = rounded_width a.lo a.hi k w h (omega (arith, ints)) }

-- ---- products
-- two products of a number of at most A and one of at most B, where the numbers are at most v and w apart
pub products_apart : (A B v w x y z u : ℤ) → neg_ℤ A ≤ℤ x → x ≤ℤ A → neg_ℤ B ≤ℤ u → u ≤ℤ B → neg_ℤ v ≤ℤ (x -ℤ z) → (x -ℤ z) ≤ℤ v → neg_ℤ w ≤ℤ (y -ℤ u) → (y -ℤ u) ≤ℤ w → (x *ℤ y -ℤ z *ℤ u) ≤ℤ (A *ℤ w +ℤ B *ℤ v)
products_apart A B v w x y z u xl xh ul uh vl vh wl wh =
    at_most_scaled (A ∷ B ∷ v ∷ w ∷ x ∷ y ∷ z ∷ u ∷ []) 2 (lit≤ tt)
    ((A -ℤ x) *ℤ ((y -ℤ u) -ℤ neg_ℤ w) +ℤ (x -ℤ neg_ℤ A) *ℤ (w -ℤ (y -ℤ u)) +ℤ ((B -ℤ u) *ℤ ((x -ℤ z) -ℤ neg_ℤ v) +ℤ (u -ℤ neg_ℤ B) *ℤ (v -ℤ (x -ℤ z))))
    (search not_negative depth 10) (search quote depth 40 fits 30000) tt

-- a product that is as wide as its ends and their magnitudes say, before it is rounded
pub mul_wide_width : {a b : Ends} (A B v w : ℕ) → IsInside a (around A) → IsInside b (around B) → IsNarrow a v → IsNarrow b w → ((mul_wide_of a b).hi -ℤ (mul_wide_of a b).lo) ≤ℤ (pos A *ℤ pos w +ℤ pos B *ℤ pos v)
unfolding mul_wide_of
mul_wide_width {a} {b} A B v w i j p q =
    pick_max (λ g. (g -ℤ least) ≤ℤ most) (int_max (a.lo *ℤ b.lo) (a.lo *ℤ b.hi)) (int_max (a.hi *ℤ b.lo) (a.hi *ℤ b.hi))
    (pick_max (λ g. (g -ℤ least) ≤ℤ most) (a.lo *ℤ b.lo) (a.lo *ℤ b.hi) (from a.lo b.lo al ah bl bh) (from a.lo b.hi al ah bl' bh'))
    (pick_max (λ g. (g -ℤ least) ≤ℤ most) (a.hi *ℤ b.lo) (a.hi *ℤ b.hi) (from a.hi b.lo al' ah' bl bh) (from a.hi b.hi al' ah' bl' bh'))
  where
    least : ℤ
    least = int_min (int_min (a.lo *ℤ b.lo) (a.lo *ℤ b.hi)) (int_min (a.hi *ℤ b.lo) (a.hi *ℤ b.hi))

    most : ℤ
    most = pos A *ℤ pos w +ℤ pos B *ℤ pos v

    al : a.lo ≤ℤ a.lo
    al = ≤ℤ_refl a.lo

    ah : a.lo ≤ℤ a.hi
    ah = i.ordered

    al' : a.lo ≤ℤ a.hi
    al' = i.ordered

    ah' : a.hi ≤ℤ a.hi
    ah' = ≤ℤ_refl a.hi

    bl : b.lo ≤ℤ b.lo
    bl = ≤ℤ_refl b.lo

    bh : b.lo ≤ℤ b.hi
    bh = j.ordered

    bl' : b.lo ≤ℤ b.hi
    bl' = j.ordered

    bh' : b.hi ≤ℤ b.hi
    bh' = ≤ℤ_refl b.hi

    apart : (x y z u : ℤ) → a.lo ≤ℤ x → x ≤ℤ a.hi → b.lo ≤ℤ y → y ≤ℤ b.hi → a.lo ≤ℤ z → z ≤ℤ a.hi → b.lo ≤ℤ u → u ≤ℤ b.hi → (x *ℤ y -ℤ z *ℤ u) ≤ℤ (pos A *ℤ pos w +ℤ pos B *ℤ pos v)
    apart x y z u xl xh yl yh zl zh ul uh =
        let il = i.low in
        let ih = i.high in
        let jl = j.low in
        let jh = j.high in
        products_apart (pos A) (pos B) (pos v) (pos w) x y z u (omega (arith, ints)) (omega (arith, ints)) (omega (arith, ints)) (omega (arith, ints)) (omega (arith, ints)) (omega (arith, ints)) (omega (arith, ints)) (omega (arith, ints))

    from : (x y : ℤ) → a.lo ≤ℤ x → x ≤ℤ a.hi → b.lo ≤ℤ y → y ≤ℤ b.hi → (x *ℤ y -ℤ least) ≤ℤ most
    from x y xl xh yl yh =
        pick_min (λ l. (x *ℤ y -ℤ l) ≤ℤ most) (int_min (a.lo *ℤ b.lo) (a.lo *ℤ b.hi)) (int_min (a.hi *ℤ b.lo) (a.hi *ℤ b.hi))
        (pick_min (λ l. (x *ℤ y -ℤ l) ≤ℤ most) (a.lo *ℤ b.lo) (a.lo *ℤ b.hi) (apart x y a.lo b.lo xl xh yl yh al ah bl bh) (apart x y a.lo b.hi xl xh yl yh al ah bl' bh'))
        (pick_min (λ l. (x *ℤ y -ℤ l) ≤ℤ most) (a.hi *ℤ b.lo) (a.hi *ℤ b.hi) (apart x y a.hi b.lo xl xh yl yh al' ah' bl bh) (apart x y a.hi b.hi xl xh yl yh al' ah' bl' bh'))

-- rounded: mag(a) w(b) + mag(b) w(a) and two units
pub mul_width : {a b : Ends} (A B v w n : ℕ) → IsInside a (around A) → IsInside b (around B) → IsNarrow a v → IsNarrow b w → A * w + B * v ≤ n * 2 ^ 38 → IsNarrow (mul_of a b) (n + 2)
unfolding mul_of
mul_width {a} {b} A B v w n i j p q h =
    let wide = mul_wide_width A B v w i j p q in
    narrow76_width (A * w + B * v) n record { width = omega (arith, ints) } h

-- times one whole number
pub scale_int_width : {a : Ends} (A K v : ℕ) (k : ℤ) → IsInside a (around A) → IsInside record { lo = k; hi = k } (around K) → IsNarrow a v → IsNarrow (scale_int_of a k k) (K * v)
unfolding scale_int_of
scale_int_width {a} A K v k i j p =
    let wide = mul_wide_width {a = a} {b = record { lo = k; hi = k }} A K v 0 i j p record { width = omega (arith, ints) } in
    record { width = omega (arith, ints) }

-- ---- squares
-- a square is as wide as the product of an interval with itself
pub sqr_wide_width : {a : Ends} (A v w : ℕ) → IsInside a (around A) → IsNarrow a v → A * v + A * v ≤ w → IsNarrow (sqr_wide_of a) w
unfolding sqr_wide_of
sqr_wide_width {a} A v w i p h =
    record { width = pick_max (λ g. (g -ℤ cond (le_z a.lo (pos 0) && le_z (pos 0) a.hi) (pos 0) (int_min (a.lo *ℤ a.lo) (a.hi *ℤ a.hi))) ≤ℤ pos w) (a.lo *ℤ a.lo) (a.hi *ℤ a.hi) (from a.lo (≤ℤ_refl a.lo) i.ordered) (from a.hi i.ordered (≤ℤ_refl a.hi)) }
  where
    apart : (x z : ℤ) → a.lo ≤ℤ x → x ≤ℤ a.hi → a.lo ≤ℤ z → z ≤ℤ a.hi → (x *ℤ x -ℤ pos w) ≤ℤ (z *ℤ z)
    apart x z xl xh zl zh =
        let il = i.low in
        let ih = i.high in
        let pw = p.width in
        let d = products_apart (pos A) (pos A) (pos v) (pos v) x x z z (omega (arith, ints)) (omega (arith, ints)) (omega (arith, ints)) (omega (arith, ints)) (omega (arith, ints)) (omega (arith, ints)) (omega (arith, ints)) (omega (arith, ints)) in
        omega (arith, ints)

    zero_square : pos 0 *ℤ pos 0 ≡ pos 0
    zero_square = refl

    swap : (x m : ℤ) (n : ℕ) → (x -ℤ pos n) ≤ℤ m → (x -ℤ m) ≤ℤ pos n
    swap x m n h = omega (arith, ints)

    from : (x : ℤ) → a.lo ≤ℤ x → x ≤ℤ a.hi → (x *ℤ x -ℤ cond (le_z a.lo (pos 0) && le_z (pos 0) a.hi) (pos 0) (int_min (a.lo *ℤ a.lo) (a.hi *ℤ a.hi))) ≤ℤ pos w
    from x xl xh = swap (x *ℤ x) (cond (le_z a.lo (pos 0) && le_z (pos 0) a.hi) (pos 0) (int_min (a.lo *ℤ a.lo) (a.hi *ℤ a.hi))) w
        (below_least_square a (x *ℤ x -ℤ pos w) i.ordered (le_z a.lo (pos 0)) (le_z (pos 0) a.hi) refl refl (λ u l. subst (λ t. (x *ℤ x -ℤ pos w) ≤ℤ t) zero_square (apart x (pos 0) xl xh l u)) (apart x a.lo xl xh (≤ℤ_refl a.lo) i.ordered) (apart x a.hi xl xh i.ordered (≤ℤ_refl a.hi)))

-- ---- roots
-- the root of what is at most 2 r + 1 greater is at most one greater
pub root_next : (y z : ℤ) (m : ℕ) → pos (m * m) ≤ℤ y → y ≤ℤ z → z ≤ℤ (y +ℤ pos (2 * m)) → root_of z ≤ root_of y + 1
root_next y z m great h near =
    let r : ℕ = root_of y in
    let mr : m ≤ r = root_at_least y m great in
    let ny : pos 0 ≤ℤ y = ≤ℤ_trans (pos 0) (pos (m * m)) y (not_negative_natural (m * m)) great in
    let nz : pos 0 ≤ℤ z = ≤ℤ_trans (pos 0) y z ny h in
    let s : ℕ = (r + 1) * (r + 1) + (2 * r + 2) in
    let top : root_of (pos s) ≡ r + 1 = root_of-unique (pos s) (r + 1) (omega (arith, ints)) (omega (arith, ints)) in
    let zs : z ≤ℤ pos s = omega (arith, ints, root_of_high y) in
    subst (λ t. root_of z ≤ t) top (root_of_mono z (pos s) nz zs)
  where
    root_at_least : (y : ℤ) (m : ℕ) → pos (m * m) ≤ℤ y → m ≤ root_of y
    root_at_least y m h =
        let e : root_of (pos (m * m)) ≡ m = root_of-unique (pos (m * m)) m (omega (arith, ints)) (omega (arith, ints)) in
        subst (λ t. t ≤ root_of y) e (root_of_mono (pos (m * m)) y (not_negative_natural (m * m)) h)

-- the root of what is at most 2 m wide from m^2 on is at most four units wide
pub sqrt_width : {a : Ends} (m : ℕ) → pos (m * m) ≤ℤ a.lo → a.lo ≤ℤ a.hi → IsNarrow a (2 * m) → IsNarrow (sqrt_of a) 4
unfolding sqrt_of
sqrt_width {a} m great o n =
    let w = n.width in
    let near = root_next a.lo a.hi m great o (omega (arith, ints)) in
    record { width = omega (arith, ints) }
