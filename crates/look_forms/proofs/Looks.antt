-- What forms tell of a look is so of the written one at each time.
use Rattle.std.specs.Prelude.{◌≡◌, ℕ, ℤ, pos, ◌^◌, ◌-ℤ◌, ◌≤ℤ◌, ◌<ℤ◌, Bool, true, false, cond, ◌&&◌, ◌||◌, refl}
use Rattle.std.proofs.Common.{arith, ◌⊎◌, inl, inr}
use Rattle.std.proofs.lemmas.Int.{ints}
use lib.Signed.{le_z, lt_z}
use Rattle.whole_numbers.proofs.Integers.{≤ℤ_trans}
use Rattle.fix_interval.specs.Ends.{Ends}
use Rattle.fix_interval.specs.Sums.{sub_of}
use Rattle.fix_interval.specs.Products.{mul_of}
use Rattle.fix_interval.specs.Vectors.{VectorEnds}
use Rattle.site_laws.specs.Frames.{FrameEnds}
use Rattle.site_laws.specs.Sights.{DirectionEnds, SightEnds, visible, hidden, straddle, line_of, dot_of, range_of, is_hidden, is_seen, direction_of, sight_of, line_sight_of, look_of}
use Rattle.time_forms.specs.Forms.{Form, IsTime, Holds, least_of, greatest_of}
use Rattle.time_forms.specs.Operations.{sub_form, mul_form}
use Rattle.time_forms.proofs.FormSpans.{holds_lo, holds_hi, least_low, greatest_high}
use Rattle.time_forms.proofs.Coarser.{mul_holds}
use Rattle.geometry_forms.proofs.Parts.{difference_held}
use Rattle.slope_forms.proofs.Margins.{le_z_case, lt_z_case, le_z_is, le_z_not, lt_z_is, lt_z_not}
use Rattle.orbit_forms.specs.Positions.{VectorForm, VectorHolds}
use Rattle.look_forms.specs.Frames.{FrameForm, FrameHolds}
use Rattle.look_forms.specs.Looks.{line_form, dot_form, squares_form, range_form, LookTold, told_visible, told_hidden, not_told, TellsLook, sight_told, line_told, look_told, direction_to}
use Rattle.look_forms.proofs.Lines.{line_held, dot_held, range_held}

-- ---- what is told of the range and of what is beyond the least
-- the four tests of forms tell the four written ones
near_told : {h : ℕ} {d : ℤ} (f : Form) (range : Ends) → IsTime h d → Holds h d f range → lt_z (greatest_of f) (pos (2 ^ 38)) ≡ true → lt_z range.hi (pos (2 ^ 38)) ≡ true
near_told f range t p e = below range.hi (greatest_of f) (greatest_high f range.hi t (holds_hi p)) e
  where
    below : (y n : ℤ) → y ≤ℤ n → lt_z n (pos (2 ^ 38)) ≡ true → lt_z y (pos (2 ^ 38)) ≡ true
    below y n i e = grind (arith, ints)

masked_told : {h : ℕ} {d : ℤ} (f : Form) (up least : Ends) → IsTime h d → Holds h d f (sub_of up least) → lt_z (greatest_of f) (pos 0) ≡ true → lt_z up.hi least.lo ≡ true
unfolding sub_of
masked_told f up least t p e = below up.hi least.lo (greatest_of f) (greatest_high f (up.hi -ℤ least.lo) t (holds_hi p)) e
  where
    below : (y z n : ℤ) → (y -ℤ z) ≤ℤ n → lt_z n (pos 0) ≡ true → lt_z y z ≡ true
    below y z n i e = grind (arith, ints)

far_told : {h : ℕ} {d : ℤ} (f : Form) (range : Ends) → IsTime h d → Holds h d f range → le_z (pos (2 ^ 38)) (least_of f) ≡ true → le_z (pos (2 ^ 38)) range.lo ≡ true
far_told f range t p e = above (least_of f) range.lo (least_low f range.lo t (holds_lo p)) e
  where
    above : (n y : ℤ) → n ≤ℤ y → le_z (pos (2 ^ 38)) n ≡ true → le_z (pos (2 ^ 38)) y ≡ true
    above n y i e = grind (arith, ints)

over_told : {h : ℕ} {d : ℤ} (f : Form) (up least : Ends) → IsTime h d → Holds h d f (sub_of up least) → le_z (pos 0) (least_of f) ≡ true → le_z least.hi up.lo ≡ true
unfolding sub_of
over_told f up least t p e = above up.lo least.hi (least_of f) (least_low f (up.lo -ℤ least.hi) t (holds_lo p)) e
  where
    above : (y z n : ℤ) → n ≤ℤ (y -ℤ z) → le_z (pos 0) n ≡ true → le_z z y ≡ true
    above y z n i e = grind (arith, ints)

-- what is far is not near, and what is over the least is not below it
far_not_near : (range : Ends) → range.lo ≤ℤ range.hi → le_z (pos (2 ^ 38)) range.lo ≡ true → lt_z range.hi (pos (2 ^ 38)) ≡ false
far_not_near range o e = grind (arith, ints)

over_not_masked : (up least : Ends) → up.lo ≤ℤ up.hi → least.lo ≤ℤ least.hi → le_z least.hi up.lo ≡ true → lt_z up.hi least.lo ≡ false
over_not_masked up least o p e = grind (arith, ints)

-- ---- the decision
-- by the four tests of forms and the four written ones
decided : (a b c e : Bool) (near masked far over : Bool) (row : DirectionEnds) → (a ≡ true → near ≡ true) → (b ≡ true → masked ≡ true) → (c ≡ true → (far ≡ true) × (near ≡ false)) → (e ≡ true → (over ≡ true) × (masked ≡ false))
    → TellsLook (cond (a || b) told_hidden (cond (c && e) told_visible not_told)) row (cond (near || masked) hidden (cond (far && over) (visible row) straddle))
decided true b c e near masked far over row p q r s = rw (p refl) refl
decided false true c e near masked far over row p q r s = rw (q refl) (or_hidden near (cond (far && over) (visible row) straddle))
  where
    or_hidden : (near : Bool) (next : SightEnds) → cond (near || true) hidden next ≡ hidden
    or_hidden true next = refl
    or_hidden false next = refl
decided false false true true near masked far over row p q r s = let i = r refl in let j = s refl in rw (i.0, i.1, j.0, j.1) refl
decided false false true false near masked far over row p q r s = tt
decided false false false e near masked far over row p q r s = tt

sight_tells : {h : ℕ} {d : ℤ} (frame : FrameEnds) (line : VectorEnds) (fr fb : Form) (range up least : Ends) → IsTime h d → Holds h d fr range → up.lo ≤ℤ up.hi → least.lo ≤ℤ least.hi → Holds h d fb (sub_of up least)
    → TellsLook (sight_told fr fb) (direction_of frame line range up) (sight_of frame line range up least)
unfolding sight_of
sight_tells frame line fr fb range up least t p i j q =
    decided (lt_z (greatest_of fr) (pos (2 ^ 38))) (lt_z (greatest_of fb) (pos 0)) (le_z (pos (2 ^ 38)) (least_of fr)) (le_z (pos 0) (least_of fb))
    (lt_z range.hi (pos (2 ^ 38))) (lt_z up.hi least.lo) (le_z (pos (2 ^ 38)) range.lo) (le_z least.hi up.lo) (direction_of frame line range up)
    (near_told fr range t p) (masked_told fb up least t q)
    (λ e. let f = far_told fr range t p e in (f, far_not_near range p.ordered f))
    (λ e. let f = over_told fb up least t q e in (f, over_not_masked up least i j f))

-- a test of forms that leaves the rest untold
when_told : (b : Bool) (told : LookTold) (row : DirectionEnds) (sight : SightEnds) → (b ≡ true → TellsLook told row sight) → TellsLook (cond b told not_told) row sight
when_told true told row sight p = p refl
when_told false told row sight p = tt

pub le_z_so : (y z : ℤ) → le_z y z ≡ true → y ≤ℤ z
le_z_so y z e = elim (le_z_case y z) [
  | inl p ↦ p.1
  | inr p ↦ absurd (let q = p.0 in cc)
]

pub and_both : (a b : Bool) → a && b ≡ true → (a ≡ true) × (b ≡ true)
and_both true b e = (refl, e)
and_both false b e = absurd (cc)

pub line_tells : {h : ℕ} {d : ℤ} (f : FrameForm) (frame : FrameEnds) (fl : VectorForm) (line : VectorEnds) (fm : Form) (mask : Ends) → IsTime h d
    → VectorHolds h d f.up frame.up → VectorHolds h d fl line → Holds h d fm mask
    → TellsLook (line_told f fl fm) (direction_of frame line (range_of line) (dot_of frame.up line)) (line_sight_of frame line mask)
unfolding line_told line_sight_of
line_tells f frame fl line fm mask t u l m =
    when_told (le_z (pos 1) (least_of (squares_form fl))) _ _ _ (λ e.
    let range = range_held fl line t (le_z_so _ _ e) l in
    let up = dot_held t u l in
    let least = mul_holds fm (range_form fl) mask (range_of line) t m range in
    sight_tells frame line (range_form fl) (sub_form (dot_form f.up fl) (mul_form fm (range_form fl))) (range_of line) (dot_of frame.up line) (mul_of mask (range_of line)) t range up.ordered least.ordered (difference_held up least))

-- what is told of a look
pub look_tells : {h : ℕ} {d : ℤ} (f : FrameForm) (frame : FrameEnds) (fs : VectorForm) (sat : VectorEnds) (fm : Form) (mask : Ends) → IsTime h d
    → FrameHolds h d f frame → VectorHolds h d fs sat → Holds h d fm mask
    → TellsLook (look_told f fs fm) (direction_to frame sat) (look_of frame sat mask)
unfolding look_told look_of
look_tells f frame fs sat fm mask t v w m = line_tells f frame (line_form f.position fs) (line_of frame.position sat) fm mask t v.up (line_held v.position w) m
