use Rattle.std.proofs.Common.{arith, rules, ap, ◌∙◌, ◌≡◌, ℕ, ℤ, pos, ◌<◌, ◌^◌, ◌+ℤ◌, ◌≤ℤ◌, unsigned_abs, to_z, of_z}
use Rattle.std.proofs.lemmas.Int.{ints}
use mir.Val.{SFits}
use mir.Syntax.{w128}
use lib.Dec.{lit≤}
use Rattle.whole_numbers.specs.Rounding.{floor_of}
use Rattle.whole_numbers.proofs.Casts.{plain}
use Rattle.time_forms.specs.Forms.{Form}
use Rattle.time_forms.specs.Operations.{coarser_form}
use Rattle.time_forms.specs.Programs.{wide, short_of, form_from, IsNumberWithin}
use Rattle.time_forms.proofs.Bits.{remainder_within, wider_bits}
use Rattle.time_forms.proofs.FormSums.{same_form}
use Rattle.angle_forms.proofs.Fits.{plus-plain}
use Rattle.site_forms.proofs.Bounds.{floor_within}
use Rattle.site_forms.proofs.leg.over.Goals as goal

-- the three numbers of the form
coarser : (f : Form) (k : ℕ) (c v r : ℤ) → c ≡ floor_of f.centre k → v ≡ floor_of f.turning k → r ≡ floor_of f.remainder k +ℤ pos 4 → form_from c v r ≡ coarser_form f k
unfolding coarser_form
coarser f k c v r p q s = same_form p q s

some : (z : ℤ) → pos 1 ≤ℤ z → 0 < unsigned_abs z
some z p = omega (arith, ints)

-- four more, as the program adds them
four_more : (z q : ℤ) (k : ℕ) → 0 < k → IsNumberWithin z (2 ^ 83) → q ≡ floor_of z k → to_z w128 (of_z w128 (to_z w128 (of_z w128 q) +ℤ pos 4)) ≡ floor_of z k +ℤ pos 4
four_more z q k p b e = plus-plain q 4 (lit≤ tt) (rw e (wider_bits (2 ^ 83) (2 ^ 120) (lit≤ tt) (floor_within z k (2 ^ 83) p b))) ∙ ap (λ t. t +ℤ pos 4) e

pub returns : goal.returns
returns c =
    let f = c.args.f in
    let k = unsigned_abs c.args.length in
    let fc : SFits w128 f.centre = search rules in
    let fv : SFits w128 f.turning = search rules in
    let fr : SFits w128 f.remainder = search rules in
    let qc : SFits w128 c.floor_by.result = search rules in
    let qv : SFits w128 c.floor_by-2.result = search rules in
    c.in_64_bits.ensures.exact ∙ ap short_of (coarser (wide f) k _ _ _
    (plain qc ∙ rw (plain fc, plain c.ranges.length) at c.floor_by.ensures)
    (plain qv ∙ rw (plain fv, plain c.ranges.length) at c.floor_by-2.ensures)
    (four_more f.remainder c.floor_by-3.result k (some c.args.length c.requires.positive) (remainder_within c.requires.small) (rw (plain fr, plain c.ranges.length) at c.floor_by-3.ensures)))
