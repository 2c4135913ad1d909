use Rattle.std.proofs.Common.{arith, rules, ap, ap₂, ◌∙◌, ◌*◌, ◌^◌, ◌+ℤ◌, ◌*ℤ◌, ◌≡◌, ℤ, pos}
use Rattle.std.proofs.lemmas.Int.{ints}
use mir.Syntax.{w128}
use mir.Val.{SFits}
use lib.Dec.{lit≤}
use Rattle.whole_numbers.proofs.Casts.{plain}
use Rattle.time_forms.specs.declared.wide_form.WideForm.{WideForm}
use Rattle.whole_numbers.specs.Rounding.{floor_of}
use Rattle.time_forms.specs.Forms.{Form, size}
use Rattle.time_forms.specs.Programs.{short_of, form, wide, form_from}
use Rattle.time_forms.proofs.Bits.{turning_within, wider_bits}
use Rattle.time_forms.proofs.FormSums.{same_form}
use Rattle.orbit_forms.specs.Lines.{radians_of, bend_of, line_form}
use Rattle.angle_forms.proofs.lines.line_about.Goals as goal

pub line-requires-clause-radians_small : goal.line-requires-clause-radians_small
line-requires-clause-radians_small c =
    let t : SFits w128 c.args.u.turning = search rules in
    let r : SFits w128 c.radians.result = search rules in
    rw (plain r) (wider_bits (8 * 2 ^ 59) (2 ^ 63) (lit≤ tt) (c.radians.ensures.small (2 ^ 59) (rw (plain t) (turning_within c.requires.u_small))))

regroup : (a b p q k : ℤ) → (a +ℤ b) +ℤ (((p +ℤ q) +ℤ k) +ℤ pos 3) ≡ ((((a +ℤ b) +ℤ p) +ℤ q) +ℤ k) +ℤ pos 3
regroup a b p q k = omega (arith, ints)

-- the line of the numbers that the program has
parts : (x y u : Form) (k r m : ℤ) (X Y : WideForm) → wide X ≡ x → wide Y ≡ y → r ≡ radians_of u.turning → m ≡ ((pos 7 *ℤ u.remainder +ℤ bend_of (size u.turning +ℤ u.remainder)) +ℤ k) +ℤ pos 3
    → form_from X.centre (floor_of (Y.centre *ℤ r) (2 ^ 38)) ((X.remainder +ℤ floor_of (Y.remainder *ℤ size r) (2 ^ 38)) +ℤ m) ≡ line_form x y u k
unfolding line_form
parts x y u k r m X Y ex ey er em =
    same_form (ap (λ (f : Form). f.centre) ex) (ap₂ (λ (f : Form) t. floor_of (f.centre *ℤ t) (2 ^ 38)) ey er)
    (ap₂ ◌+ℤ◌ (ap₂ ◌+ℤ◌ (ap (λ (f : Form). f.remainder) ex) (ap₂ (λ (f : Form) t. floor_of (f.remainder *ℤ size t) (2 ^ 38)) ey er)) em
    ∙ regroup x.remainder (floor_of (y.remainder *ℤ size (radians_of u.turning)) (2 ^ 38)) (pos 7 *ℤ u.remainder) (bend_of (size u.turning +ℤ u.remainder)) k)

pub returns : goal.returns
returns c =
    let t : SFits w128 c.args.u.turning = search rules in
    let r : SFits w128 c.radians.result = search rules in
    let m : SFits w128 c.missed_of.result = search rules in
    c.line.ensures ∙ ap short_of (parts (form c.args.x) (form c.args.y) (wide c.args.u) c.args.slack _ _ c.widened.result c.widened-2.result c.widened.ensures c.widened-2.ensures
    (plain r ∙ c.radians.ensures.value ∙ ap radians_of (plain t)) (plain m ∙ (rw (plain c.ranges.slack) at c.missed_of.ensures.value)))
