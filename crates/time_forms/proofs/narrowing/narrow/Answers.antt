use Rattle.std.proofs.Common.{◌∙◌, ap, arith, rules, ℤ, pos, ◌^◌, ◌+ℤ◌, ◌≡◌, to_z, of_z}
use Rattle.std.proofs.lemmas.Int.{ints}
use Rattle.std.proofs.lemmas.Nat.{pow_pos}
use mir.Syntax.{w128}
use mir.Val.{SFits}
use Rattle.whole_numbers.specs.Rounding.{floor_of}
use Rattle.whole_numbers.proofs.Casts.{plain}
use Rattle.whole_numbers.proofs.Divisions.{floor_of_low, floor_of_high}
use Rattle.fix_interval.specs.Products.{narrow76_of}
use Rattle.time_forms.specs.Forms.{Form, Holds}
use Rattle.time_forms.specs.Operations.{narrow_form, coarser_form}
use Rattle.time_forms.specs.Programs.{wide, form_from, short_of}
use Rattle.time_forms.proofs.Coarser.{narrow_holds}
use Rattle.time_forms.proofs.FormSums.{same_form}
use Rattle.time_forms.proofs.Shorts.{if_short, if_short_within}
use Rattle.time_forms.proofs.narrowing.narrow.Goals as goal

-- four more than a quotient by 2^38 fits
four_more : (y : ℤ) → SFits w128 y → to_z w128 (of_z w128 (floor_of y (2 ^ 38) +ℤ pos 4)) ≡ floor_of y (2 ^ 38) +ℤ pos 4
four_more y f =
    let g = f in
    let a = floor_of_low y (2 ^ 38) (pow_pos 38) in
    let b = floor_of_high y (2 ^ 38) (pow_pos 38) in
    omega (arith, ints)

-- the three numbers of the narrower form
narrower : (f : Form) (c v r : ℤ) → c ≡ floor_of f.centre (2 ^ 38) → v ≡ floor_of f.turning (2 ^ 38) → r ≡ floor_of f.remainder (2 ^ 38) +ℤ pos 4 → form_from c v r ≡ narrow_form f
unfolding narrow_form coarser_form
narrower f c v r p q s = same_form p q s

pub returns-clause-exact : goal.returns-clause-exact
returns-clause-exact c =
    let ac : SFits w128 c.args.a.centre = search rules in
    let av : SFits w128 c.args.a.turning = search rules in
    let ar : SFits w128 c.args.a.remainder = search rules in
    let rc : SFits w128 c.floor_shift.result = search rules in
    let rv : SFits w128 c.floor_shift-2.result = search rules in
    let rr : SFits w128 c.floor_shift-3.result = search rules in
    c.short_form.ensures ∙ ap short_of (narrower (wide c.args.a) _ _ _
    (plain rc ∙ c.floor_shift.ensures ∙ ap (λ z. floor_of z (2 ^ 38)) (plain ac))
    (plain rv ∙ c.floor_shift-2.ensures ∙ ap (λ z. floor_of z (2 ^ 38)) (plain av))
    (ap (λ t. to_z w128 (of_z w128 (t +ℤ pos 4))) (plain rr ∙ c.floor_shift-3.ensures ∙ ap (λ z. floor_of z (2 ^ 38)) (plain ar)) ∙ four_more c.args.a.remainder ar))

pub returns-clause-holds : goal.returns-clause-holds
returns-clause-holds c h d x t p = if_short _ (narrow_form (wide c.args.a)) (returns-clause-exact c) (λ f. Holds h d f (narrow76_of x)) (narrow_holds (wide c.args.a) x t p)

pub returns-clause-small : goal.returns-clause-small
returns-clause-small c = if_short_within _ (narrow_form (wide c.args.a)) (returns-clause-exact c)
