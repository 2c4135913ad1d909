use Rattle.std.proofs.Common.{rules, refl, ap, ap₂, ◌∙◌, ℤ, pos, ◌+ℤ◌, ◌*ℤ◌, unsigned_abs, ◌≡◌}
use mir.Syntax.{w128}
use mir.Val.{SFits}
use Rattle.whole_numbers.specs.Rounding.{floor_of}
use Rattle.whole_numbers.specs.Root.{root_of}
use Rattle.whole_numbers.proofs.Casts.{plain}
use Rattle.time_forms.specs.Forms.{Form}
use Rattle.time_forms.specs.RootForms.{root_pair, root_reach, sqrt_form}
use Rattle.time_forms.specs.Programs.{form_from, short_of, wide}
use Rattle.time_forms.proofs.FormSums.{same_form}
use Rattle.time_forms.proofs.roots.root_from.Goals as goal

-- the root of the numbers that the program has
parts : (f : Form) (w p e : ℤ) → w ≡ pos (root_of f.centre) → p ≡ pos (root_pair f) → e ≡ root_reach f
    → form_from w (floor_of f.turning (unsigned_abs (pos 2 *ℤ w))) (((floor_of f.remainder (unsigned_abs p) +ℤ pos 1) +ℤ (floor_of (e *ℤ e) (unsigned_abs (pos 2 *ℤ w)) +ℤ pos 1)) +ℤ pos 6) ≡ sqrt_form f
unfolding sqrt_form
parts f w p e i j k = rw (i, j, k) refl

pub returns : goal.returns
returns c =
    let av : SFits w128 c.args.a.turning = search rules in
    let ar : SFits w128 c.args.a.remainder = search rules in
    let pt : SFits w128 c.part.result = search rules in
    let db : SFits w128 c.double.result = search rules in
    let rr : SFits w128 c.root_remainder.result = search rules in
    c.short_form.ensures ∙ ap short_of (same_form (plain c.ranges.centre)
    (plain pt ∙ c.part.ensures.value ∙ ap₂ (λ x y. floor_of x (unsigned_abs y)) (plain av) (plain db ∙ c.double.ensures.value ∙ ap (λ x. pos 2 *ℤ x) (plain c.ranges.centre)))
    (plain rr ∙ (rw (plain ar, plain c.ranges.apart, plain c.ranges.centre, plain c.ranges.pair) at c.root_remainder.ensures))
    ∙ parts (wide c.args.a) c.args.centre c.args.pair c.args.apart c.requires.centre c.requires.pair c.requires.apart)
