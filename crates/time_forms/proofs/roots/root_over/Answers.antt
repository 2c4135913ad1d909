use Rattle.std.proofs.Common.{rules, ap, ap₂, ◌∙◌, ℤ, pos, ◌^◌, ◌+ℤ◌, unsigned_abs, ◌≡◌, None, to_z, of_z}
use mir.Syntax.{w128}
use mir.Val.{SFits}
use Rattle.whole_numbers.specs.Rounding.{floor_of}
use Rattle.whole_numbers.proofs.Casts.{plain}
use Rattle.time_forms.specs.Forms.{Form, size}
use Rattle.time_forms.specs.RootForms.{root_pair, root_reach, sqrt_form}
use Rattle.time_forms.specs.Programs.{is_below, short_of, wide}
use Rattle.time_forms.proofs.Shorts.{chosen, not_chosen, below_within}
use Rattle.time_forms.proofs.roots.root_over.Goals as goal

-- how far the roots are apart
apart_is : (f : Form) (r p s : ℤ) → SFits w128 r → SFits w128 p → r ≡ size f.turning +ℤ f.remainder → p ≡ pos (root_pair f)
    → s ≡ floor_of (to_z w128 (of_z w128 r)) (unsigned_abs (to_z w128 (of_z w128 p))) +ℤ pos 1 → s ≡ root_reach f
apart_is f r p s rf pf i j e = e ∙ ap₂ (λ x y. floor_of x (unsigned_abs y) +ℤ pos 1) (plain rf ∙ i) (plain pf ∙ j)

pub root_from-requires-clause-apart_small : goal.root_from-requires-clause-apart_small
root_from-requires-clause-apart_small c = below_within _ (2 ^ 62) (c.if-has_square.ensures)

pub returns-then-has_square : goal.returns-then-has_square
returns-then-has_square c =
    let rf : SFits w128 c.reach.result = search rules in
    let sf : SFits w128 c.share-apart.result = search rules in
    let s = apart_is (wide c.args.a) c.reach.result c.args.pair c.share-apart.result rf c.ranges.pair c.reach.ensures.value c.requires.pair c.share-apart.ensures.value in
    c.root_from.ensures ∙ chosen (is_below (root_reach (wide c.args.a)) (2 ^ 62)) (short_of (sqrt_form (wide c.args.a))) None (c.if-has_square.ensures ∙ ap (λ z. is_below z (2 ^ 62)) (plain sf ∙ s))

pub returns-else-has_square : goal.returns-else-has_square
returns-else-has_square c =
    let rf : SFits w128 c.reach.result = search rules in
    let sf : SFits w128 c.share-apart.result = search rules in
    let s = apart_is (wide c.args.a) c.reach.result c.args.pair c.share-apart.result rf c.ranges.pair c.reach.ensures.value c.requires.pair c.share-apart.ensures.value in
    not_chosen (is_below (root_reach (wide c.args.a)) (2 ^ 62)) (short_of (sqrt_form (wide c.args.a))) None (c.if-has_square.ensures ∙ ap (λ z. is_below z (2 ^ 62)) (plain sf ∙ s))
