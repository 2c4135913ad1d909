use Rattle.std.proofs.Common.{rules, ap, ap₂, ◌∙◌, ◌^◌, ℤ, pos, ◌*ℤ◌, ◌≡◌, cond, ◌&&◌, None, to_z, of_z, unsigned_abs}
use mir.Syntax.{w128}
use mir.Val.{SFits}
use Rattle.whole_numbers.specs.Rounding.{floor_of}
use Rattle.whole_numbers.proofs.Casts.{plain}
use Rattle.time_forms.specs.Forms.{Form}
use Rattle.time_forms.specs.QuotientForms.{quotient_centre, quotient_turn, quotient_sway, div_form}
use Rattle.time_forms.specs.Programs.{is_below, short_of, wide}
use Rattle.time_forms.proofs.Shorts.{below_within}
use Rattle.time_forms.proofs.quotients.quotient_by_least.Goals as goal

-- the quotient of the centres, read again
centre_is : (f g : Form) (q u : ℤ) → SFits w128 q → SFits w128 u → SFits w128 f.centre → SFits w128 g.centre → u ≡ to_z w128 (of_z w128 f.centre) *ℤ pos (2 ^ 38)
    → q ≡ floor_of (to_z w128 (of_z w128 u)) (unsigned_abs (to_z w128 (of_z w128 g.centre))) → to_z w128 (of_z w128 q) ≡ quotient_centre f g
centre_is f g q u qf uf ff gf i e = plain qf ∙ e ∙ ap₂ (λ x y. floor_of x (unsigned_abs y)) (plain uf ∙ i ∙ ap (λ z. z *ℤ pos (2 ^ 38)) (plain ff)) (plain gf)

pub quotient_by_centre-requires-clause-centre_small : goal.quotient_by_centre-requires-clause-centre_small
quotient_by_centre-requires-clause-centre_small c = below_within _ (2 ^ 58) c.if-is_short_number.ensures

pub returns-then-is_short_number : goal.returns-then-is_short_number
returns-then-is_short_number c =
    let q = centre_is (wide c.args.a) (wide c.args.b) c.part-centre.result c.in_units.result (search rules) (search rules) (search rules) (search rules) c.in_units.ensures.value c.part-centre.ensures.value in
    c.quotient_by_centre.ensures ∙ ap (λ t. cond (t && (is_below (quotient_turn (wide c.args.a) (wide c.args.b)) (2 ^ 58) && is_below (quotient_sway (wide c.args.a) (wide c.args.b)) (2 ^ 86))) (short_of (div_form (wide c.args.a) (wide c.args.b))) None)
    (c.if-is_short_number.ensures ∙ ap (λ z. is_below z (2 ^ 58)) q)

pub returns-else-is_short_number : goal.returns-else-is_short_number
returns-else-is_short_number c =
    let q = centre_is (wide c.args.a) (wide c.args.b) c.part-centre.result c.in_units.result (search rules) (search rules) (search rules) (search rules) c.in_units.ensures.value c.part-centre.ensures.value in
    ap (λ t. cond (t && (is_below (quotient_turn (wide c.args.a) (wide c.args.b)) (2 ^ 58) && is_below (quotient_sway (wide c.args.a) (wide c.args.b)) (2 ^ 86))) (short_of (div_form (wide c.args.a) (wide c.args.b))) None)
    (c.if-is_short_number.ensures ∙ ap (λ z. is_below z (2 ^ 58)) q)
