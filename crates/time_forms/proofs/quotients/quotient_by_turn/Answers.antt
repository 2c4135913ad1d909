use Rattle.std.proofs.Common.{rules, ap, ◌∙◌, ◌^◌, ℤ, ◌+ℤ◌, ◌*ℤ◌, ◌≡◌, None, to_z, of_z}
use mir.Syntax.{w128}
use mir.Val.{SFits}
use Rattle.whole_numbers.proofs.Casts.{plain}
use Rattle.time_forms.specs.Forms.{Form, size}
use Rattle.time_forms.specs.QuotientForms.{quotient_turn, quotient_sway, div_form}
use Rattle.time_forms.specs.Programs.{is_below, short_of, wide}
use Rattle.time_forms.proofs.Shorts.{chosen, not_chosen, below_within}
use Rattle.time_forms.proofs.quotients.quotient_by_turn.Goals as goal

-- the sway of the numbers that the program has, read again
sway_is : (f g : Form) (s t : ℤ) → SFits w128 s → SFits w128 t → SFits w128 g.turning → SFits w128 g.remainder → t ≡ quotient_turn f g
    → s ≡ size (to_z w128 (of_z w128 t)) *ℤ (size (to_z w128 (of_z w128 g.turning)) +ℤ to_z w128 (of_z w128 g.remainder)) → to_z w128 (of_z w128 s) ≡ quotient_sway f g
sway_is f g s t sf tf vf rf i e = plain sf ∙ (rw (plain tf, plain vf, plain rf) at e) ∙ ap (λ z. size z *ℤ (size g.turning +ℤ g.remainder)) i

pub quotient_of_parts-requires-clause-sway : goal.quotient_of_parts-requires-clause-sway
quotient_of_parts-requires-clause-sway c = sway_is (wide c.args.a) (wide c.args.b) c.sway_of-sway.result c.args.turn (search rules) c.ranges.turn (search rules) (search rules) c.requires.turn c.sway_of-sway.ensures

pub quotient_of_parts-requires-clause-sway_small : goal.quotient_of_parts-requires-clause-sway_small
quotient_of_parts-requires-clause-sway_small c = below_within _ (2 ^ 86) c.if-fits_in_units.ensures

pub returns-then-fits_in_units : goal.returns-then-fits_in_units
returns-then-fits_in_units c =
    let s = sway_is (wide c.args.a) (wide c.args.b) c.sway_of-sway.result c.args.turn (search rules) c.ranges.turn (search rules) (search rules) c.requires.turn c.sway_of-sway.ensures in
    c.quotient_of_parts.ensures ∙ chosen (is_below (quotient_sway (wide c.args.a) (wide c.args.b)) (2 ^ 86)) (short_of (div_form (wide c.args.a) (wide c.args.b))) None (c.if-fits_in_units.ensures ∙ ap (λ z. is_below z (2 ^ 86)) s)

pub returns-else-fits_in_units : goal.returns-else-fits_in_units
returns-else-fits_in_units c =
    let s = sway_is (wide c.args.a) (wide c.args.b) c.sway_of-sway.result c.args.turn (search rules) c.ranges.turn (search rules) (search rules) c.requires.turn c.sway_of-sway.ensures in
    not_chosen (is_below (quotient_sway (wide c.args.a) (wide c.args.b)) (2 ^ 86)) (short_of (div_form (wide c.args.a) (wide c.args.b))) None (c.if-fits_in_units.ensures ∙ ap (λ z. is_below z (2 ^ 86)) s)
