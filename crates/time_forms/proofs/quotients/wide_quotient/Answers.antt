use Rattle.std.proofs.Common.{rules, ap, ◌∙◌, ◌^◌, true, false, cond, ◌&&◌, None}
use Rattle.time_forms.specs.QuotientForms.{quotient_centre, quotient_turn, quotient_sway, div_form, checked_div_form}
use Rattle.time_forms.specs.Programs.{is_below, short_of, wide}
use Rattle.time_forms.proofs.Shorts.{tested}
use Rattle.time_forms.proofs.quotients.wide_quotient.Goals as goal

pub returns-then-are_positive : goal.returns-then-are_positive
unfolding checked_div_form
returns-then-are_positive c =
    let f = wide c.args.a in
    let g = wide c.args.b in
    c.quotient_by_least.ensures ∙ ap (λ t. cond (t && (is_below (quotient_centre f g) (2 ^ 58) && (is_below (quotient_turn f g) (2 ^ 58) && is_below (quotient_sway f g) (2 ^ 86)))) (short_of (div_form f g)) None)
    (tested g c.short_least-least.result true (search rules) (search rules) c.short_least-least.ensures.value c.if-are_positive.ensures)

pub returns-else-are_positive : goal.returns-else-are_positive
unfolding checked_div_form
returns-else-are_positive c =
    let f = wide c.args.a in
    let g = wide c.args.b in
    ap (λ t. cond (t && (is_below (quotient_centre f g) (2 ^ 58) && (is_below (quotient_turn f g) (2 ^ 58) && is_below (quotient_sway f g) (2 ^ 86)))) (short_of (div_form f g)) None)
    (tested g c.short_least-least.result false (search rules) (search rules) c.short_least-least.ensures.value c.if-are_positive.ensures)
