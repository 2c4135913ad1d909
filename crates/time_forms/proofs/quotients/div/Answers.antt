use Rattle.std.proofs.Common.{ap₂, ◌∙◌, ◌^◌, pos, ◌≤ℤ◌, ◌≡◌, true, ◌&&◌}
use lib.Signed.{le_z}
use Rattle.fix_interval.specs.Quotients.{div_of}
use Rattle.time_forms.specs.Forms.{Form, Holds, least_of}
use Rattle.time_forms.specs.QuotientForms.{quotient_centre, quotient_turn, quotient_sway, has_quotient, div_form, checked_div_form}
use Rattle.time_forms.specs.Programs.{is_below, form}
use Rattle.time_forms.proofs.FormQuotients.{div_holds}
use Rattle.time_forms.proofs.Shorts.{both_hold, from_one, if_checked, if_checked_within}
use Rattle.time_forms.proofs.quotients.div.Goals as goal

above : (f g : Form) → true ≡ has_quotient f g → pos 1 ≤ℤ least_of g
above f g e = from_one (both_hold (le_z (pos 1) (least_of g)) (le_z (pos 1) g.centre)
    (both_hold (le_z (pos 1) (least_of g) && le_z (pos 1) g.centre) (is_below (quotient_centre f g) (2 ^ 58) && (is_below (quotient_turn f g) (2 ^ 58) && is_below (quotient_sway f g) (2 ^ 86))) e).0).0

pub returns-clause-exact : goal.returns-clause-exact
returns-clause-exact c = c.wide_quotient.ensures ∙ ap₂ checked_div_form c.widened.ensures c.widened-2.ensures

pub returns-clause-holds : goal.returns-clause-holds
unfolding checked_div_form
returns-clause-holds c h d x y t p q =
    let f = form c.args.a in
    let g = form c.args.b in
    if_checked _ (has_quotient f g) (div_form f g) (returns-clause-exact c) (λ k. Holds h d k (div_of x y)) (λ e. div_holds f g x y t (above f g e) p q)

pub returns-clause-small : goal.returns-clause-small
unfolding checked_div_form
returns-clause-small c = if_checked_within _ (has_quotient (form c.args.a) (form c.args.b)) (div_form (form c.args.a) (form c.args.b)) (returns-clause-exact c)
