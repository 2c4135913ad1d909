use Rattle.std.proofs.Common.{rules, ap, ◌∙◌, pos, ◌^◌, ◌≤ℤ◌, ◌≡◌, true, false, cond, ◌&&◌, None}
use mir.Syntax.{w128}
use mir.Val.{SFits}
use lib.Signed.{le_z}
use Rattle.fix_interval.specs.Roots.{sqrt_of}
use Rattle.time_forms.specs.Forms.{Form, Holds, least_of}
use Rattle.time_forms.specs.RootForms.{root_reach, sqrt_form, has_root, checked_sqrt_form}
use Rattle.time_forms.specs.Programs.{is_below, short_of, wide}
use Rattle.time_forms.proofs.FormRoots.{sqrt_holds}
use Rattle.time_forms.proofs.Shorts.{both_hold, from_one, tested, if_checked, if_checked_within}
use Rattle.time_forms.proofs.roots.sqrt.Goals as goal

above : (f : Form) → true ≡ has_root f → pos 1 ≤ℤ least_of f
above f e = from_one (both_hold (le_z (pos 1) (least_of f)) (le_z (pos 1) f.centre) (both_hold (le_z (pos 1) (least_of f) && le_z (pos 1) f.centre) (is_below (root_reach f) (2 ^ 62)) e).0).0

pub returns-then-are_positive-clause-exact : goal.returns-then-are_positive-clause-exact
unfolding checked_sqrt_form
returns-then-are_positive-clause-exact c =
    let lf : SFits w128 c.wide_least-least.result = search rules in
    let cf : SFits w128 c.args.a.centre = search rules in
    let e = tested (wide c.args.a) c.wide_least-least.result true lf cf c.wide_least-least.ensures.value (c.if-are_positive.ensures) in
    c.root_over.ensures ∙ ap (λ b. cond (b && is_below (root_reach (wide c.args.a)) (2 ^ 62)) (short_of (sqrt_form (wide c.args.a))) None) e

pub returns-then-are_positive-clause-holds : goal.returns-then-are_positive-clause-holds
unfolding checked_sqrt_form
returns-then-are_positive-clause-holds c h d x t p =
    if_checked _ (has_root (wide c.args.a)) (sqrt_form (wide c.args.a)) (returns-then-are_positive-clause-exact c) (λ f. Holds h d f (sqrt_of x)) (λ e. sqrt_holds (wide c.args.a) x t (above (wide c.args.a) e) p)

pub returns-then-are_positive-clause-small : goal.returns-then-are_positive-clause-small
unfolding checked_sqrt_form
returns-then-are_positive-clause-small c = if_checked_within _ (has_root (wide c.args.a)) (sqrt_form (wide c.args.a)) (returns-then-are_positive-clause-exact c)

pub returns-else-are_positive-clause-exact : goal.returns-else-are_positive-clause-exact
unfolding checked_sqrt_form
returns-else-are_positive-clause-exact c =
    let lf : SFits w128 c.wide_least-least.result = search rules in
    let cf : SFits w128 c.args.a.centre = search rules in
    let e = tested (wide c.args.a) c.wide_least-least.result false lf cf c.wide_least-least.ensures.value (c.if-are_positive.ensures) in
    ap (λ b. cond (b && is_below (root_reach (wide c.args.a)) (2 ^ 62)) (short_of (sqrt_form (wide c.args.a))) None) e
