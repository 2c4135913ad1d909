use Rattle.std.proofs.Common.{rules, ap, ◌∙◌, ◌≡◌, true, false, None}
use mir.Syntax.{w128}
use mir.Val.{SFits}
use Rattle.whole_numbers.proofs.Casts.{plain}
use Rattle.time_forms.specs.Forms.{Form}
use Rattle.time_forms.specs.Programs.{form}
use Rattle.time_forms.proofs.Shorts.{chosen, not_chosen}
use Rattle.orbit_forms.specs.Positions.{PairForm}
use Rattle.angle_forms.specs.Pairs.{pair_form}
use Rattle.angle_forms.specs.Checked.{is_little, short_lines, checked_lines}
use Rattle.angle_forms.proofs.lines.lines.Goals as goal

pub returns-then-are_little : goal.returns-then-are_little
unfolding checked_lines
returns-then-are_little c =
    let p : PairForm = pair_form c.args.at in
    let u : Form = form c.args.u in
    let t : SFits w128 c.widened-turns.result.turning = search rules in
    let b : true ≡ is_little u.turning = c.if-are_little.ensures ∙ ap is_little (plain t ∙ ap (λ (f : Form). f.turning) c.widened-turns.ensures) in
    (rw (plain c.ranges.slack) at c.both_lines.ensures) ∙ ap (λ (f : Form). short_lines p f c.args.slack) c.widened-turns.ensures ∙ chosen (is_little u.turning) (short_lines p u c.args.slack) None b

pub returns-else-are_little : goal.returns-else-are_little
unfolding checked_lines
returns-else-are_little c =
    let p : PairForm = pair_form c.args.at in
    let u : Form = form c.args.u in
    let t : SFits w128 c.widened-turns.result.turning = search rules in
    let b : false ≡ is_little u.turning = c.if-are_little.ensures ∙ ap is_little (plain t ∙ ap (λ (f : Form). f.turning) c.widened-turns.ensures) in
    not_chosen (is_little u.turning) (short_lines p u c.args.slack) None b
