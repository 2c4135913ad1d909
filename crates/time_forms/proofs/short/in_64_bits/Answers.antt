use Rattle.std.proofs.Common.{◌∙◌, ap, rules}
use mir.Syntax.{w128}
use mir.Val.{SFits}
use Rattle.whole_numbers.proofs.Casts.{plain}
use Rattle.time_forms.specs.Forms.{Holds}
use Rattle.time_forms.specs.Programs.{wide, short_of}
use Rattle.time_forms.proofs.FormSums.{same_form}
use Rattle.time_forms.proofs.Shorts.{if_short, if_short_within}
use Rattle.time_forms.proofs.short.in_64_bits.Goals as goal

pub returns-clause-exact : goal.returns-clause-exact
returns-clause-exact c =
    let ac : SFits w128 c.args.a.centre = search rules in
    let av : SFits w128 c.args.a.turning = search rules in
    let ar : SFits w128 c.args.a.remainder = search rules in
    c.short_form.ensures ∙ ap short_of (same_form (plain ac) (plain av) (plain ar))

pub returns-clause-holds : goal.returns-clause-holds
returns-clause-holds c h d x p = if_short _ (wide c.args.a) (returns-clause-exact c) (λ f. Holds h d f x) p

pub returns-clause-small : goal.returns-clause-small
returns-clause-small c = if_short_within _ (wide c.args.a) (returns-clause-exact c)
