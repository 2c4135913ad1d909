use Rattle.std.proofs.Common.{rules, refl, ap, sym, subst, ◌∙◌, ◌*◌, ◌^◌, ◌-ℤ◌}
use mir.Syntax.{w128}
use mir.Val.{SFits}
use lib.Dec.{lit≤}
use Rattle.whole_numbers.proofs.Casts.{plain}
use Rattle.fix_interval.specs.Intervals.{ends}
use Rattle.time_forms.specs.Forms.{Form, Holds}
use Rattle.time_forms.specs.Operations.{fixed_of}
use Rattle.time_forms.specs.Programs.{IsFormWithin}
use Rattle.time_forms.proofs.Bits.{difference-plain, upper_within, wider_bits}
use Rattle.time_forms.proofs.FormSums.{same_form}
use Rattle.time_forms.proofs.Known.{fixed_holds}
use Rattle.angle_forms.proofs.Fits.{fixed_within}
use Rattle.angle_forms.proofs.at_turns.steady_wide.Goals as goal

pub returns-clause-exact : goal.returns-clause-exact
unfolding fixed_of
returns-clause-exact c =
    let e = c.args.e in
    let r : SFits w128 c.middle_of-middle.result = search rules in
    let m = c.middle_of-middle.ensures.small (2 ^ 120) c.requires in
    let u = upper_within e.lo e.hi (2 ^ 120) c.requires.low e.ordered c.requires.high in
    same_form (plain r ∙ c.middle_of-middle.ensures.value) refl
    (difference-plain e.hi c.middle_of-middle.result (wider_bits (2 ^ 120) (2 ^ 124) (lit≤ tt) u) (wider_bits (2 ^ 120) (2 ^ 124) (lit≤ tt) m) ∙ ap (λ z. e.hi -ℤ z) c.middle_of-middle.ensures.value)

pub returns-clause-holds : goal.returns-clause-holds
returns-clause-holds c h d = subst (λ (f : Form). Holds h d f (ends c.args.e)) (sym (returns-clause-exact c)) (fixed_holds h d (ends c.args.e) c.args.e.ordered)

pub returns-clause-small : goal.returns-clause-small
returns-clause-small c m p = subst (λ (f : Form). IsFormWithin f (2 * m)) (sym (returns-clause-exact c)) (fixed_within (ends c.args.e) m p.low c.args.e.ordered p.high)
