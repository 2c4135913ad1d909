use Rattle.std.proofs.Common.{rules, refl, ap, sym, subst, ◌∙◌, ◌+◌, ◌*◌, ◌^◌, ◌-ℤ◌, to_z, of_z}
use mir.Syntax.{w64, w128}
use mir.Val.{SFits}
use lib.Dec.{lit≤}
use Rattle.whole_numbers.proofs.Casts.{plain}
use Rattle.fix_interval.specs.Intervals.{ends}
use Rattle.time_forms.specs.Forms.{Form, Holds}
use Rattle.time_forms.specs.Operations.{fixed_of}
use Rattle.time_forms.specs.Programs.{IsFormWithin}
use Rattle.time_forms.proofs.Bits.{difference-plain, read_64, upper_within, wider_bits}
use Rattle.time_forms.proofs.FormSums.{same_form}
use Rattle.time_forms.proofs.Known.{fixed_holds}
use Rattle.angle_forms.proofs.Fits.{difference_within, fixed_within}
use Rattle.angle_forms.proofs.at_turns.steady.Goals as goal

pub returns-clause-exact : goal.returns-clause-exact
unfolding fixed_of
returns-clause-exact c =
    let e = c.args.e in
    let r : SFits w128 c.middle_of-middle.result = search rules in
    let m = c.middle_of-middle.ensures.small (2 ^ 60) c.requires in
    let u = upper_within e.lo e.hi (2 ^ 60) c.requires.low e.ordered c.requires.high in
    same_form (ap (λ z. to_z w64 (of_z w64 z)) (plain r) ∙ read_64 c.middle_of-middle.result (wider_bits (2 ^ 60) (2 ^ 62) (lit≤ tt) m) ∙ c.middle_of-middle.ensures.value)
    refl
    (ap (λ z. to_z w64 (of_z w64 z)) (difference-plain e.hi c.middle_of-middle.result (wider_bits (2 ^ 60) (2 ^ 124) (lit≤ tt) u) (wider_bits (2 ^ 60) (2 ^ 124) (lit≤ tt) m))
    ∙ read_64 (e.hi -ℤ c.middle_of-middle.result) (wider_bits (2 ^ 60 + 2 ^ 60) (2 ^ 62) (lit≤ tt) (difference_within e.hi c.middle_of-middle.result (2 ^ 60) (2 ^ 60) u m))
    ∙ ap (λ z. e.hi -ℤ z) c.middle_of-middle.ensures.value)

pub returns-clause-holds : goal.returns-clause-holds
returns-clause-holds c h d = subst (λ (f : Form). Holds h d f (ends c.args.e)) (sym (returns-clause-exact c)) (fixed_holds h d (ends c.args.e) c.args.e.ordered)

pub returns-clause-small : goal.returns-clause-small
returns-clause-small c m p = subst (λ (f : Form). IsFormWithin f (2 * m)) (sym (returns-clause-exact c)) (fixed_within (ends c.args.e) m p.low c.args.e.ordered p.high)
