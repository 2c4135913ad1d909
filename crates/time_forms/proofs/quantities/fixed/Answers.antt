use Rattle.std.proofs.Common.{rules, refl, ap, ◌∙◌, ◌^◌, ℤ, pos, ◌+ℤ◌, ◌-ℤ◌, ◌≡◌}
use mir.Syntax.{w128}
use mir.Val.{SFits}
use lib.Dec.{lit≤}
use Rattle.whole_numbers.specs.Rounding.{floor_of}
use Rattle.whole_numbers.proofs.Casts.{plain}
use Rattle.fix_interval.specs.Ends.{Ends}
use Rattle.fix_interval.specs.Intervals.{ends}
use Rattle.time_forms.specs.Forms.{Holds}
use Rattle.time_forms.specs.Operations.{fixed_of}
use Rattle.time_forms.specs.Programs.{form_from, short_of}
use Rattle.time_forms.proofs.Bits.{difference-plain, wider_bits, upper_within}
use Rattle.time_forms.proofs.FormSums.{same_form}
use Rattle.time_forms.proofs.Known.{fixed_holds}
use Rattle.time_forms.proofs.Shorts.{if_short, if_short_within}
use Rattle.time_forms.proofs.quantities.fixed.Goals as goal

-- the numbers of the form
parts : (e : Ends) (m r : ℤ) → m ≡ floor_of (e.lo +ℤ e.hi) 2 → r ≡ e.hi -ℤ floor_of (e.lo +ℤ e.hi) 2 → form_from m (pos 0) r ≡ fixed_of e
unfolding fixed_of
parts e m r p q = same_form p refl q

pub returns-clause-exact : goal.returns-clause-exact
returns-clause-exact c =
    let m : SFits w128 c.middle_of-middle.result = search rules in
    let e = c.args.e in
    let u = upper_within e.lo e.hi (2 ^ 122) c.requires.small.low e.ordered c.requires.small.high in
    c.short_form.ensures ∙ ap short_of (parts (ends e) _ _ (plain m ∙ c.middle_of-middle.ensures.value)
    (difference-plain e.hi c.middle_of-middle.result (wider_bits (2 ^ 122) (2 ^ 124) (lit≤ tt) u) (wider_bits (2 ^ 122) (2 ^ 124) (lit≤ tt) c.middle_of-middle.ensures.small) ∙ ap (λ z. e.hi -ℤ z) c.middle_of-middle.ensures.value))

pub returns-clause-holds : goal.returns-clause-holds
returns-clause-holds c h d = if_short _ (fixed_of (ends c.args.e)) (returns-clause-exact c) (λ f. Holds h d f (ends c.args.e)) (fixed_holds h d (ends c.args.e) c.args.e.ordered)

pub returns-clause-small : goal.returns-clause-small
returns-clause-small c = if_short_within _ (fixed_of (ends c.args.e)) (returns-clause-exact c)
