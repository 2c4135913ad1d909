use Rattle.std.proofs.Common.{rules, ap, ◌∙◌, ◌^◌}
use mir.Syntax.{w128}
use mir.Val.{SFits}
use lib.Dec.{lit≤}
use Rattle.whole_numbers.specs.Rounding.{floor_of}
use Rattle.whole_numbers.proofs.Casts.{plain}
use Rattle.time_forms.proofs.Bits.{sum-plain, wider_bits, lower_within, upper_within, middle_within}
use Rattle.time_forms.proofs.quantities.middle_of.Goals as goal

pub returns-clause-value : goal.returns-clause-value
returns-clause-value c =
    let e = c.args.e in
    let r : SFits w128 c.floor_shift.result = search rules in
    let lo = lower_within e.lo e.hi (2 ^ 122) c.requires.small.low e.ordered c.requires.small.high in
    let hi = upper_within e.lo e.hi (2 ^ 122) c.requires.small.low e.ordered c.requires.small.high in
    plain r ∙ c.floor_shift.ensures ∙ ap (λ z. floor_of z 2) (sum-plain e.lo e.hi (wider_bits (2 ^ 122) (2 ^ 125) (lit≤ tt) lo) (wider_bits (2 ^ 122) (2 ^ 125) (lit≤ tt) hi))

pub returns-clause-small : goal.returns-clause-small
returns-clause-small c =
    let e = c.args.e in
    let lo = lower_within e.lo e.hi (2 ^ 122) c.requires.small.low e.ordered c.requires.small.high in
    let hi = upper_within e.lo e.hi (2 ^ 122) c.requires.small.low e.ordered c.requires.small.high in
    rw (returns-clause-value c) (middle_within e.lo e.hi (2 ^ 122) lo hi)
