use Rattle.std.proofs.Common.{rules, ap, ◌∙◌, ◌^◌, ℤ, ◌+ℤ◌, ◌≡◌, to_z, of_z}
use mir.Syntax.{w64, w128}
use mir.Val.{SFits}
use lib.Dec.{lit≤}
use Rattle.whole_numbers.specs.Rounding.{floor_of}
use Rattle.whole_numbers.proofs.Casts.{plain}
use Rattle.time_forms.specs.Programs.{IsNumberWithin}
use Rattle.time_forms.proofs.Bits.{read_64, wider_bits, lower_within, upper_within, middle_within}
use Rattle.time_forms.proofs.quantities.short_middle.Goals as goal

within : (lo hi : ℤ) (z : ℤ) → IsNumberWithin lo (2 ^ 58) → IsNumberWithin hi (2 ^ 58) → z ≡ floor_of (lo +ℤ hi) 2 → IsNumberWithin z (2 ^ 58)
within lo hi z p q e = rw e (middle_within lo hi (2 ^ 58) p q)

pub returns-clause-value : goal.returns-clause-value
returns-clause-value c =
    let e = c.args.e in
    let m : SFits w128 c.middle_of.result = search rules in
    let lo = lower_within e.lo e.hi (2 ^ 58) c.requires.small.low e.ordered c.requires.small.high in
    let hi = upper_within e.lo e.hi (2 ^ 58) c.requires.small.low e.ordered c.requires.small.high in
    ap (λ z. to_z w64 (of_z w64 z)) (plain m) ∙ read_64 c.middle_of.result (wider_bits (2 ^ 58) (2 ^ 62) (lit≤ tt) (within e.lo e.hi c.middle_of.result lo hi c.middle_of.ensures.value)) ∙ c.middle_of.ensures.value

pub returns-clause-small : goal.returns-clause-small
returns-clause-small c =
    let e = c.args.e in
    let lo = lower_within e.lo e.hi (2 ^ 58) c.requires.small.low e.ordered c.requires.small.high in
    let hi = upper_within e.lo e.hi (2 ^ 58) c.requires.small.low e.ordered c.requires.small.high in
    rw (returns-clause-value c) (middle_within e.lo e.hi (2 ^ 58) lo hi)
