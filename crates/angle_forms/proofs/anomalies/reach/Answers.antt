use Rattle.std.proofs.Common.{arith, ap, ◌∙◌, ◌+◌, ◌^◌, ℤ, pos, ◌+ℤ◌, ◌*ℤ◌, ◌≡◌, to_z, of_z}
use Rattle.std.proofs.lemmas.Int.{ints}
use mir.Syntax.{w128}
use Rattle.whole_numbers.proofs.Casts.{plain}
use Rattle.time_forms.specs.Forms.{size}
use Rattle.time_forms.specs.Programs.{IsNumberWithin}
use Rattle.time_forms.proofs.WideBounds.{size_bound}
use Rattle.angle_forms.proofs.anomalies.reach.Goals as goal

-- the sum, as the program takes it
summed : (a r o : ℤ) → IsNumberWithin a (2 ^ 59) → IsNumberWithin r (2 ^ 59) → IsNumberWithin o (2 ^ 42)
    → to_z w128 (of_z w128 (to_z w128 (of_z w128 (to_z w128 (of_z w128 (to_z w128 (of_z w128 a) +ℤ to_z w128 (of_z w128 r))) +ℤ to_z w128 (of_z w128 (pos 2 *ℤ to_z w128 (of_z w128 o))))) +ℤ pos 1)) ≡ ((a +ℤ r) +ℤ pos 2 *ℤ o) +ℤ pos 1
summed a r o p q s = let pl = p.low in let ph = p.high in let ql = q.low in let qh = q.high in let sl = s.low in let sh = s.high in omega (arith, ints)

within : (a r o : ℤ) → IsNumberWithin a (2 ^ 59) → IsNumberWithin r (2 ^ 59) → IsNumberWithin o (2 ^ 42) → IsNumberWithin (((a +ℤ r) +ℤ pos 2 *ℤ o) +ℤ pos 1) (2 ^ 60 + 2 ^ 44)
within a r o p q s = let pl = p.low in let ph = p.high in let ql = q.low in let qh = q.high in let sl = s.low in let sh = s.high in record { low = omega (arith, ints); high = omega (arith, ints) }

size_is : (c : goal.After-abs) → c.abs.result ≡ size c.args.turning
size_is c = c.abs.ensures.value ∙ ap size (plain c.ranges.turning)

size_small : (c : goal.After-abs) → IsNumberWithin c.abs.result (2 ^ 59)
size_small c = rw (size_is c) (size_bound c.args.turning (2 ^ 59) c.requires.turning_small)

pub returns-clause-value : goal.returns-clause-value
returns-clause-value c = summed c.abs.result c.args.remainder c.args.own (size_small c) c.requires.remainder_small c.requires.own_small ∙ ap (λ z. ((z +ℤ c.args.remainder) +ℤ pos 2 *ℤ c.args.own) +ℤ pos 1) (size_is c)

pub returns-clause-small : goal.returns-clause-small
returns-clause-small c = rw (summed c.abs.result c.args.remainder c.args.own (size_small c) c.requires.remainder_small c.requires.own_small) (within c.abs.result c.args.remainder c.args.own (size_small c) c.requires.remainder_small c.requires.own_small)
