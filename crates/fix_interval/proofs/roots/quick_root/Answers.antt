use Rattle.std.proofs.Common.{arith, rules, ℕ, ◌≡◌, ◌∙◌, ap, sym, pos, min, ◌+◌, ◌*◌, ◌^◌, ◌<◌, ◌≤◌}
use mir.Val.{SFits}
use mir.Syntax.{w128}
use native.Mathlib.Decide.{dec_le}
use Rattle.std.proofs.lemmas.Int.{ints, to_z_pos}
use Rattle.whole_numbers.proofs.Casts.{plain}
use Rattle.whole_numbers.proofs.Roots.{root_of-unique}
use Rattle.fix_interval.proofs.Newton.{step_above}
use Rattle.fix_interval.proofs.roots.quick_root.Goals as goal

-- what is at least the root stays so where it is cut off at 2^63
cut_off : (n y m : ℕ) → m ≡ min y (2 ^ 63) → n < (y + 1) * (y + 1) → n ≤ 2 ^ 126 → (n < (m + 1) * (m + 1)) × (m ≤ 2 ^ 63)
cut_off n y m e h k = elim (dec_le y (2 ^ 63)) [ yes l ↦ (let f : m ≡ y = omega arith in rw f h, omega arith) | no l ↦ (let f : m ≡ 2 ^ 63 = omega arith in rw f (omega arith), omega arith) ]

pub loop-root-init : goal.loop-root-init
loop-root-init c =
    let fits : SFits w128 c.args.z = search rules in
    cut_off _ _ c.min-root.result c.min-root.ensures (step_above _ c.near_root-near.result c.near_root-near.ensures.positive) (omega (arith, ints, plain fits))

pub returns : goal.returns
returns c =
    let fits : SFits w128 c.args.z = search rules in
    to_z_pos w128 c.loop-root.root (omega (arith, c.loop-root.invariant.1))
    ∙ ap pos (sym (root_of-unique c.args.z c.loop-root.root (omega (arith, ints, plain fits, c.loop-root-test.false)) (omega (arith, ints, plain fits, c.loop-root.invariant.0))))
