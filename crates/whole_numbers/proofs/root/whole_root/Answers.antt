use Rattle.std.proofs.Common.{arith, ◌∙◌, ap, sym, pos, rules}
use mir.Val.{SFits}
use mir.Syntax.{w128}
use Rattle.std.proofs.lemmas.Int.{ints}
use Rattle.whole_numbers.proofs.Casts.{plain}
use Rattle.whole_numbers.proofs.Roots.{root_of-unique}
use Rattle.whole_numbers.proofs.root.whole_root.Goals as goal

pub returns : goal.returns
returns c =
    let h = c.isqrt.ensures in
    let r : SFits w128 c.isqrt.result = search rules in
    plain r ∙ h.1 ∙ ap pos (sym (root_of-unique c.args.z h.0 (omega (arith, ints, h.2)) (omega (arith, ints, h.3))))
