use Rattle.std.proofs.Common.{rules}
use mir.Val.{SFits}
use mir.Syntax.{w64}
use Rattle.trig_enclose.proofs.Casts.{plain}
use Rattle.kepler_bracket.proofs.Probes.{below_first, below_last, greatest}
use Rattle.kepler_bracket.proofs.search.greatest_below.Goals as goal

pub last_passing-requires-clause-passes : goal.last_passing-requires-clause-passes
last_passing-requires-clause-passes c =
    let p : SFits w64 c.args.mean = search rules in
    rw (plain p) (below_first c.args.eps c.args.mean c.requires.low)

pub last_passing-requires-clause-fails : goal.last_passing-requires-clause-fails
last_passing-requires-clause-fails c =
    let p : SFits w64 c.args.mean = search rules in
    rw (plain p) (below_last c.args.eps c.args.mean c.requires.high)

pub returns : goal.returns
returns c =
    let p : SFits w64 c.args.mean = search rules in
    let r : SFits w64 c.last_passing.result = search rules in
    let h = rw (plain p) at c.last_passing.ensures in
    rw (plain r) (greatest c.args.eps c.args.mean c.last_passing.result h)
