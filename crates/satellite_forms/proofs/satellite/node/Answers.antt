use Rattle.std.proofs.Common.{ap, ◌∙◌, unsigned_abs}
use Rattle.std.proofs.lemmas.Int.{to_z-of_z}
use Rattle.std.specs.Option.{option_map}
use mir.Syntax.{w64}
use Rattle.fix_interval.specs.Intervals.{ends}
use Rattle.time_forms.specs.Programs.{form}
use Rattle.angle_forms.specs.Pairs.{pair_form}
use Rattle.satellite_forms.proofs.Bounds.{kept_within}
use Rattle.satellite_forms.proofs.Found.{node_none, node_some}
use Rattle.satellite_forms.proofs.satellite.node.Goals as goal

pub moved_back-requires-clause-start_small : goal.moved_back-requires-clause-start_small
moved_back-requires-clause-start_small c = (kept_within c.requires.kept.0 c.args.kept.now c.requires.kept.1).node

pub moved_back-requires-clause-rate_small : goal.moved_back-requires-clause-rate_small
moved_back-requires-clause-rate_small c = (kept_within c.requires.kept.0 c.args.kept.now c.requires.kept.1).drift

pub moved_back-requires-clause-turned_small : goal.moved_back-requires-clause-turned_small
moved_back-requires-clause-turned_small c = (kept_within c.requires.kept.0 c.args.kept.now c.requires.kept.1).turned

pub returns-in_err-turns-clause-exact : goal.returns-in_err-turns-clause-exact
returns-in_err-turns-clause-exact c =
    let k = c.args.kept.now in
    ap (option_map pair_form) c.from_residual.ensures
    ∙ node_none (ends k.node) (ends k.drift) (ends k.turned) c.args.k (unsigned_abs c.args.half) (rw (to_z-of_z w64 c.args.k c.ranges.k, to_z-of_z w64 c.args.half c.ranges.half) at c.in_err-turns.ensures.exact)

pub returns-clause-exact : goal.returns-clause-exact
returns-clause-exact c =
    let k = c.args.kept.now in
    c.sin_cos.ensures.exact
    ∙ node_some (ends k.node) (ends k.drift) (ends k.turned) c.args.k (unsigned_abs c.args.half) (form c.in_ok-turns.turns) (rw (to_z-of_z w64 c.args.k c.ranges.k, to_z-of_z w64 c.args.half c.ranges.half) at c.in_ok-turns.ensures.exact)
