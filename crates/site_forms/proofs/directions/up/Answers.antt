use Rattle.std.proofs.Common.{ap, ◌∙◌}
use Rattle.std.specs.Option.{option_map}
use Rattle.time_forms.specs.Programs.{form}
use Rattle.angle_forms.specs.Pairs.{pair_form}
use Rattle.angle_forms.specs.Vectors.{vector_form}
use Rattle.site_forms.proofs.FoundFrames.{up_none, up_half, up_some}
use Rattle.site_forms.proofs.directions.up.Goals as goal

pub returns-in_err-first-clause-exact : goal.returns-in_err-first-clause-exact
returns-in_err-first-clause-exact c = ap (option_map vector_form) c.from_residual.ensures ∙ up_none (pair_form c.args.lat) (pair_form c.args.lon) c.in_err-first.ensures.exact

pub returns-in_err-second-clause-exact : goal.returns-in_err-second-clause-exact
returns-in_err-second-clause-exact c =
    ap (option_map vector_form) c.from_residual-in_err-second.ensures ∙ up_half (pair_form c.args.lat) (pair_form c.args.lon) (form c.in_ok-first.first) c.in_ok-first.ensures.exact c.in_err-second.ensures.exact

pub returns-clause-exact : goal.returns-clause-exact
returns-clause-exact c = up_some (pair_form c.args.lat) (pair_form c.args.lon) (form c.in_ok-first.first) (form c.in_ok-second.second) c.in_ok-first.ensures.exact c.in_ok-second.ensures.exact
