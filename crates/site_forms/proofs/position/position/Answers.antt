use Rattle.std.proofs.Common.{ap, ◌∙◌, ◌^◌}
use Rattle.std.specs.Option.{option_map}
use lib.Dec.{lit≤}
use Rattle.time_forms.specs.Programs.{form}
use Rattle.angle_forms.specs.Pairs.{pair_form}
use Rattle.angle_forms.specs.Vectors.{vector_form}
use Rattle.site_forms.proofs.Bounds.{wider_form}
use Rattle.site_forms.proofs.FoundFrames.{position_none, position_no_distance, position_no_first, position_no_second, position_no_lesser, position_no_third, position_some}
use Rattle.site_forms.proofs.position.position.Goals as goal

pub returns-in_err-radius-clause-exact : goal.returns-in_err-radius-clause-exact
returns-in_err-radius-clause-exact c =
    ap (option_map vector_form) c.from_residual.ensures
    ∙ position_none (form c.args.height) (pair_form c.args.lat) (pair_form c.args.lon) c.in_err-radius.ensures.exact

pub returns-in_err-distance-clause-exact : goal.returns-in_err-distance-clause-exact
returns-in_err-distance-clause-exact c =
    ap (option_map vector_form) c.from_residual-in_err-distance.ensures
    ∙ position_no_distance (form c.args.height) (pair_form c.args.lat) (pair_form c.args.lon) (form c.in_ok-radius.radius) c.in_ok-radius.ensures.exact c.in_err-distance.ensures.exact

pub returns-in_err-first-clause-exact : goal.returns-in_err-first-clause-exact
returns-in_err-first-clause-exact c =
    ap (option_map vector_form) c.from_residual-in_err-first.ensures
    ∙ position_no_first (form c.args.height) (pair_form c.args.lat) (pair_form c.args.lon) (form c.in_ok-radius.radius) (form c.in_ok-distance.distance) c.in_ok-radius.ensures.exact c.in_ok-distance.ensures.exact c.in_err-first.ensures.exact

pub mul-requires-2-clause-b_small : goal.mul-requires-2-clause-b_small
mul-requires-2-clause-b_small c = wider_form (2 ^ 58) (2 ^ 60) (lit≤ tt) c.requires.lon_small.sine

pub returns-in_err-second-clause-exact : goal.returns-in_err-second-clause-exact
returns-in_err-second-clause-exact c =
    ap (option_map vector_form) c.from_residual-in_err-second.ensures
    ∙ position_no_second (form c.args.height) (pair_form c.args.lat) (pair_form c.args.lon) (form c.in_ok-radius.radius) (form c.in_ok-distance.distance) (form c.in_ok-first.first) c.in_ok-radius.ensures.exact c.in_ok-distance.ensures.exact c.in_ok-first.ensures.exact c.in_err-second.ensures.exact

pub returns-in_err-lesser-clause-exact : goal.returns-in_err-lesser-clause-exact
returns-in_err-lesser-clause-exact c =
    ap (option_map vector_form) c.from_residual-in_err-lesser.ensures
    ∙ position_no_lesser (form c.args.height) (pair_form c.args.lat) (pair_form c.args.lon) (form c.in_ok-radius.radius) (form c.in_ok-distance.distance) (form c.in_ok-first.first) (form c.in_ok-second.second) c.in_ok-radius.ensures.exact c.in_ok-distance.ensures.exact c.in_ok-first.ensures.exact c.in_ok-second.ensures.exact c.in_err-lesser.ensures.exact

pub returns-in_err-third-clause-exact : goal.returns-in_err-third-clause-exact
returns-in_err-third-clause-exact c =
    ap (option_map vector_form) c.from_residual-in_err-third.ensures
    ∙ position_no_third (form c.args.height) (pair_form c.args.lat) (pair_form c.args.lon) (form c.in_ok-radius.radius) (form c.in_ok-distance.distance) (form c.in_ok-first.first) (form c.in_ok-second.second) (form c.in_ok-lesser.lesser) c.in_ok-radius.ensures.exact c.in_ok-distance.ensures.exact c.in_ok-first.ensures.exact c.in_ok-second.ensures.exact c.in_ok-lesser.ensures.exact c.in_err-third.ensures.exact

pub returns-clause-exact : goal.returns-clause-exact
returns-clause-exact c =
    position_some (form c.args.height) (pair_form c.args.lat) (pair_form c.args.lon) (form c.in_ok-radius.radius) (form c.in_ok-distance.distance) (form c.in_ok-first.first) (form c.in_ok-second.second) (form c.in_ok-lesser.lesser) (form c.in_ok-third.third)
    c.in_ok-radius.ensures.exact c.in_ok-distance.ensures.exact c.in_ok-first.ensures.exact c.in_ok-second.ensures.exact c.in_ok-lesser.ensures.exact c.in_ok-third.ensures.exact
