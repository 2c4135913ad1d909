use Rattle.std.proofs.Common.{ap, ◌∙◌, ◌^◌}
use Rattle.std.specs.Option.{option_map}
use lib.Dec.{lit≤}
use Rattle.time_forms.specs.Forms.{Form}
use Rattle.time_forms.specs.Programs.{form}
use Rattle.orbit_forms.specs.Positions.{PairForm}
use Rattle.angle_forms.specs.Pairs.{pair_form}
use Rattle.angle_forms.specs.Vectors.{vector_form}
use Rattle.angle_forms.proofs.Steps.{none_step}
use Rattle.satellite_forms.specs.Checked.{checked_in_plane_x, checked_in_plane_y}
use Rattle.satellite_forms.proofs.Bounds.{wider_form}
use Rattle.satellite_forms.proofs.Found.{after_first, after_second, place_none, place_turned, place_first, place_short, place_some}
use Rattle.satellite_forms.proofs.place.place.Goals as goal

pub returns-in_err-across-clause-exact : goal.returns-in_err-across-clause-exact
returns-in_err-across-clause-exact c = ap (option_map vector_form) c.from_residual.ensures ∙ place_none (form c.args.x) (form c.args.y) (pair_form c.args.node) (pair_form c.args.inclination) c.in_err-across.ensures.exact

pub returns-in_err-first-clause-exact : goal.returns-in_err-first-clause-exact
returns-in_err-first-clause-exact c =
    let x : Form = form c.args.x in
    let y : Form = form c.args.y in
    let o : PairForm = pair_form c.args.node in
    let i : PairForm = pair_form c.args.inclination in
    let a : Form = form c.in_ok-across.across in
    ap (option_map vector_form) c.from_residual-in_err-first.ensures ∙ none_step (checked_in_plane_x x a o) (after_first x y o i a) c.in_err-first.ensures.exact ∙ place_turned x y o i a c.in_ok-across.ensures.exact

pub returns-in_err-second-clause-exact : goal.returns-in_err-second-clause-exact
returns-in_err-second-clause-exact c =
    let x : Form = form c.args.x in
    let y : Form = form c.args.y in
    let o : PairForm = pair_form c.args.node in
    let i : PairForm = pair_form c.args.inclination in
    let a : Form = form c.in_ok-across.across in
    let u : Form = form c.in_ok-first.first in
    ap (option_map vector_form) c.from_residual-in_err-second.ensures ∙ none_step (checked_in_plane_y x a o) (after_second y i u) c.in_err-second.ensures.exact ∙ place_first x y o i a u c.in_ok-across.ensures.exact c.in_ok-first.ensures.exact

pub mul-requires-2-clause-b_small : goal.mul-requires-2-clause-b_small
mul-requires-2-clause-b_small c = wider_form (2 ^ 58) (2 ^ 60) (lit≤ tt) c.requires.inclination_small.sine

pub returns-in_err-third-clause-exact : goal.returns-in_err-third-clause-exact
returns-in_err-third-clause-exact c =
    let x : Form = form c.args.x in
    let y : Form = form c.args.y in
    let o : PairForm = pair_form c.args.node in
    let i : PairForm = pair_form c.args.inclination in
    let a : Form = form c.in_ok-across.across in
    let u : Form = form c.in_ok-first.first in
    let v : Form = form c.in_ok-second.second in
    ap (option_map vector_form) c.from_residual-in_err-third.ensures ∙ place_short x y o i a u v c.in_ok-across.ensures.exact c.in_ok-first.ensures.exact c.in_ok-second.ensures.exact c.in_err-third.ensures.exact

pub returns-clause-exact : goal.returns-clause-exact
returns-clause-exact c =
    place_some (form c.args.x) (form c.args.y) (pair_form c.args.node) (pair_form c.args.inclination) (form c.in_ok-across.across) (form c.in_ok-first.first) (form c.in_ok-second.second) (form c.in_ok-third.third)
    c.in_ok-across.ensures.exact c.in_ok-first.ensures.exact c.in_ok-second.ensures.exact c.in_ok-third.ensures.exact
