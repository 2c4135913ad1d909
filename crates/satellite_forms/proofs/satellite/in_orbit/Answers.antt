use Rattle.std.proofs.Common.{rules, ap, ◌∙◌, ◌*◌, ◌^◌, ◌≡◌, Some}
use Rattle.std.specs.Option.{option_map}
use lib.Dec.{lit≤}
use Rattle.orbit_laws.specs.Elements.{Elements, elements_of}
use Rattle.trig_laws.specs.SinCos.{sin_cos_of}
use Rattle.time_forms.specs.Forms.{Form}
use Rattle.time_forms.specs.Operations.{fixed_of}
use Rattle.time_forms.specs.Programs.{form, short_of}
use Rattle.orbit_forms.specs.Positions.{PairForm, fixed_pair, perifocal_x_form, perifocal_y_form}
use Rattle.angle_forms.specs.Pairs.{pair_form}
use Rattle.angle_forms.specs.Vectors.{vector_form}
use Rattle.angle_forms.proofs.Steps.{none_step}
use Rattle.almanac_orbit.proofs.KeptElements.{perigee_full, inclination_full}
use Rattle.satellite_forms.specs.Checked.{checked_in_plane_x, checked_in_plane_y, checked_place}
use Rattle.satellite_forms.proofs.Bounds.{wider_form, wider_pair, wider_interval, kept_within}
use Rattle.satellite_forms.proofs.Found.{after_minor, after_plane_x, after_plane_y, orbit_none, orbit_major, orbit_minor, orbit_plane_x, orbit_plane_y, major-is, minor-is}
use Rattle.satellite_forms.proofs.satellite.in_orbit.Goals as goal

pub sines_that_stay-perigee-requires : goal.sines_that_stay-perigee-requires
sines_that_stay-perigee-requires c =
    let f = perigee_full c.requires.kept.0 c.args.kept.now c.requires.kept.1 in
    let sine = f.sine in
    let cosine = f.cosine in
    search rules

pub sines_that_stay-inclination-requires : goal.sines_that_stay-inclination-requires
sines_that_stay-inclination-requires c =
    let f = inclination_full c.requires.kept.0 c.args.kept.now c.requires.kept.1 in
    let sine = f.sine in
    let cosine = f.cosine in
    search rules

pub steady-requires : goal.steady-requires
steady-requires c = wider_interval (2 ^ 44) (2 ^ 60) (lit≤ tt) (kept_within c.requires.kept.0 c.args.kept.now c.requires.kept.1).semi_major_axis

pub steady-requires-2 : goal.steady-requires-2
steady-requires-2 c = wider_interval (2 ^ 33) (2 ^ 60) (lit≤ tt) (kept_within c.requires.kept.0 c.args.kept.now c.requires.kept.1).eccentricity

pub perifocal_x-requires-clause-axis : goal.perifocal_x-requires-clause-axis
perifocal_x-requires-clause-axis c = wider_form (2 * 2 ^ 44) (2 ^ 58) (lit≤ tt) (c.steady.ensures.small (2 ^ 44) (kept_within c.requires.kept.0 c.args.kept.now c.requires.kept.1).semi_major_axis)

pub perifocal_x-requires-clause-ratio : goal.perifocal_x-requires-clause-ratio
perifocal_x-requires-clause-ratio c = wider_form (2 * 2 ^ 33) (2 ^ 58) (lit≤ tt) (c.steady-2.ensures.small (2 ^ 33) (kept_within c.requires.kept.0 c.args.kept.now c.requires.kept.1).eccentricity)

pub returns-in_err-x-clause-exact : goal.returns-in_err-x-clause-exact
returns-in_err-x-clause-exact c rec i =
    let e : Elements = elements_of rec in
    let a : PairForm = pair_form c.args.anomaly in
    let o : PairForm = pair_form c.args.node in
    ap (option_map vector_form) c.from_residual.ensures ∙ orbit_none e a o (c.in_err-x.ensures.exact ∙ major-is e a (form c.steady.result) (form c.steady-2.result) (c.steady.ensures.exact ∙ ap fixed_of i.semi_major_axis) (c.steady-2.ensures.exact ∙ ap fixed_of i.eccentricity))

pub steady-requires-3 : goal.steady-requires-3
steady-requires-3 c = wider_interval (2 ^ 44) (2 ^ 60) (lit≤ tt) (kept_within c.requires.kept.0 c.args.kept.now c.requires.kept.1).semi_minor_axis

pub mul-requires-clause-a_small : goal.mul-requires-clause-a_small
mul-requires-clause-a_small c = wider_form (2 * 2 ^ 44) (2 ^ 60) (lit≤ tt) (c.steady-3.ensures.small (2 ^ 44) (kept_within c.requires.kept.0 c.args.kept.now c.requires.kept.1).semi_minor_axis)

pub mul-requires-clause-b_small : goal.mul-requires-clause-b_small
mul-requires-clause-b_small c = wider_form (2 ^ 58) (2 ^ 60) (lit≤ tt) c.requires.anomaly_small.sine

pub returns-in_err-y-clause-exact : goal.returns-in_err-y-clause-exact
returns-in_err-y-clause-exact c rec i =
    let e : Elements = elements_of rec in
    let a : PairForm = pair_form c.args.anomaly in
    let o : PairForm = pair_form c.args.node in
    let x : Form = form c.in_ok-x.x in
    let xs : Some x ≡ short_of (perifocal_x_form e a) = c.in_ok-x.ensures.exact ∙ major-is e a (form c.steady.result) (form c.steady-2.result) (c.steady.ensures.exact ∙ ap fixed_of i.semi_major_axis) (c.steady-2.ensures.exact ∙ ap fixed_of i.eccentricity) in
    ap (option_map vector_form) c.from_residual-in_err-y.ensures ∙ none_step (short_of (perifocal_y_form e a)) (after_minor e o x) (c.in_err-y.ensures.exact ∙ minor-is e a (form c.steady-3.result) (c.steady-3.ensures.exact ∙ ap fixed_of i.semi_minor_axis)) ∙ orbit_major e a o x xs

pub in_plane_x-requires-clause-w_small : goal.in_plane_x-requires-clause-w_small
in_plane_x-requires-clause-w_small c = wider_pair (2 ^ 39) (2 ^ 58) (lit≤ tt) c.sines_that_stay-perigee.ensures.small

pub returns-in_err-along-clause-exact : goal.returns-in_err-along-clause-exact
returns-in_err-along-clause-exact c rec i =
    let e : Elements = elements_of rec in
    let a : PairForm = pair_form c.args.anomaly in
    let o : PairForm = pair_form c.args.node in
    let x : Form = form c.in_ok-x.x in
    let xs : Some x ≡ short_of (perifocal_x_form e a) = c.in_ok-x.ensures.exact ∙ major-is e a (form c.steady.result) (form c.steady-2.result) (c.steady.ensures.exact ∙ ap fixed_of i.semi_major_axis) (c.steady-2.ensures.exact ∙ ap fixed_of i.eccentricity) in
    let y : Form = form c.in_ok-y.y in
    let ys : Some y ≡ short_of (perifocal_y_form e a) = c.in_ok-y.ensures.exact ∙ minor-is e a (form c.steady-3.result) (c.steady-3.ensures.exact ∙ ap fixed_of i.semi_minor_axis) in
    let w : pair_form c.sines_that_stay-perigee.result ≡ fixed_pair (sin_cos_of e.perigee) = c.sines_that_stay-perigee.ensures.exact ∙ ap fixed_pair i.perigee in
    ap (option_map vector_form) c.from_residual-in_err-along.ensures ∙ none_step (checked_in_plane_x x y (fixed_pair (sin_cos_of e.perigee))) (after_plane_x e o x y) (c.in_err-along.ensures.exact ∙ ap (λ (p : PairForm). checked_in_plane_x x y p) w) ∙ orbit_minor e a o x y xs ys

pub in_plane_y-requires-clause-w_small : goal.in_plane_y-requires-clause-w_small
in_plane_y-requires-clause-w_small c = wider_pair (2 ^ 39) (2 ^ 58) (lit≤ tt) c.sines_that_stay-perigee.ensures.small

pub returns-in_err-across-clause-exact : goal.returns-in_err-across-clause-exact
returns-in_err-across-clause-exact c rec i =
    let e : Elements = elements_of rec in
    let a : PairForm = pair_form c.args.anomaly in
    let o : PairForm = pair_form c.args.node in
    let x : Form = form c.in_ok-x.x in
    let xs : Some x ≡ short_of (perifocal_x_form e a) = c.in_ok-x.ensures.exact ∙ major-is e a (form c.steady.result) (form c.steady-2.result) (c.steady.ensures.exact ∙ ap fixed_of i.semi_major_axis) (c.steady-2.ensures.exact ∙ ap fixed_of i.eccentricity) in
    let y : Form = form c.in_ok-y.y in
    let ys : Some y ≡ short_of (perifocal_y_form e a) = c.in_ok-y.ensures.exact ∙ minor-is e a (form c.steady-3.result) (c.steady-3.ensures.exact ∙ ap fixed_of i.semi_minor_axis) in
    let w : pair_form c.sines_that_stay-perigee.result ≡ fixed_pair (sin_cos_of e.perigee) = c.sines_that_stay-perigee.ensures.exact ∙ ap fixed_pair i.perigee in
    let u : Form = form c.in_ok-along.along in
    let us : Some u ≡ checked_in_plane_x x y (fixed_pair (sin_cos_of e.perigee)) = c.in_ok-along.ensures.exact ∙ ap (λ (p : PairForm). checked_in_plane_x x y p) w in
    ap (option_map vector_form) c.from_residual-in_err-across.ensures ∙ none_step (checked_in_plane_y x y (fixed_pair (sin_cos_of e.perigee))) (after_plane_y e o u) (c.in_err-across.ensures.exact ∙ ap (λ (p : PairForm). checked_in_plane_y x y p) w) ∙ orbit_plane_x e a o x y u xs ys us

pub place-requires-clause-inclination_small : goal.place-requires-clause-inclination_small
place-requires-clause-inclination_small c = wider_pair (2 ^ 39) (2 ^ 58) (lit≤ tt) c.sines_that_stay-inclination.ensures.small

pub returns-clause-exact : goal.returns-clause-exact
returns-clause-exact c rec i =
    let e : Elements = elements_of rec in
    let a : PairForm = pair_form c.args.anomaly in
    let o : PairForm = pair_form c.args.node in
    let x : Form = form c.in_ok-x.x in
    let xs : Some x ≡ short_of (perifocal_x_form e a) = c.in_ok-x.ensures.exact ∙ major-is e a (form c.steady.result) (form c.steady-2.result) (c.steady.ensures.exact ∙ ap fixed_of i.semi_major_axis) (c.steady-2.ensures.exact ∙ ap fixed_of i.eccentricity) in
    let y : Form = form c.in_ok-y.y in
    let ys : Some y ≡ short_of (perifocal_y_form e a) = c.in_ok-y.ensures.exact ∙ minor-is e a (form c.steady-3.result) (c.steady-3.ensures.exact ∙ ap fixed_of i.semi_minor_axis) in
    let w : pair_form c.sines_that_stay-perigee.result ≡ fixed_pair (sin_cos_of e.perigee) = c.sines_that_stay-perigee.ensures.exact ∙ ap fixed_pair i.perigee in
    let u : Form = form c.in_ok-along.along in
    let us : Some u ≡ checked_in_plane_x x y (fixed_pair (sin_cos_of e.perigee)) = c.in_ok-along.ensures.exact ∙ ap (λ (p : PairForm). checked_in_plane_x x y p) w in
    let v : Form = form c.in_ok-across.across in
    let vs : Some v ≡ checked_in_plane_y x y (fixed_pair (sin_cos_of e.perigee)) = c.in_ok-across.ensures.exact ∙ ap (λ (p : PairForm). checked_in_plane_y x y p) w in
    let t : pair_form c.sines_that_stay-inclination.result ≡ fixed_pair (sin_cos_of e.inclination) = c.sines_that_stay-inclination.ensures.exact ∙ ap fixed_pair i.inclination in
    c.place.ensures.exact ∙ ap (λ (p : PairForm). checked_place u v o p) t ∙ orbit_plane_y e a o x y u v xs ys us vs
