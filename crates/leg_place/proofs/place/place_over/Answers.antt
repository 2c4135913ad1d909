use Rattle.std.proofs.Common.{arith, rules, ◌≡◌, ◌+◌, ◌≤ℤ◌, ◌<ℤ◌, ap₂, sym, ◌∙◌, subst, get_or}
use mir.Val.{SFits}
use mir.Syntax.{w64}
use Rattle.raim_model.specs.Receiver.{place_on}
use Rattle.site_laws.specs.Places.{PlaceLies, PlaceInside, PlaceNarrow, along_of, place_over_of, IsNearEarth}
use Rattle.site_laws.proofs.PlaceOver.{place_over_isotone, place_over_near_earth}
use Rattle.leg_place.specs.Places.{place_ends}
use Rattle.leg_place.proofs.Pieces.{plain}
use Rattle.leg_place.proofs.PlaceLemmas.{same_place, at-time, leg_short, leg_encloses, leg_narrow}
use Rattle.leg_place.proofs.place.place_over.Goals as goal

pub overflow_add-leg : goal.overflow_add-leg
overflow_add-leg c = let r = c.waypoint-start.ensures.route.points.few in omega arith

pub invariant_of-piece : goal.invariant_of-piece
invariant_of-piece c =
    let s : SFits w64 c.waypoint-start.result.at = search rules in
    let e : SFits w64 c.waypoint-stop.result.at = search rules in
    let a = at-time c.args.route.now c.args.leg c.waypoint-start.result (omega arith) c.waypoint-start.ensures.value in
    let b = at-time c.args.route.now (c.args.leg + 1) c.waypoint-stop.result c.requires.leg c.waypoint-stop.ensures.value in
    record {
      started = rw (plain s, plain c.ranges.first) (rw a c.requires.started);
      ordered = rw (plain c.ranges.first, plain c.ranges.last) c.requires.ordered;
      not_over = rw (plain c.ranges.last, plain e) (rw b c.requires.not_over);
      short = rw (plain s, plain e) (leg_short c.args.route.now c.args.leg c.waypoint-start.result c.waypoint-stop.result c.waypoint-start.ensures.route c.requires.leg c.waypoint-start.ensures.value c.waypoint-stop.ensures.value);
    }

-- what is answered, by the two waypoints
answered : (c : goal.After-along-3) → place_ends record { lat = c.along.result; lon = c.along-2.result; height = c.along-3.result } ≡ place_over_of c.waypoint-start.result c.waypoint-stop.result c.args.first c.args.last
unfolding place_over_of
answered c =
    let s : SFits w64 c.waypoint-start.result.at = search rules in
    let e : SFits w64 c.waypoint-stop.result.at = search rules in
    let line = along_of c.waypoint-start.result.at c.waypoint-stop.result.at c.args.first c.args.last in
    same_place
    ((rw (plain s, plain e, plain c.ranges.first, plain c.ranges.last) at c.along.ensures) ∙ ap₂ line c.latitude.ensures.exact c.latitude-2.ensures.exact)
    ((rw (plain s, plain e, plain c.ranges.first, plain c.ranges.last) at c.along-2.ensures) ∙ ap₂ line c.longitude.ensures.exact c.longitude-2.ensures.exact)
    ((rw (plain s, plain e, plain c.ranges.first, plain c.ranges.last) at c.along-3.ensures) ∙ ap₂ line c.height.ensures.exact c.height-2.ensures.exact)

started : (c : goal.After-along-3) → c.waypoint-start.result.at ≤ℤ c.args.first
started c = let a = at-time c.args.route.now c.args.leg c.waypoint-start.result (omega arith) c.waypoint-start.ensures.value in rw a c.requires.started

not_over : (c : goal.After-along-3) → c.args.last <ℤ c.waypoint-stop.result.at
not_over c = let b = at-time c.args.route.now (c.args.leg + 1) c.waypoint-stop.result c.requires.leg c.waypoint-stop.ensures.value in rw b c.requires.not_over

pub returns-clause-exact : goal.returns-clause-exact
returns-clause-exact c d = answered c ∙ ap₂ (λ v w. place_over_of v w c.args.first c.args.last) (c.waypoint-start.ensures.value d) (c.waypoint-stop.ensures.value d)

pub returns-clause-encloses : goal.returns-clause-encloses
returns-clause-encloses c t h k l =
    subst (λ p. PlaceLies p (place_on l)) (sym (answered c))
    (leg_encloses c.args.route.now c.args.leg c.waypoint-start.result c.waypoint-stop.result c.args.first c.args.last t c.waypoint-start.ensures.route c.requires.leg c.waypoint-start.ensures.value c.waypoint-stop.ensures.value (started c) h k (not_over c) l)

pub returns-clause-isotone : goal.returns-clause-isotone
returns-clause-isotone c d f l h i j k =
    let a = at-time c.args.route.now c.args.leg c.waypoint-start.result (omega arith) c.waypoint-start.ensures.value in
    let b = at-time c.args.route.now (c.args.leg + 1) c.waypoint-stop.result c.requires.leg c.waypoint-stop.ensures.value in
    subst (λ p. PlaceInside p (place_over_of (get_or c.args.route.now c.args.leg d) (get_or c.args.route.now (c.args.leg + 1) d) f l)) (sym (returns-clause-exact c d))
    (place_over_isotone (get_or c.args.route.now c.args.leg d) (get_or c.args.route.now (c.args.leg + 1) d) c.args.first c.args.last f l
    (subst (λ w. w.at ≤ℤ f) (c.waypoint-start.ensures.value d) (rw a h)) i c.requires.ordered j (subst (λ w. l <ℤ w.at) (c.waypoint-stop.ensures.value d) (rw b k)))

pub returns-clause-ranges : goal.returns-clause-ranges
returns-clause-ranges c = subst IsNearEarth (sym (answered c)) (place_over_near_earth c.waypoint-start.result c.waypoint-stop.result c.args.first c.args.last c.waypoint-start.ensures.accepted c.waypoint-stop.ensures.accepted (started c) c.requires.ordered (not_over c))

pub returns-clause-narrow : goal.returns-clause-narrow
returns-clause-narrow c e = subst (λ p. PlaceNarrow p 4) (sym (answered c)) (leg_narrow c.waypoint-start.result c.waypoint-stop.result c.args.first c.args.last (started c) (not_over c) e)
