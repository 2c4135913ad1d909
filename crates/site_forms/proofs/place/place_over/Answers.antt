use Rattle.std.proofs.Common.{arith, rules, ap₂, subst, ◌∙◌, ◌+◌, ℕ, ◌+ℤ◌, ◌≤ℤ◌, ◌<ℤ◌, unsigned_abs, get_or}
use Rattle.std.specs.Prelude.{IfSome}
use mir.Val.{SFits}
use mir.Syntax.{w64}
use Rattle.raim_model.specs.declared.waypoint.Waypoint.{Waypoint}
use Rattle.site_laws.specs.Places.{place_over_of}
use Rattle.leg_place.proofs.Pieces.{plain}
use Rattle.leg_place.proofs.PlaceLemmas.{at-time, leg_short}
use Rattle.site_forms.specs.Places.{place_form, PlaceHolds, checked_place_over}
use Rattle.site_forms.proofs.FoundPlaces.{if_place}
use Rattle.site_forms.proofs.Sites.{place_over_holds}
use Rattle.site_forms.proofs.place.place_over.Goals as goal

pub invariant_of-leg : goal.invariant_of-leg
invariant_of-leg c =
    let s : SFits w64 c.waypoint-start.result.at = search rules in
    let e : SFits w64 c.waypoint-stop.result.at = search rules in
    let a = at-time c.args.route.now c.args.leg c.waypoint-start.result (omega arith) c.waypoint-start.ensures.value in
    let b = at-time c.args.route.now (c.args.leg + 1) c.waypoint-stop.result c.requires.leg c.waypoint-stop.ensures.value in
    let started : c.waypoint-start.result.at ≤ℤ c.args.middle = rw a c.requires.started in
    let not_over : c.args.middle <ℤ c.waypoint-stop.result.at = rw b c.requires.not_over in
    let short = leg_short c.args.route.now c.args.leg c.waypoint-start.result c.waypoint-stop.result c.waypoint-start.ensures.route c.requires.leg c.waypoint-start.ensures.value c.waypoint-stop.ensures.value in
    record {
      started = rw (plain s, plain c.ranges.middle) started;
      not_over = rw (plain e, plain c.ranges.middle) not_over;
      short = rw (plain s, plain e) short;
      half_positive = rw (plain c.ranges.half) c.requires.half_positive;
      half_short = rw (plain c.ranges.half) c.requires.half_short;
    }

pub returns-clause-exact : goal.returns-clause-exact
returns-clause-exact c w =
    (rw (plain c.ranges.middle, plain c.ranges.half) at c.between.ensures.exact)
    ∙ ap₂ (λ (u v : Waypoint). checked_place_over u v c.args.middle (unsigned_abs c.args.half)) (c.waypoint-start.ensures.value w) (c.waypoint-stop.ensures.value w)

pub returns-clause-holds : goal.returns-clause-holds
returns-clause-holds c w d t p q =
    let u = c.waypoint-start.result in
    let v = c.waypoint-stop.result in
    let h : ℕ = unsigned_abs c.args.half in
    let a = at-time c.args.route.now c.args.leg u (omega arith) c.waypoint-start.ensures.value in
    let b = at-time c.args.route.now (c.args.leg + 1) v c.requires.leg c.waypoint-stop.ensures.value in
    let started : u.at ≤ℤ (c.args.middle +ℤ d) = rw a p in
    let not_over : (c.args.middle +ℤ d) <ℤ v.at = rw b q in
    subst (λ (x : Waypoint). IfSome c.between.result (λ p. PlaceHolds h d (place_form p) (place_over_of x (get_or c.args.route.now (c.args.leg + 1) w) (c.args.middle +ℤ d) (c.args.middle +ℤ d)))) (c.waypoint-start.ensures.value w)
    (subst (λ (y : Waypoint). IfSome c.between.result (λ p. PlaceHolds h d (place_form p) (place_over_of u y (c.args.middle +ℤ d) (c.args.middle +ℤ d)))) (c.waypoint-stop.ensures.value w)
    (if_place c.between.result (checked_place_over u v c.args.middle h) (rw (plain c.ranges.middle, plain c.ranges.half) at c.between.ensures.exact) (λ p. PlaceHolds h d p (place_over_of u v (c.args.middle +ℤ d) (c.args.middle +ℤ d)))
    (λ f e. place_over_holds u v c.args.middle f c.waypoint-start.ensures.accepted c.waypoint-stop.ensures.accepted t started not_over e)))
