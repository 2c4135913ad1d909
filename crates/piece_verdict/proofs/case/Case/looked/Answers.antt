use Rattle.std.proofs.Common.{arith, ◌≡◌, ℕ, sym, subst, ap, ◌∙◌}
use Rattle.std.specs.Prelude.{All, Bool, List, ◌<ℤ◌}
use Rattle.std.proofs.lemmas.Int.{ints, to_z-of_z}
use Rattle.raim_model.specs.declared.almanac.AlmRecord.{AlmRecord}
use Rattle.raim_model.specs.AlmanacInForce.{in_force}
use Rattle.raim_model.specs.CaseCuts.{MayBeJudged}
use Rattle.raim_model.specs.Route.{flight_of}
use Rattle.raim_model.specs.Solution.{Case}
use Rattle.fix_interval.specs.Ends.{Ends, IsInside}
use Rattle.fix_interval.specs.Intervals.{ends}
use Rattle.fix_interval.specs.Ranges.{full_ends}
use Rattle.site_laws.specs.Frames.{FrameEnds}
use Rattle.wgs_position.specs.Frames.{frame_ends}
use Rattle.case_laws.specs.SightOver.{mask_of, sight_over}
use Rattle.case_laws.proofs.Masks.{mask_full}
use Rattle.piece_verdict.specs.Cases.{case_of}
use Rattle.raim_model.specs.PointVerdict.{least_count}
use Rattle.piece_verdict.specs.declared.looks.Looks.{Looks}
use Rattle.piece_verdict.specs.Seen.{looks_with}
use Rattle.piece_verdict.specs.Looks.{AreLooks}
use Rattle.piece_verdict.specs.Views.{seen_from, all_seen_from}
use Rattle.piece_verdict.specs.Here.{IsHere}
use Rattle.piece_verdict.specs.Hidden.{seen_knowing, AddsHidden}
use Rattle.piece_verdict.proofs.HiddenLemmas.{adds_over}
use Rattle.piece_verdict.proofs.Whole.{seen_whole, force_here, all_applicable, few_records, rising_records, some_records}
use Rattle.piece_verdict.proofs.case.Case.looked.Goals as goal

pub sights-requires-clause-few : goal.sights-requires-clause-few
sights-requires-clause-few c =
    let f = c.ranges.first in
    let k : Case = case_of c.self.inside.limits c.self.inside.constellations.items c.self.inside.outages.items c.self.inside.route in
    let w : IsHere k c.args.here c.args.first = subst (λ x. IsHere x c.args.here c.args.first) (sym c.self.view_is) c.requires.here in
    let e : c.satellites.result.now ≡ in_force c.args.first k.almanacs = force_here k c.args.here.almanac c.args.first c.index.result.now c.satellites.result.now w.listed w.serves c.index.ensures c.satellites.ensures in
    few_records k c.self.invariant.case c.satellites.result.now c.args.first e

pub sights-requires-clause-first_applicable : goal.sights-requires-clause-first_applicable
sights-requires-clause-first_applicable c =
    let f = c.ranges.first in
    let k : Case = case_of c.self.inside.limits c.self.inside.constellations.items c.self.inside.outages.items c.self.inside.route in
    let p : MayBeJudged k c.args.first c.args.last = subst (λ x. MayBeJudged x c.args.first c.args.last) (sym c.self.view_is) c.requires.rule in
    let o = c.requires.ordered in
    let h : c.args.last <ℤ (flight_of k.route).end = p.piece.not_over in
    let w : IsHere k c.args.here c.args.first = subst (λ x. IsHere x c.args.here c.args.first) (sym c.self.view_is) c.requires.here in
    let e : c.satellites.result.now ≡ in_force c.args.first k.almanacs = force_here k c.args.here.almanac c.args.first c.index.result.now c.satellites.result.now w.listed w.serves c.index.ensures c.satellites.ensures in
    simp to_z-of_z (all_applicable k p.case c.satellites.result.now c.args.first c.args.first e p.piece.started (omega (arith, ints)))

pub sights-requires-clause-last_applicable : goal.sights-requires-clause-last_applicable
sights-requires-clause-last_applicable c =
    let f = c.ranges.first in
    let l = c.ranges.last in
    let k : Case = case_of c.self.inside.limits c.self.inside.constellations.items c.self.inside.outages.items c.self.inside.route in
    let p : MayBeJudged k c.args.first c.args.last = subst (λ x. MayBeJudged x c.args.first c.args.last) (sym c.self.view_is) c.requires.rule in
    let o = c.requires.ordered in
    let s = p.piece.started in
    let w : IsHere k c.args.here c.args.first = subst (λ x. IsHere x c.args.here c.args.first) (sym c.self.view_is) c.requires.here in
    let e : c.satellites.result.now ≡ in_force c.args.first k.almanacs = force_here k c.args.here.almanac c.args.first c.index.result.now c.satellites.result.now w.listed w.serves c.index.ensures c.satellites.ensures in
    simp to_z-of_z (all_applicable k p.case c.satellites.result.now c.args.first c.args.last e (omega (arith, ints)) p.piece.not_over)

pub sights-requires-clause-mask : goal.sights-requires-clause-mask
sights-requires-clause-mask c = subst (λ m. IsInside m full_ends) (sym c.self.invariant.sine) (mask_full c.self.inside.limits)

pub returns-clause-looks : goal.returns-clause-looks
returns-clause-looks c =
    let f = c.ranges.first in
    let l = c.ranges.last in
    let k : Case = case_of c.self.inside.limits c.self.inside.constellations.items c.self.inside.outages.items c.self.inside.route in
    let F : FrameEnds = frame_ends c.receiver-frame.result in
    let M : Ends = ends c.self.inside.mask in
    let R : List AlmRecord = c.satellites.result.now in
    let w : IsHere k c.args.here c.args.first = subst (λ x. IsHere x c.args.here c.args.first) (sym c.self.view_is) c.requires.here in
    let e : R ≡ in_force c.args.first k.almanacs = force_here k c.args.here.almanac c.args.first c.index.result.now R w.listed w.serves c.index.ensures c.satellites.ensures in
    let N : ℕ = c.needed-needed.result in
    let P : List Bool = c.args.known.now.places in
    let W : Looks = looks_with c.sights.result c.sights.new.seen in
    let h : AreLooks N (all_seen_from F M c.as_slice-2.result.now c.as_slice.result.now P c.args.first c.args.last R) W = simp to_z-of_z at c.sights.ensures.looks in
    let r = simp to_z-of_z at c.receiver-frame.ensures.exact in
    let v = subst (λ (x : Case). (rec : AlmRecord) → seen_from F (mask_of x.limits) x.limits.weights.items c.args.first c.args.last rec ≡ sight_over x rec c.args.first c.args.last) (sym c.self.view_is) r in
    let a = subst (λ os. AreLooks N (all_seen_from F M c.as_slice-2.result.now os P c.args.first c.args.last R) W) c.as_slice.ensures.value h in
    let b = subst (λ ws. AreLooks N (all_seen_from F M ws c.self.inside.outages.items P c.args.first c.args.last R) W) c.as_slice-2.ensures.value a in
    subst (λ n. AreLooks n (seen_knowing c.args.self.now P c.args.first c.args.last) W) (c.needed-needed.ensures.value ∙ ap (λ (x : Case). least_count x.limits.exclude) c.self.view_is)
    (subst (λ (x : Case). AreLooks N (seen_knowing x P c.args.first c.args.last) W) c.self.view_is
    (subst (λ xs. AreLooks N xs W) (seen_whole k P c.args.first c.args.last F M R e c.self.invariant.sine v) b))

pub returns-clause-known : goal.returns-clause-known
returns-clause-known c =
    let f = c.ranges.first in
    let l = c.ranges.last in
    let k : Case = case_of c.self.inside.limits c.self.inside.constellations.items c.self.inside.outages.items c.self.inside.route in
    let F : FrameEnds = frame_ends c.receiver-frame.result in
    let M : Ends = ends c.self.inside.mask in
    let R : List AlmRecord = c.satellites.result.now in
    let w : IsHere k c.args.here c.args.first = subst (λ x. IsHere x c.args.here c.args.first) (sym c.self.view_is) c.requires.here in
    let e : R ≡ in_force c.args.first k.almanacs = force_here k c.args.here.almanac c.args.first c.index.result.now R w.listed w.serves c.index.ensures c.satellites.ensures in
    let r = simp to_z-of_z at c.receiver-frame.ensures.exact in
    let v = subst (λ (x : Case). (rec : AlmRecord) → seen_from F (mask_of x.limits) x.limits.weights.items c.args.first c.args.last rec ≡ sight_over x rec c.args.first c.args.last) (sym c.self.view_is) r in
    let h : AddsHidden (seen_from F M c.as_slice-2.result.now c.args.first c.args.last) R c.args.known.now.places c.sights.new.known.places = simp to_z-of_z at c.sights.ensures.known in
    subst (λ (x : Case). AddsHidden (λ rec. sight_over x rec c.args.first c.args.last) (in_force c.args.first x.almanacs) c.args.known.now.places c.sights.new.known.places) c.self.view_is
    (adds_over k c.args.first c.args.last F M c.as_slice-2.result.now R c.args.known.now.places c.sights.new.known.places e c.self.invariant.sine c.as_slice-2.ensures.value v h)

pub sights-requires-clause-rising : goal.sights-requires-clause-rising
sights-requires-clause-rising c =
    let f = c.ranges.first in
    let k : Case = case_of c.self.inside.limits c.self.inside.constellations.items c.self.inside.outages.items c.self.inside.route in
    let w : IsHere k c.args.here c.args.first = subst (λ x. IsHere x c.args.here c.args.first) (sym c.self.view_is) c.requires.here in
    let e : c.satellites.result.now ≡ in_force c.args.first k.almanacs = force_here k c.args.here.almanac c.args.first c.index.result.now c.satellites.result.now w.listed w.serves c.index.ensures c.satellites.ensures in
    rising_records k c.self.invariant.case c.satellites.result.now c.args.first e

pub sights-requires-clause-some : goal.sights-requires-clause-some
sights-requires-clause-some c =
    let f = c.ranges.first in
    let k : Case = case_of c.self.inside.limits c.self.inside.constellations.items c.self.inside.outages.items c.self.inside.route in
    let w : IsHere k c.args.here c.args.first = subst (λ x. IsHere x c.args.here c.args.first) (sym c.self.view_is) c.requires.here in
    let e : c.satellites.result.now ≡ in_force c.args.first k.almanacs = force_here k c.args.here.almanac c.args.first c.index.result.now c.satellites.result.now w.listed w.serves c.index.ensures c.satellites.ensures in
    some_records k c.self.invariant.case c.satellites.result.now c.args.first e
