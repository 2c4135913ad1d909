use Rattle.std.proofs.Common.{◌≡◌, sym, subst}
use Rattle.std.proofs.lemmas.Int.{to_z-of_z}
use Rattle.raim_model.specs.declared.almanac.AlmRecord.{AlmRecord}
use Rattle.raim_model.specs.CaseCuts.{MayBeJudged}
use Rattle.raim_model.specs.Solution.{Case}
use Rattle.wgs_position.specs.Frames.{frame_ends}
use Rattle.case_laws.specs.SightOver.{mask_of, sight_over}
use Rattle.piece_verdict.specs.Cases.{case_of}
use Rattle.piece_verdict.specs.Views.{seen_from}
use Rattle.piece_verdict.proofs.FromLeg.{seen_from_leg}
use Rattle.piece_verdict.specs.LegLaws.{through, leg_by_index}
use Rattle.piece_verdict.specs.Here.{IsHere}
use Rattle.piece_verdict.proofs.case.Case.receiver.Goals as goal

pub place_over-requires-clause-leg : goal.place_over-requires-clause-leg
place_over-requires-clause-leg c =
    let f = c.ranges.first in
    let l = c.ranges.last in
    let k : Case = case_of c.self.inside.limits c.self.inside.constellations.items c.self.inside.outages.items c.self.inside.route in
    let h : IsHere k c.args.here c.args.first = subst (λ x. IsHere x c.args.here c.args.first) (sym c.self.view_is) c.requires.here in
    h.within

pub place_over-requires-clause-started : goal.place_over-requires-clause-started
place_over-requires-clause-started c =
    let f = c.ranges.first in
    let l = c.ranges.last in
    let k : Case = case_of c.self.inside.limits c.self.inside.constellations.items c.self.inside.outages.items c.self.inside.route in
    let h : IsHere k c.args.here c.args.first = subst (λ x. IsHere x c.args.here c.args.first) (sym c.self.view_is) c.requires.here in
    simp to_z-of_z h.started

pub place_over-requires-clause-not_over : goal.place_over-requires-clause-not_over
place_over-requires-clause-not_over c =
    let f = c.ranges.first in
    let l = c.ranges.last in
    let k : Case = case_of c.self.inside.limits c.self.inside.constellations.items c.self.inside.outages.items c.self.inside.route in
    let h : IsHere k c.args.here c.args.first = subst (λ x. IsHere x c.args.here c.args.first) (sym c.self.view_is) c.requires.here in
    let p : MayBeJudged k c.args.first c.args.last = subst (λ x. MayBeJudged x c.args.first c.args.last) (sym c.self.view_is) c.requires.rule in
    simp to_z-of_z (through k c.args.first c.args.last p.piece c.requires.ordered c.args.here.leg h.within h.started h.not_over)

pub returns-clause-exact : goal.returns-clause-exact
returns-clause-exact c =
    let f = c.ranges.first in
    let l = c.ranges.last in
    let k : Case = case_of c.self.inside.limits c.self.inside.constellations.items c.self.inside.outages.items c.self.inside.route in
    let h : IsHere k c.args.here c.args.first = subst (λ x. IsHere x c.args.here c.args.first) (sym c.self.view_is) c.requires.here in
    let box = simp to_z-of_z at c.place_over.ensures.exact in
    subst (λ (x : Case). (rec : AlmRecord) → seen_from (frame_ends c.frame.result) (mask_of x.limits) x.limits.weights.items c.args.first c.args.last rec ≡ sight_over x rec c.args.first c.args.last) c.self.view_is
    (seen_from_leg k c.args.first c.args.last c.args.here.leg h.within (frame_ends c.frame.result) _ (λ d. leg_by_index k.route c.self.invariant.case.route c.args.here.leg c.args.first d h.within h.started h.not_over) box c.frame.ensures.exact)
