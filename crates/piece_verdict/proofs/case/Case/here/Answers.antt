use Rattle.std.proofs.Common.{◌≡◌, sym, subst, ap, ◌∙◌}
use Rattle.std.specs.Prelude.{All, ◌<◌, ◌≤ℤ◌, length}
use Rattle.std.proofs.lemmas.Int.{to_z-of_z}
use Rattle.std.proofs.lemmas.List.{length-map}
use Rattle.raim_model.specs.AlmanacInForce.{time_of}
use Rattle.raim_model.specs.Cuts.{IsCutTime}
use Rattle.raim_model.specs.Solution.{Case}
use Rattle.piece_verdict.specs.Cases.{case_of}
use Rattle.piece_verdict.specs.Here.{IsHere}
use Rattle.piece_verdict.proofs.TimeLemmas.{case_times, piece_time}
use Rattle.piece_verdict.proofs.case.Case.here.Goals as goal

pub in_force_at-almanac-requires-clause-t : goal.in_force_at-almanac-requires-clause-t
in_force_at-almanac-requires-clause-t c =
    let f = c.ranges.first in
    simp to_z-of_z (piece_time c.args.self.now c.requires.rule.case c.args.first c.args.last c.requires.rule.piece c.requires.ordered)

pub in_force_at-almanac-requires-clause-times : goal.in_force_at-almanac-requires-clause-times
in_force_at-almanac-requires-clause-times c =
    let k : Case = case_of c.self.inside.limits c.self.inside.constellations.items c.self.inside.outages.items c.self.inside.route in
    subst (λ ts. All IsCutTime ts) (c.self.invariant.of_almanacs ∙ sym c.as_slice.ensures.value) (case_times k c.self.invariant.case)

pub returns-in-None : goal.returns-in-None
returns-in-None c =
    let f = c.ranges.first in
    let k : Case = case_of c.self.inside.limits c.self.inside.constellations.items c.self.inside.outages.items c.self.inside.route in
    let t = c.self.invariant.of_almanacs ∙ sym c.as_slice.ensures.value in
    let n : length c.as_slice.result.now ≡ length k.almanacs = ap length (sym t) ∙ length-map k.almanacs time_of in
    subst (λ x. IsHere x (record { leg = c.leg-leg.result; almanac = c.in_force_at-almanac.result }) c.args.first) c.self.view_is
    (record {
      within = c.leg-leg.ensures.within;
      started = simp to_z-of_z at c.leg-leg.ensures.started;
      not_over = simp to_z-of_z at c.leg-leg.ensures.not_over;
      listed = subst (λ m. c.in_force_at-almanac.result < m) n c.in_force_at-almanac.ensures.within;
      serves = simp to_z-of_z at (c.in_force_at-almanac.ensures.exact k.almanacs t);
    })
