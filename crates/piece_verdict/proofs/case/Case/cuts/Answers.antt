use Rattle.std.proofs.Common.{sym, subst, ◌∙◌}
use Rattle.std.specs.Prelude.{All}
use Rattle.raim_model.specs.CaseCuts.{CutsFlight, MayBeJudged}
use Rattle.raim_model.specs.Cuts.{AreCuts, IsCutTime}
use Rattle.raim_model.specs.Solution.{Case}
use Rattle.flight_laws.proofs.Cuts.{judged_cuts}
use Rattle.piece_verdict.specs.Cases.{case_of}
use Rattle.piece_verdict.proofs.CutLemmas.{cuts_are}
use Rattle.piece_verdict.proofs.TimeLemmas.{case_times}
use Rattle.piece_verdict.proofs.case.Case.cuts.Goals as goal

pub cuts_of-requires : goal.cuts_of-requires
cuts_of-requires c =
    let k : Case = case_of c.self.inside.limits c.self.inside.constellations.items c.self.inside.outages.items c.self.inside.route in
    subst (λ ts. All IsCutTime ts) (c.self.invariant.of_almanacs ∙ sym c.as_slice-2.ensures.value) (case_times k c.self.invariant.case)

pub returns-in-Ok-clause-cuts : goal.returns-in-Ok-clause-cuts
returns-in-Ok-clause-cuts c =
    let k : Case = case_of c.self.inside.limits c.self.inside.constellations.items c.self.inside.outages.items c.self.inside.route in
    subst (λ x. CutsFlight x c.in-Ok.cuts.items) c.self.view_is (cuts_are k c.self.invariant.case.route _ _ c.in-Ok.cuts.items c.as_slice.ensures.value (c.self.invariant.of_almanacs ∙ sym c.as_slice-2.ensures.value) c.in-Ok.ensures)

pub returns-in-Ok-clause-root_pieces : goal.returns-in-Ok-clause-root_pieces
returns-in-Ok-clause-root_pieces c =
    let k : Case = case_of c.self.inside.limits c.self.inside.constellations.items c.self.inside.outages.items c.self.inside.route in
    subst (λ x. AreCuts (MayBeJudged x) c.in-Ok.cuts.items) c.self.view_is
    (judged_cuts k c.self.invariant.case c.in-Ok.cuts.items (cuts_are k c.self.invariant.case.route _ _ c.in-Ok.cuts.items c.as_slice.ensures.value (c.self.invariant.of_almanacs ∙ sym c.as_slice-2.ensures.value) c.in-Ok.ensures))
