use Rattle.std.specs.Prelude.{ℤ}
use Rattle.std.proofs.Common.{sym, subst}
use Rattle.raim_model.specs.declared.verdict.SplitFault.TheVariants.{Overflow}
use Rattle.raim_model.specs.CaseCuts.{CutsFlight}
use Rattle.raim_model.specs.Cuts.{AreCuts}
use Rattle.raim_model.specs.Runs.{OverflowsFirst}
use Rattle.time_split.specs.Faults.{FailsExactly}
use Rattle.piece_verdict.specs.Alerts.{MayBeJudgedAgainst, verdict_against}
use Rattle.flight_forecast.proofs.Cuts.{over_flight, any_cuts}
use Rattle.flight_forecast.proofs.Forecasts.{judged_case}
use Rattle.flight_forecast.proofs.splits.runs_of.Goals as goal

pub returns-clause-overflow : goal.returns-clause-overflow
returns-clause-overflow g c = λ at prn.
    let w = verdict_against c.args.judge.now.alert c.args.judge.now.case in
    let k = c.args.judge.now.case in
    let cuts = c.as_slice.result.now in
    let parts : CutsFlight k cuts = subst (CutsFlight k) (sym c.as_slice.ensures.value) c.in-Ok.ensures.cuts in
    over_flight (λ (first end : ℤ). FailsExactly c.split_told.result (Overflow at prn) (OverflowsFirst w first end at prn)) k cuts parts (c.split_told.ensures.overflow at prn)

pub returns-clause-steps : goal.returns-clause-steps
returns-clause-steps g c = λ others others_part.
    let a = c.args.judge.now.alert in
    let k = c.args.judge.now.case in
    let cuts = c.as_slice.result.now in
    let are : AreCuts (MayBeJudgedAgainst a k) cuts = subst (AreCuts (MayBeJudgedAgainst a k)) (sym c.as_slice.ensures.value) c.in-Ok.ensures.root_pieces in
    let parts : CutsFlight k cuts = subst (CutsFlight k) (sym c.as_slice.ensures.value) c.in-Ok.ensures.cuts in
    any_cuts (verdict_against a k) k (judged_case a k cuts are) cuts parts c.args.steps.now c.split_told.new.steps c.split_told.ensures.steps others others_part
