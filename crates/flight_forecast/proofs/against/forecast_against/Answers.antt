use Rattle.std.specs.Prelude.{◌≡◌, ◌⊎◌, ◌+◌, ◌≤◌, ℤ, List}
use Rattle.std.proofs.Common.{subst}
use Rattle.raim_model.specs.CaseCuts.{CutsFlight}
use Rattle.raim_model.specs.CaseRanges.{IsCase}
use Rattle.raim_model.specs.Cuts.{judgements_of_all}
use Rattle.raim_model.specs.Solution.{Case}
use Rattle.piece_verdict.specs.Cases.{case_of}
use Rattle.flight_forecast.specs.Alerts.{verdict_against}
use Rattle.flight_forecast.specs.Steps.{HasCuts}
use Rattle.flight_forecast.proofs.ForecastAnswers.{IsSplit, said}
use Rattle.flight_forecast.proofs.Forecasts.{is_case, has_solution}
use Rattle.flight_forecast.proofs.against.forecast_against.Goals as goal

pub returns-in_default-clause-exists : goal.returns-in_default-clause-exists
returns-in_default-clause-exists g c =
    let k = case_of c.args.limits c.args.almanacs.items c.args.outages.items c.args.route in
    let i : IsCase k = is_case c.args.limits c.args.almanacs.items c.args.outages.items c.args.route c.requires.limits c.requires.almanacs c.requires.outages c.len-points.ensures.route in
    has_solution k i

pub returns-clause-forecast : goal.returns-clause-forecast
returns-clause-forecast g c =
    let k = case_of c.args.limits c.args.almanacs.items c.args.outages.items c.args.route in
    let i : IsCase k = is_case c.args.limits c.args.almanacs.items c.args.outages.items c.args.route c.requires.limits c.requires.almanacs c.requires.outages c.len-points.ensures.route in
    let split : IsSplit c.args.alert c.in-Ok.case c.runs_against.result = record { runs = c.runs_against.ensures.runs; too_many = c.runs_against.ensures.too_many; overflow = c.runs_against.ensures.overflow } in
    (said c.args.alert c.requires.alert k c.in-Ok.case i c.in-Ok.ensures c.runs_against.result split).forecast

pub returns-clause-runs : goal.returns-clause-runs
returns-clause-runs g c =
    let k = case_of c.args.limits c.args.almanacs.items c.args.outages.items c.args.route in
    let i : IsCase k = is_case c.args.limits c.args.almanacs.items c.args.outages.items c.args.route c.requires.limits c.requires.almanacs c.requires.outages c.len-points.ensures.route in
    let split : IsSplit c.args.alert c.in-Ok.case c.runs_against.result = record { runs = c.runs_against.ensures.runs; too_many = c.runs_against.ensures.too_many; overflow = c.runs_against.ensures.overflow } in
    (said c.args.alert c.requires.alert k c.in-Ok.case i c.in-Ok.ensures c.runs_against.result split).runs

pub returns-clause-in_order : goal.returns-clause-in_order
returns-clause-in_order g c =
    let k = case_of c.args.limits c.args.almanacs.items c.args.outages.items c.args.route in
    let i : IsCase k = is_case c.args.limits c.args.almanacs.items c.args.outages.items c.args.route c.requires.limits c.requires.almanacs c.requires.outages c.len-points.ensures.route in
    let split : IsSplit c.args.alert c.in-Ok.case c.runs_against.result = record { runs = c.runs_against.ensures.runs; too_many = c.runs_against.ensures.too_many; overflow = c.runs_against.ensures.overflow } in
    (said c.args.alert c.requires.alert k c.in-Ok.case i c.in-Ok.ensures c.runs_against.result split).in_order

pub returns-clause-right : goal.returns-clause-right
returns-clause-right g c =
    let k = case_of c.args.limits c.args.almanacs.items c.args.outages.items c.args.route in
    let i : IsCase k = is_case c.args.limits c.args.almanacs.items c.args.outages.items c.args.route c.requires.limits c.requires.almanacs c.requires.outages c.len-points.ensures.route in
    let split : IsSplit c.args.alert c.in-Ok.case c.runs_against.result = record { runs = c.runs_against.ensures.runs; too_many = c.runs_against.ensures.too_many; overflow = c.runs_against.ensures.overflow } in
    (said c.args.alert c.requires.alert k c.in-Ok.case i c.in-Ok.ensures c.runs_against.result split).right

pub returns-clause-undecided : goal.returns-clause-undecided
returns-clause-undecided g c =
    let k = case_of c.args.limits c.args.almanacs.items c.args.outages.items c.args.route in
    let i : IsCase k = is_case c.args.limits c.args.almanacs.items c.args.outages.items c.args.route c.requires.limits c.requires.almanacs c.requires.outages c.len-points.ensures.route in
    let split : IsSplit c.args.alert c.in-Ok.case c.runs_against.result = record { runs = c.runs_against.ensures.runs; too_many = c.runs_against.ensures.too_many; overflow = c.runs_against.ensures.overflow } in
    (said c.args.alert c.requires.alert k c.in-Ok.case i c.in-Ok.ensures c.runs_against.result split).undecided

pub returns-clause-near : goal.returns-clause-near
returns-clause-near g c =
    let k = case_of c.args.limits c.args.almanacs.items c.args.outages.items c.args.route in
    let i : IsCase k = is_case c.args.limits c.args.almanacs.items c.args.outages.items c.args.route c.requires.limits c.requires.almanacs c.requires.outages c.len-points.ensures.route in
    let split : IsSplit c.args.alert c.in-Ok.case c.runs_against.result = record { runs = c.runs_against.ensures.runs; too_many = c.runs_against.ensures.too_many; overflow = c.runs_against.ensures.overflow } in
    (said c.args.alert c.requires.alert k c.in-Ok.case i c.in-Ok.ensures c.runs_against.result split).near

pub returns-clause-within : goal.returns-clause-within
returns-clause-within g c =
    let k = case_of c.args.limits c.args.almanacs.items c.args.outages.items c.args.route in
    let i : IsCase k = is_case c.args.limits c.args.almanacs.items c.args.outages.items c.args.route c.requires.limits c.requires.almanacs c.requires.outages c.len-points.ensures.route in
    let split : IsSplit c.args.alert c.in-Ok.case c.runs_against.result = record { runs = c.runs_against.ensures.runs; too_many = c.runs_against.ensures.too_many; overflow = c.runs_against.ensures.overflow } in
    (said c.args.alert c.requires.alert k c.in-Ok.case i c.in-Ok.ensures c.runs_against.result split).within

pub returns-clause-printable : goal.returns-clause-printable
returns-clause-printable g c =
    let k = case_of c.args.limits c.args.almanacs.items c.args.outages.items c.args.route in
    let i : IsCase k = is_case c.args.limits c.args.almanacs.items c.args.outages.items c.args.route c.requires.limits c.requires.almanacs c.requires.outages c.len-points.ensures.route in
    let split : IsSplit c.args.alert c.in-Ok.case c.runs_against.result = record { runs = c.runs_against.ensures.runs; too_many = c.runs_against.ensures.too_many; overflow = c.runs_against.ensures.overflow } in
    (said c.args.alert c.requires.alert k c.in-Ok.case i c.in-Ok.ensures c.runs_against.result split).printable

pub returns-clause-overflow : goal.returns-clause-overflow
returns-clause-overflow g c =
    let k = case_of c.args.limits c.args.almanacs.items c.args.outages.items c.args.route in
    let i : IsCase k = is_case c.args.limits c.args.almanacs.items c.args.outages.items c.args.route c.requires.limits c.requires.almanacs c.requires.outages c.len-points.ensures.route in
    let split : IsSplit c.args.alert c.in-Ok.case c.runs_against.result = record { runs = c.runs_against.ensures.runs; too_many = c.runs_against.ensures.too_many; overflow = c.runs_against.ensures.overflow } in
    (said c.args.alert c.requires.alert k c.in-Ok.case i c.in-Ok.ensures c.runs_against.result split).overflow

pub returns-clause-too_many : goal.returns-clause-too_many
returns-clause-too_many g c =
    let k = case_of c.args.limits c.args.almanacs.items c.args.outages.items c.args.route in
    let i : IsCase k = is_case c.args.limits c.args.almanacs.items c.args.outages.items c.args.route c.requires.limits c.requires.almanacs c.requires.outages c.len-points.ensures.route in
    let split : IsSplit c.args.alert c.in-Ok.case c.runs_against.result = record { runs = c.runs_against.ensures.runs; too_many = c.runs_against.ensures.too_many; overflow = c.runs_against.ensures.overflow } in
    (said c.args.alert c.requires.alert k c.in-Ok.case i c.in-Ok.ensures c.runs_against.result split).too_many

pub returns-clause-settled : goal.returns-clause-settled
returns-clause-settled g c =
    let k = case_of c.args.limits c.args.almanacs.items c.args.outages.items c.args.route in
    let i : IsCase k = is_case c.args.limits c.args.almanacs.items c.args.outages.items c.args.route c.requires.limits c.requires.almanacs c.requires.outages c.len-points.ensures.route in
    let split : IsSplit c.args.alert c.in-Ok.case c.runs_against.result = record { runs = c.runs_against.ensures.runs; too_many = c.runs_against.ensures.too_many; overflow = c.runs_against.ensures.overflow } in
    (said c.args.alert c.requires.alert k c.in-Ok.case i c.in-Ok.ensures c.runs_against.result split).settled

pub returns-clause-exists : goal.returns-clause-exists
returns-clause-exists g c =
    let k = case_of c.args.limits c.args.almanacs.items c.args.outages.items c.args.route in
    let i : IsCase k = is_case c.args.limits c.args.almanacs.items c.args.outages.items c.args.route c.requires.limits c.requires.almanacs c.requires.outages c.len-points.ensures.route in
    has_solution k i

pub returns-clause-steps : goal.returns-clause-steps
returns-clause-steps g c =
    let k = case_of c.args.limits c.args.almanacs.items c.args.outages.items c.args.route in
    subst (λ (x : Case). (cuts : List ℤ) → CutsFlight x cuts → c.runs_against.new.steps ≤ c.args.steps.now + judgements_of_all (verdict_against c.args.alert x) cuts) {y = k} c.in-Ok.ensures c.runs_against.ensures.steps

pub returns-clause-cut : goal.returns-clause-cut
returns-clause-cut g c =
    let k = case_of c.args.limits c.args.almanacs.items c.args.outages.items c.args.route in
    subst (λ (x : Case). (c.runs_against.new.steps ≡ c.args.steps.now) ⊎ HasCuts x) {y = k} c.in-Ok.ensures c.runs_against.ensures.cut
