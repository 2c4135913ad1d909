use Rattle.std.proofs.Common.{◌≡◌, subst, ◌∙◌}
use Rattle.std.proofs.lemmas.Int.{to_z-of_z}
use Rattle.raim_model.specs.Judgements.{Answers}
use Rattle.piece_verdict.specs.Alerts.{verdict_against, verdict_knowing}
use Rattle.piece_verdict.specs.HiddenLaws.{verdict_plainly}
use Rattle.piece_verdict.proofs.Judged.{judged_right, judged_solution, judged_near}
use Rattle.piece_verdict.proofs.judge.FlightJudgeJudge.judge.Goals as goal

pub returns-clause-answer : goal.returns-clause-answer
returns-clause-answer g c =
    let f = c.ranges.first in
    let l = c.ranges.last in
    let v : c.verdict-verdict.result ≡ verdict_knowing c.args.self.now.alert c.args.self.now.case c.nothing-known.result.hidden.places c.args.first c.args.last = simp to_z-of_z at c.verdict-verdict.ensures.value in
    let w : c.verdict-verdict.result ≡ verdict_against c.args.self.now.alert c.args.self.now.case c.args.first c.args.last = v ∙ verdict_plainly c.args.self.now.alert c.args.self.now.case c.nothing-known.result.hidden.places c.args.first c.args.last c.nothing-known.ensures.none in
    subst (λ x. Answers c.args.first c.args.last x c.answer.result) w (simp to_z-of_z at c.answer.ensures)

pub returns-clause-right : goal.returns-clause-right
returns-clause-right g c u t e certain low high =
    let f = c.ranges.first in
    let l = c.ranges.last in
    let v : c.verdict-verdict.result ≡ verdict_knowing c.args.self.now.alert c.args.self.now.case c.nothing-known.result.hidden.places c.args.first c.args.last = simp to_z-of_z at c.verdict-verdict.ensures.value in
    let w : c.verdict-verdict.result ≡ verdict_against c.args.self.now.alert c.args.self.now.case c.args.first c.args.last = v ∙ verdict_plainly c.args.self.now.alert c.args.self.now.case c.nothing-known.result.hidden.places c.args.first c.args.last c.nothing-known.ensures.none in
    let a : Answers c.args.first c.args.last c.verdict-verdict.result c.answer.result = simp to_z-of_z at c.answer.ensures in
    judged_right c.args.self.now.alert c.args.self.now.case c.args.first c.args.last c.requires.rule c.answer.result (subst (λ x. Answers c.args.first c.args.last x c.answer.result) w a) u t e certain low high

pub returns-clause-exists : goal.returns-clause-exists
returns-clause-exists g c N t low high = judged_solution c.args.self.now.case c.args.first c.args.last c.requires.rule.judged N t low high

pub returns-clause-near : goal.returns-clause-near
returns-clause-near g c prn e =
    let f = c.ranges.first in
    let l = c.ranges.last in
    let v : c.verdict-verdict.result ≡ verdict_knowing c.args.self.now.alert c.args.self.now.case c.nothing-known.result.hidden.places c.args.first c.args.last = simp to_z-of_z at c.verdict-verdict.ensures.value in
    let w : c.verdict-verdict.result ≡ verdict_against c.args.self.now.alert c.args.self.now.case c.args.first c.args.last = v ∙ verdict_plainly c.args.self.now.alert c.args.self.now.case c.nothing-known.result.hidden.places c.args.first c.args.last c.nothing-known.ensures.none in
    let a : Answers c.args.first c.args.last c.verdict-verdict.result c.answer.result = simp to_z-of_z at c.answer.ensures in
    judged_near c.args.self.now.alert c.args.self.now.case c.args.first c.args.last c.requires.rule c.answer.result (subst (λ x. Answers c.args.first c.args.last x c.answer.result) w a) prn e

pub verdict-verdict-requires-clause-known : goal.verdict-verdict-requires-clause-known
verdict-verdict-requires-clause-known g c =
    let f = c.ranges.first in
    let l = c.ranges.last in
    simp to_z-of_z (c.nothing-known.ensures.knows c.args.self.now.alert c.args.self.now.case c.args.first c.args.last)
