use Rattle.std.proofs.Common.{◌≡◌, subst}
use Rattle.std.proofs.lemmas.Int.{to_z-of_z}
use Rattle.raim_model.specs.Judgements.{Answers}
use Rattle.piece_verdict.specs.Alerts.{verdict_knowing}
use Rattle.piece_verdict.proofs.Judged.{answers_knowing}
use Rattle.piece_verdict.proofs.judge.FlightJudgeToldJudge.judge_told.Goals as goal

pub returns-clause-answer : goal.returns-clause-answer
returns-clause-answer g c =
    let f = c.ranges.first in
    let l = c.ranges.last in
    let w : c.verdict-verdict.result ≡ verdict_knowing c.args.self.now.alert c.args.self.now.case c.args.known.hidden.places c.args.first c.args.last = simp to_z-of_z at c.verdict-verdict.ensures.value in
    let a : Answers c.args.first c.args.last c.verdict-verdict.result c.answer.result = simp to_z-of_z at c.answer.ensures in
    answers_knowing c.args.self.now.alert c.args.self.now.case c.args.known.hidden.places c.args.first c.args.last c.requires.rule c.requires.ordered c.requires.known.hidden c.answer.result
    (subst (λ x. Answers c.args.first c.args.last x c.answer.result) w a)
