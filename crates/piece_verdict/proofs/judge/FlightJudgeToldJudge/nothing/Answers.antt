use Rattle.piece_verdict.proofs.judge.FlightJudgeToldJudge.nothing.Goals as goal

pub returns : goal.returns
returns c first last rule = c.nothing.ensures.knows c.args.self.now.alert c.args.self.now.case first last
