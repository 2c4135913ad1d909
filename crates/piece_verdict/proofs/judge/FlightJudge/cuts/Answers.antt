use Rattle.piece_verdict.proofs.JudgedCuts.{root_pieces_against}
use Rattle.piece_verdict.proofs.judge.FlightJudge.cuts.Goals as goal

pub returns-clause-root_pieces : goal.returns-clause-root_pieces
returns-clause-root_pieces c = root_pieces_against (λ cuts. cuts.items) c.args.self.now.alert c.args.self.now.case c.requires c.cuts.result c.cuts.ensures.root_pieces
