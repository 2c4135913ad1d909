use Rattle.std.proofs.Common.{arith}
use Rattle.std.proofs.lemmas.Int.{ints}
use Rattle.raim_model.specs.Route.{flight_of}
use Rattle.flight_laws.proofs.Cuts.{flight_times}
use Rattle.time_laws.proofs.FaultLemmas.{answer_comes}
use Rattle.case_laws.specs.PieceVerdict.{piece_verdict_of}
use Rattle.flight_forecast.proofs.laws.a_flight_has_an_answer.Goals as goal

pub returns : goal.returns
returns c k i =
    let times = flight_times k i in
    let some = times.some in
    answer_comes (piece_verdict_of k) (flight_of k.route).first (flight_of k.route).end (omega (arith, ints))
