use Rattle.flight_forecast.proofs.Covers.{covers}
use Rattle.flight_forecast.proofs.laws.runs_cover_a_span_in_order.Goals as goal

pub returns : goal.returns
returns c w span runs some h = covers w span runs some h
