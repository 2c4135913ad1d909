use Rattle.flight_laws.proofs.Few.{few_everywhere}
use Rattle.flight_laws.proofs.laws.too_few_are_too_few.Goals as goal

pub returns : goal.returns
returns c shift alert_mm k t h = few_everywhere shift alert_mm k t h
