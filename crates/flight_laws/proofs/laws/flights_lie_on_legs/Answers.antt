use Rattle.flight_laws.proofs.Legs.{flight_leg, one_leg}
use Rattle.flight_laws.proofs.laws.flights_lie_on_legs.Goals as goal

pub returns-clause-some_leg : goal.returns-clause-some_leg
returns-clause-some_leg c k t f = flight_leg k t f

pub returns-clause-one_leg : goal.returns-clause-one_leg
returns-clause-one_leg c k t l m i = one_leg k.route i.route.points.rising t l m
