use Rattle.flight_laws.proofs.Usable.{force_same, usable_same}
use Rattle.flight_laws.proofs.Legs.{leg_through}
use Rattle.flight_laws.proofs.laws.nothing_changes_in_a_root_piece.Goals as goal

pub returns-clause-in_force : goal.returns-clause-in_force
returns-clause-in_force c k first last t p low high = force_same k first last t p low high

pub returns-clause-usable : goal.returns-clause-usable
returns-clause-usable c k first last t p low high = usable_same k first last t p low high

pub returns-clause-leg : goal.returns-clause-leg
returns-clause-leg c k first last t l p low high = leg_through k first last t p low high l
