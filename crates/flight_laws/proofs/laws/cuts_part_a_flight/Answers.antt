use Rattle.flight_laws.proofs.Usable.{judged_inside}
use Rattle.flight_laws.proofs.Cuts.{judged_cuts, between_in_root, root_between}
use Rattle.flight_laws.proofs.OneList.{one_list}
use Rattle.flight_laws.proofs.laws.cuts_part_a_flight.Goals as goal

pub returns-clause-cuts : goal.returns-clause-cuts
returns-clause-cuts c k cuts i h = judged_cuts k i cuts h

pub returns-clause-root_pieces : goal.returns-clause-root_pieces
returns-clause-root_pieces c k cuts first last i h o = (root_between k cuts h first last o, between_in_root k i cuts h first last)

pub returns-clause-inherits : goal.returns-clause-inherits
returns-clause-inherits c k first last a b p low high = judged_inside k first last a b p low high

pub returns-clause-one_list : goal.returns-clause-one_list
returns-clause-one_list c k cuts others i a b = one_list k i cuts others a b
