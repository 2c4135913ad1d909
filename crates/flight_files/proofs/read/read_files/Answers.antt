use Rattle.flight_files.specs.Paths.{paths_of}
use Rattle.flight_files.proofs.Settling.{settled_by, completed_by, limits_ranged}
use Rattle.flight_files.proofs.read.read_files.Goals as goal

pub returns-clause-settled : goal.returns-clause-settled
returns-clause-settled g c =
    settled_by (g.D.Desk.holds c.args.desk.now) (paths_of c.args.paths.now) (g.D.Desk.faults c.args.desk.now) (g.D.Desk.faults c.read_in_order.new.desk)
    c.read_in_order.result c.read_in_order.ensures.ok (limits_ranged c.read_in_order.result c.read_in_order.ensures.ranges) c.read_in_order.ensures.cause

pub returns-clause-complete : goal.returns-clause-complete
returns-clause-complete g c =
    completed_by (g.D.Desk.holds c.args.desk.now) (paths_of c.args.paths.now) (g.D.Desk.faults c.args.desk.now) (g.D.Desk.faults c.read_in_order.new.desk)
    c.read_in_order.result c.read_in_order.ensures.cause
