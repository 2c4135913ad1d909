use Rattle.site_laws.proofs.LookEncloses.{look_hidden, look_visible}
use Rattle.site_laws.proofs.LookIsotone.{look_isotone, look_bounds}
use Rattle.site_laws.proofs.LookNarrow.{look_narrow}
use Rattle.site_laws.proofs.laws.looks_are_decided.Goals as goal
use Rattle.fix_interval.proofs.EndVectors.{vector_self}

pub returns-clause-hidden : goal.returns-clause-hidden
returns-clause-hidden c box sat mask n e N choice = look_hidden n e N choice

pub returns-clause-visible : goal.returns-clause-visible
returns-clause-visible c box sat mask row n e N choice = look_visible n e N choice

pub returns-clause-bound : goal.returns-clause-bound
returns-clause-bound c box sat mask row n s m e = look_bounds n (vector_self s) m.ordered e

pub returns-clause-isotone : goal.returns-clause-isotone
returns-clause-isotone c box sat mask frame wide wide_mask n f s m = look_isotone n frame wide wide_mask f s m

pub returns-clause-narrow : goal.returns-clause-narrow
returns-clause-narrow c box sat mask n s m b w v e N choice = look_narrow n s m b w v e N choice
