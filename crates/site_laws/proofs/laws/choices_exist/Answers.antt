use Rattle.site_laws.proofs.LookEncloses.{has_choice}
use Rattle.site_laws.proofs.laws.choices_exist.Goals as goal
use Rattle.fix_interval.proofs.EndVectors.{vector_self}

pub returns : goal.returns
returns c N box sat mask n s m = has_choice N box sat mask n (vector_self s) m.ordered
