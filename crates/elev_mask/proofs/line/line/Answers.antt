use Rattle.std.proofs.Common.{sym, subst}
use Rattle.site_laws.specs.Sights.{line_of, widest_line}
use Rattle.site_laws.proofs.LookBounds.{line_within}
use Rattle.elev_mask.proofs.Parts.{same_vector}
use Rattle.elev_mask.proofs.line.line.Goals as goal
use Rattle.fix_interval.specs.Vectors.{VectorInside}

pub returns-clause-exact : goal.returns-clause-exact
unfolding line_of
returns-clause-exact c = same_vector c.sub.ensures.exact c.sub-2.ensures.exact c.sub-3.ensures.exact

pub returns-clause-bound : goal.returns-clause-bound
returns-clause-bound c = subst (λ v. VectorInside v widest_line) (sym (returns-clause-exact c)) (line_within c.requires.position c.requires.sat)
