use Rattle.std.proofs.Common.{ap, sym, subst, ◌∙◌}
use Rattle.raim_model.specs.Geometry.{determinant}
use Rattle.fix_interval.specs.Ends.{Ends, IsInside}
use Rattle.fix_interval.specs.Lies.{Lies}
use Rattle.geom_laws.specs.Determinant.{det_of}
use Rattle.geom_laws.proofs.Minors.{det_lies, det_inside}
use Rattle.geom_inverse.specs.Views.{sym_ends}
use Rattle.geom_inverse.proofs.determinant.det.Goals as goal

pub returns-clause-exact : goal.returns-clause-exact
returns-clause-exact c = c.by_minors.ensures.exact ∙ ap det_of c.entries.ensures

pub returns-clause-encloses : goal.returns-clause-encloses
returns-clause-encloses c X v = subst (λ (t : Ends). Lies t 38 (determinant X)) (sym (returns-clause-exact c)) (det_lies (sym_ends c.args.h.now) X v)

pub returns-clause-isotone : goal.returns-clause-isotone
returns-clause-isotone c wider v = subst (λ (t : Ends). IsInside t (det_of wider)) (sym (returns-clause-exact c)) (det_inside (sym_ends c.args.h.now) wider v)
