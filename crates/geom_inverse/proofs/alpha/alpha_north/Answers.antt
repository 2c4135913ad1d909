use Rattle.std.proofs.Common.{sym, subst, ◌*◌, ◌^◌}
use Rattle.raim_model.specs.Geometry.{North, apply}
use Rattle.fix_interval.specs.Ends.{Ends, IsInside}
use Rattle.fix_interval.specs.Lies.{Lies}
use Rattle.fix_interval.specs.Ranges.{around}
use Rattle.geom_laws.specs.Adjugate.{alpha_of}
use Rattle.geom_laws.proofs.Adjugates.{alpha_lies, alpha_inside}
use Rattle.geom_laws.proofs.Bounds.{alpha_within}
use Rattle.geom_inverse.specs.Views.{row_ends, sym_ends}
use Rattle.geom_inverse.proofs.Spans.{inside_iv, sym_inside, row_within}
use Rattle.geom_inverse.proofs.alpha.alpha_north.Goals as goal

pub returns-clause-exact : goal.returns-clause-exact
unfolding alpha_of
returns-clause-exact c = c.inner.ensures

pub returns-clause-encloses : goal.returns-clause-encloses
returns-clause-encloses c X g v w = subst (λ (t : Ends). Lies t 38 (apply X g North)) (sym (returns-clause-exact c)) (alpha_lies (sym_ends c.args.adj.now) (row_ends c.args.row.now) X g North v w)

pub returns-clause-isotone : goal.returns-clause-isotone
returns-clause-isotone c a r v w = subst (λ (t : Ends). IsInside t (alpha_of a r North)) (sym (returns-clause-exact c)) (alpha_inside (sym_ends c.args.adj.now) a (row_ends c.args.row.now) r North v w)

pub returns-clause-small : goal.returns-clause-small
returns-clause-small c = inside_iv (subst (λ (t : Ends). IsInside t (around (7 * 2 ^ 55))) (sym (returns-clause-exact c)) (alpha_within (sym_ends c.args.adj.now) (row_ends c.args.row.now) North (sym_inside c.requires.small) (row_within c.args.row.now)))
