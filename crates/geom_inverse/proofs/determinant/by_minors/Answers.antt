use Rattle.std.proofs.Common.{ap, ap₂, sym, subst, ◌∙◌, ◌*◌, ◌^◌}
use Rattle.fix_interval.specs.Ends.{Ends, IsInside}
use Rattle.fix_interval.specs.Intervals.{ends_64}
use Rattle.fix_interval.specs.Products.{narrow76_of}
use Rattle.fix_interval.specs.Ranges.{around}
use Rattle.geom_laws.specs.Determinant.{MinorEnds, minor_of, laplace_of, det_of}
use Rattle.geom_laws.proofs.Bounds.{det_within}
use Rattle.geom_inverse.specs.Lines.{entries_ends}
use Rattle.geom_inverse.proofs.Commuted.{crossed_turned}
use Rattle.geom_inverse.proofs.Spans.{entries_within, inside_iv}
use Rattle.geom_inverse.proofs.determinant.by_minors.Goals as goal

pub minors_from-requires-clause-first : goal.minors_from-requires-clause-first
minors_from-requires-clause-first c =
    ap (λ (t : MinorEnds). t.m34) c.minors-above.ensures
    ∙ crossed_turned (ends_64 c.args.h.now.a13) (ends_64 c.args.h.now.a24) (ends_64 c.args.h.now.a14) (ends_64 c.args.h.now.a23)

pub returns-clause-exact : goal.returns-clause-exact
unfolding det_of minor_of
returns-clause-exact c = c.narrow76.ensures.exact ∙ ap narrow76_of (c.laplace.ensures.exact ∙ ap₂ laplace_of c.minors-above.ensures c.minors_from.ensures)

pub returns-clause-small : goal.returns-clause-small
returns-clause-small c = inside_iv (subst (λ (t : Ends). IsInside t (around (7 * 2 ^ 60))) (sym (returns-clause-exact c)) (det_within (entries_ends c.args.h.now) (entries_within c.args.h.now)))
