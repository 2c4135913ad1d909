use Rattle.std.proofs.Common.{ap, ap₂, sym, subst, ◌∙◌, ◌*◌, ◌^◌}
use Rattle.geometry_laws.specs.Minors.{adjugate}
use Rattle.geom_laws.specs.Symmetric.{SymEnds, SymLies, SymInside, SymWithin}
use Rattle.geom_laws.specs.Determinant.{minor_of}
use Rattle.fix_interval.specs.Sums.{neg_of}
use Rattle.geom_laws.specs.Adjugate.{minor3_of, adjugate_of}
use Rattle.geom_laws.proofs.Adjugates.{adjugate_lies, adjugate_inside}
use Rattle.geom_laws.proofs.Bounds.{adjugate_within}
use Rattle.geom_inverse.specs.Views.{sym_ends}
use Rattle.geom_inverse.specs.Lines.{line_minors, along_east, along_north, along_up, along_clock}
use Rattle.geom_inverse.proofs.Spans.{sym_inside, inside_sym}
use Rattle.geom_inverse.proofs.RowSums.{same_sym}
use Rattle.geom_inverse.proofs.cofactors.adjugate.Goals as goal

pub returns-clause-exact : goal.returns-clause-exact
unfolding adjugate_of minor3_of minor_of
returns-clause-exact c =
    let below = c.minors-below.ensures ∙ ap₂ line_minors c.line-up.ensures c.line-clock.ensures in
    let around = c.minors-around.ensures ∙ ap₂ line_minors c.line-north.ensures c.line-clock.ensures in
    let above = c.minors-above.ensures ∙ ap₂ line_minors c.line-north.ensures c.line-up.ensures in
    same_sym
    (c.without_east.ensures.exact ∙ ap₂ along_east c.line-north.ensures below)
    (c.negative.ensures ∙ ap neg_of (c.without_north.ensures.exact ∙ ap₂ along_north c.line-north.ensures below))
    (c.without_up.ensures.exact ∙ ap₂ along_up c.line-north.ensures below)
    (c.negative-2.ensures ∙ ap neg_of (c.without_clock.ensures.exact ∙ ap₂ along_clock c.line-north.ensures below))
    (c.without_north-2.ensures.exact ∙ ap₂ along_north c.line-east.ensures below)
    (c.negative-3.ensures ∙ ap neg_of (c.without_up-2.ensures.exact ∙ ap₂ along_up c.line-east.ensures below))
    (c.without_clock-2.ensures.exact ∙ ap₂ along_clock c.line-east.ensures below)
    (c.without_up-3.ensures.exact ∙ ap₂ along_up c.line-east.ensures around)
    (c.negative-4.ensures ∙ ap neg_of (c.without_clock-3.ensures.exact ∙ ap₂ along_clock c.line-east.ensures around))
    (c.without_clock-4.ensures.exact ∙ ap₂ along_clock c.line-east.ensures above)

pub returns-clause-encloses : goal.returns-clause-encloses
returns-clause-encloses c X v = subst (λ (t : SymEnds). SymLies t (adjugate X)) (sym (returns-clause-exact c)) (adjugate_lies (sym_ends c.args.h.now) X v)

pub returns-clause-isotone : goal.returns-clause-isotone
returns-clause-isotone c wider v = subst (λ (t : SymEnds). SymInside t (adjugate_of wider)) (sym (returns-clause-exact c)) (adjugate_inside (sym_ends c.args.h.now) wider v)

pub returns-clause-small : goal.returns-clause-small
returns-clause-small c = inside_sym (subst (λ (t : SymEnds). SymWithin t (13 * 2 ^ 52)) (sym (returns-clause-exact c)) (adjugate_within (sym_ends c.args.h.now) (sym_inside c.requires.small)))
