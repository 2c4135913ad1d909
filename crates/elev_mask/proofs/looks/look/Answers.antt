use Rattle.std.proofs.Common.{ap, ap₂, sym, ◌∙◌, subst, pos, ◌^◌, ◌≤ℤ◌}
use Rattle.fix_interval.specs.Intervals.{ends}
use Rattle.fix_interval.specs.Vectors.{VectorInside, vector_ends}
use Rattle.site_laws.specs.Frames.{widest_frame}
use Rattle.site_laws.specs.Sights.{line_of, dot_of, shares_of, full_vector, IsDirection, visible}
use Rattle.site_laws.proofs.LookIsotone.{far_of_seen}
use Rattle.wgs_position.specs.Frames.{frame_ends}
use Rattle.elev_mask.specs.Components.{component_ends}
use Rattle.elev_mask.proofs.Decisions.{look-parts, sight-hidden, sight-visible, sight-straddle, frame_within, shares_meet, hidden_from, visible_from, bound_from, isotone_from, narrow_from}
use Rattle.elev_mask.proofs.looks.look.Goals as goal

pub line-line-requires-clause-position : goal.line-line-requires-clause-position
line-line-requires-clause-position c = subst (λ v. VectorInside v widest_frame.position) (sym c.named.ensures) (frame_within c.requires.frame).position

pub dot-up-requires-clause-direction : goal.dot-up-requires-clause-direction
dot-up-requires-clause-direction c = subst (λ v. VectorInside v full_vector) (sym c.named-3.ensures) (frame_within c.requires.frame).up

pub direction-requires-clause-east : goal.direction-requires-clause-east
direction-requires-clause-east c = subst (λ v. VectorInside v full_vector) (sym c.named-east.ensures) (frame_within c.requires.frame).east

pub direction-requires-clause-north : goal.direction-requires-clause-north
direction-requires-clause-north c = subst (λ v. VectorInside v full_vector) (sym c.named-north.ensures) (frame_within c.requires.frame).north

pub direction-requires-clause-meets : goal.direction-requires-clause-meets
direction-requires-clause-meets c =
    let d = component_ends c.line-line.result in
    let R = ends c.length-range.result in
    let U = ends c.dot-up.result in
    let far : pos (2 ^ 38) ≤ℤ c.length-range.result.lo = far_of_seen R U (ends c.least-least.result) (sym c.seen.ensures ∙ c.if-seen.true) in
    let m : IsDirection (shares_of (vector_ends c.args.frame.now.east) (vector_ends c.args.frame.now.north) d R U) =
    shares_meet {f = frame_ends c.args.frame.now} {s = vector_ends c.args.sat.now} {d = d} {m = ends c.args.mask} {R = R} {U = U} c.requires.frame c.requires.sat c.requires.mask
    (c.line-line.ensures.exact ∙ ap₂ line_of c.named.ensures c.named-2.ensures) c.length-range.ensures.exact (c.dot-up.ensures.exact ∙ ap (λ t. dot_of t d) c.named-3.ensures) far in
    rw (c.named-east.ensures, c.named-north.ensures) m

pub returns-then-hidden-clause-exact : goal.returns-then-hidden-clause-exact
returns-then-hidden-clause-exact c =
    let d = component_ends c.line-line.result in
    sight-hidden (frame_ends c.args.frame.now) d (ends c.length-range.result) (ends c.dot-up.result) (ends c.least-least.result) (sym c.hidden.ensures ∙ c.if-hidden.true)
    ∙ look-parts (frame_ends c.args.frame.now) (vector_ends c.args.sat.now) d (ends c.args.mask) (ends c.length-range.result) (ends c.dot-up.result) (ends c.least-least.result)
    (c.line-line.ensures.exact ∙ ap₂ line_of c.named.ensures c.named-2.ensures) c.length-range.ensures.exact (c.dot-up.ensures.exact ∙ ap (λ t. dot_of t d) c.named-3.ensures) c.least-least.ensures.exact

pub returns-then-hidden-clause-hidden : goal.returns-then-hidden-clause-hidden
returns-then-hidden-clause-hidden c h box n q N choice = hidden_from (returns-then-hidden-clause-exact c) h box n q N choice

pub returns-then-hidden-clause-isotone : goal.returns-then-hidden-clause-isotone
returns-then-hidden-clause-isotone c f s m i j k = isotone_from (returns-then-hidden-clause-exact c) c.requires.frame f s m i j k

pub returns-then-seen-clause-exact : goal.returns-then-seen-clause-exact
returns-then-seen-clause-exact c =
    let d = component_ends c.line-line.result in
    let R = ends c.length-range.result in
    let U = ends c.dot-up.result in
    ap visible (c.direction.ensures ∙ ap₂ (λ e n. shares_of e n d R U) c.named-east.ensures c.named-north.ensures)
    ∙ sight-visible (frame_ends c.args.frame.now) d R U (ends c.least-least.result) (sym c.hidden.ensures ∙ c.if-hidden.false) (sym c.seen.ensures ∙ c.if-seen.true)
    ∙ look-parts (frame_ends c.args.frame.now) (vector_ends c.args.sat.now) d (ends c.args.mask) R U (ends c.least-least.result)
    (c.line-line.ensures.exact ∙ ap₂ line_of c.named.ensures c.named-2.ensures) c.length-range.ensures.exact (c.dot-up.ensures.exact ∙ ap (λ t. dot_of t d) c.named-3.ensures) c.least-least.ensures.exact

pub returns-then-seen-clause-visible : goal.returns-then-seen-clause-visible
returns-then-seen-clause-visible c row h box n q N choice = visible_from (returns-then-seen-clause-exact c) row h box n q N choice

pub returns-then-seen-clause-bound : goal.returns-then-seen-clause-bound
returns-then-seen-clause-bound c row h = bound_from (returns-then-seen-clause-exact c) c.requires.frame c.requires.sat c.requires.mask row h

pub returns-then-seen-clause-isotone : goal.returns-then-seen-clause-isotone
returns-then-seen-clause-isotone c f s m i j k = isotone_from (returns-then-seen-clause-exact c) c.requires.frame f s m i j k

pub returns-else-seen-clause-exact : goal.returns-else-seen-clause-exact
returns-else-seen-clause-exact c =
    let d = component_ends c.line-line.result in
    sight-straddle (frame_ends c.args.frame.now) d (ends c.length-range.result) (ends c.dot-up.result) (ends c.least-least.result) (sym c.hidden.ensures ∙ c.if-hidden.false) (sym c.seen.ensures ∙ c.if-seen.false)
    ∙ look-parts (frame_ends c.args.frame.now) (vector_ends c.args.sat.now) d (ends c.args.mask) (ends c.length-range.result) (ends c.dot-up.result) (ends c.least-least.result)
    (c.line-line.ensures.exact ∙ ap₂ line_of c.named.ensures c.named-2.ensures) c.length-range.ensures.exact (c.dot-up.ensures.exact ∙ ap (λ t. dot_of t d) c.named-3.ensures) c.least-least.ensures.exact

pub returns-else-seen-clause-isotone : goal.returns-else-seen-clause-isotone
returns-else-seen-clause-isotone c f s m i j k = isotone_from (returns-else-seen-clause-exact c) c.requires.frame f s m i j k

pub returns-else-seen-clause-narrow : goal.returns-else-seen-clause-narrow
returns-else-seen-clause-narrow c h box n q w v u N choice = narrow_from (returns-else-seen-clause-exact c) c.requires.sat c.requires.mask h box n q w v u N choice
