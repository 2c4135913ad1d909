use Rattle.std.proofs.Common.{rules, subst, sym}
use Rattle.raim_model.specs.Ranges.{AreWaypoints}
use Rattle.route_interp.specs.declared.entry.Entry.{Entry}
use Rattle.route_interp.specs.declared.entry.Entry.TheVariants as entry
use Rattle.route_interp.specs.Drafts.{Fits}
use Rattle.route_interp.proofs.RouteLemmas.{ranges_more}
use Rattle.route_interp.proofs.draft.Draft.put.Goals as goal

pub invariant_of-self : goal.invariant_of-self
invariant_of-self c =
    let before = c.args.self.now.points in
    let w = c.in-Point.waypoint in
    let ranges : AreWaypoints before = search rules in
    let fits : Fits before (entry.Point w) = subst (λ (e : Entry). Fits before e) c.in-Point.is c.requires in
    record { ranges = subst AreWaypoints (sym c.push.ensures) (ranges_more before (entry.Point w) ranges fits) }
