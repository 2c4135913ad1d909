use Rattle.std.proofs.Common.{rules, ap₂, ◌∙◌}
use mir.Val.{SFits}
use mir.Syntax.{w64}
use Rattle.fix_interval.specs.Bounds.{hull_of}
use Rattle.site_laws.specs.Places.{along_of}
use Rattle.leg_place.proofs.Pieces.{plain}
use Rattle.leg_place.proofs.place.along.Goals as goal

pub returns : goal.returns
unfolding along_of
returns c =
    let p = c.args.piece.now in
    let f : SFits w64 p.first = search rules in
    let l : SFits w64 p.last = search rules in
    c.hull.ensures.exact ∙ ap₂ hull_of (rw (plain f) at c.at.ensures) (rw (plain l) at c.at-2.ensures)
