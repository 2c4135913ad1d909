use Rattle.std.proofs.Common.{ap, ◌∙◌}
use Rattle.fix_interval.specs.Ends.{Ends}
use Rattle.fix_interval.specs.Intervals.{ends}
use Rattle.fix_interval.specs.Pairs.{pair_ends}
use Rattle.fix_interval.proofs.EndVectors.{same_vectors}
use Rattle.orbit_laws.specs.Positions.{place_of, in_plane_x_of, in_plane_y_of}
use Rattle.almanac_orbit.proofs.place.place.Goals as goal

pub returns : goal.returns
unfolding place_of in_plane_x_of in_plane_y_of
returns c = same_vectors
    (c.in_plane_x.ensures ∙ ap (λ (a : Ends). in_plane_x_of (ends c.args.x) a (pair_ends c.args.node.0 c.args.node.1)) c.part-across.ensures.exact)
    (c.in_plane_y.ensures ∙ ap (λ (a : Ends). in_plane_y_of (ends c.args.x) a (pair_ends c.args.node.0 c.args.node.1)) c.part-across.ensures.exact)
    c.part.ensures.exact
