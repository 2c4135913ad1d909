use Rattle.std.proofs.Common.{sym, ◌∙◌, ap, ap₂, subst, ◌^◌, pos}
use lib.Dec.{lit≤}
use Rattle.fix_interval.specs.Ends.{IsInside}
use Rattle.fix_interval.specs.Intervals.{ends}
use Rattle.fix_interval.specs.Products.{mul_wide_of}
use Rattle.fix_interval.specs.Sums.{sub_of}
use Rattle.fix_interval.specs.Ranges.{full_ends}
use Rattle.site_laws.specs.Frames.{one_wide, radicand_ends, within}
use Rattle.site_laws.proofs.FrameBounds.{radicand_bounds}
use Rattle.site_laws.proofs.FrameNarrow.{square_within, wide_product}
use Rattle.wgs_position.proofs.Sizes.{product_within, times_within, inside_within}
use Rattle.wgs_position.proofs.Parts.{eccentricity-is}
use Rattle.wgs_position.proofs.ellipsoid.radicand.Goals as goal

pub sqr-requires : goal.sqr-requires
sqr-requires c = product_within c.args.sine c.args.sine 274877906944 274877906944 _ c.requires c.requires (lit≤ tt)

pub mul_wide-requires : goal.mul_wide-requires
mul_wide-requires c = times_within c.sqr.result 1840137160 274877906944 (2 ^ 126) (subst (λ e. IsInside e full_ends) (sym c.sqr.ensures.exact) (square_within (ends c.args.sine) c.requires)) (lit≤ tt)

pub sub-requires-clause-b_small : goal.sub-requires-clause-b_small
sub-requires-clause-b_small c =
    let s : IsInside (ends c.sqr.result) full_ends = subst (λ e. IsInside e full_ends) (sym c.sqr.ensures.exact) (square_within (ends c.args.sine) c.requires) in
    let w : IsInside (ends c.mul_wide.result) (within (pos (2 ^ 76))) = subst (λ e. IsInside e (within (pos (2 ^ 76)))) (sym (c.mul_wide.ensures.exact ∙ ap (λ t. mul_wide_of t (ends c.sqr.result)) eccentricity-is)) (wide_product s) in
    inside_within c.mul_wide.result (2 ^ 125) w (record { le = tt }) (record { le = tt })

pub returns-clause-exact : goal.returns-clause-exact
returns-clause-exact c = c.sub.ensures.exact ∙ ap (sub_of one_wide) (c.mul_wide.ensures.exact ∙ ap₂ mul_wide_of eccentricity-is c.sqr.ensures.exact)

pub returns-clause-bound : goal.returns-clause-bound
returns-clause-bound c = subst (λ e. IsInside e radicand_ends) (sym (returns-clause-exact c)) (radicand_bounds (ends c.args.sine) c.requires)
