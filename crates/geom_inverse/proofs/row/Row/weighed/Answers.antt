use Rattle.std.proofs.Common.{arith, ap, sym, subst, ◌∙◌, ◌+◌, ◌^◌, List, slice_index_or}
use Rattle.raim_model.specs.Geometry.{row_of, weighed}
use Rattle.fix_interval.specs.declared.interval.Iv.{Iv}
use Rattle.fix_interval.specs.Ends.{Ends, IsInside}
use Rattle.fix_interval.specs.Intervals.{ends}
use Rattle.fix_interval.specs.Products.{mul_of}
use Rattle.fix_interval.specs.Ranges.{around}
use Rattle.geom_laws.specs.Rows.{RowEnds, weighed_of, RowLies, RowInside}
use Rattle.geom_laws.proofs.Rows.{same_row, part_within, weighed_lies, weighed_inside}
use Rattle.geom_inverse.proofs.Spans.{iv_inside, inside_iv, weight_iv, weight_inside, products_fit}
use Rattle.geom_inverse.proofs.row.Row.weighed.Goals as goal

pub mul-requires : goal.mul-requires
mul-requires c =
    let l = c.told-dir in
    products_fit c.args.k _ (weight_iv c.args.k c.requires.not_negative c.requires.at_most_one) (c.requires.small 0 c.index-dir-0.result (omega arith))

pub mul-requires-2 : goal.mul-requires-2
mul-requires-2 c =
    let l = c.told-dir in
    products_fit c.args.k _ (weight_iv c.args.k c.requires.not_negative c.requires.at_most_one) (c.requires.small 1 c.index-dir-1.result (omega arith))

pub mul-requires-3 : goal.mul-requires-3
mul-requires-3 c =
    let l = c.told-dir in
    products_fit c.args.k _ (weight_iv c.args.k c.requires.not_negative c.requires.at_most_one) (c.requires.small 2 c.index-dir-2.result (omega arith))

pub part-requires : goal.part-requires
part-requires c =
    let l = c.told-dir in
    inside_iv (subst (λ (t : Ends). IsInside t (around (2 ^ 38 + 1))) (sym c.mul.ensures.exact)
    (part_within (weight_inside c.args.k c.requires.not_negative c.requires.at_most_one) (iv_inside (c.requires.small 0 c.index-dir-0.result (omega arith)))))

pub part-requires-2 : goal.part-requires-2
part-requires-2 c =
    let l = c.told-dir in
    inside_iv (subst (λ (t : Ends). IsInside t (around (2 ^ 38 + 1))) (sym c.mul-2.ensures.exact)
    (part_within (weight_inside c.args.k c.requires.not_negative c.requires.at_most_one) (iv_inside (c.requires.small 1 c.index-dir-1.result (omega arith)))))

pub part-requires-3 : goal.part-requires-3
part-requires-3 c =
    let l = c.told-dir in
    inside_iv (subst (λ (t : Ends). IsInside t (around (2 ^ 38 + 1))) (sym c.mul-3.ensures.exact)
    (part_within (weight_inside c.args.k c.requires.not_negative c.requires.at_most_one) (iv_inside (c.requires.small 2 c.index-dir-2.result (omega arith)))))

pub returns-clause-exact : goal.returns-clause-exact
unfolding weighed_of
returns-clause-exact c e n u h =
    same_row
    (c.part.ensures.exact ∙ c.mul.ensures.exact ∙ ap (λ (xs : List Iv). mul_of (ends c.args.k) (ends (slice_index_or xs 0 c.index-dir-0.result))) h)
    (c.part-2.ensures.exact ∙ c.mul-2.ensures.exact ∙ ap (λ (xs : List Iv). mul_of (ends c.args.k) (ends (slice_index_or xs 1 c.index-dir-1.result))) h)
    (c.part-3.ensures.exact ∙ c.mul-3.ensures.exact ∙ ap (λ (xs : List Iv). mul_of (ends c.args.k) (ends (slice_index_or xs 2 c.index-dir-2.result))) h)
    c.weight.ensures.exact

pub returns-clause-encloses : goal.returns-clause-encloses
returns-clause-encloses c e n u x y z v h p q r s = subst (λ (t : RowEnds). RowLies t (weighed v (row_of x y z))) (sym (returns-clause-exact c e n u h)) (weighed_lies p q r s)

pub returns-clause-isotone : goal.returns-clause-isotone
returns-clause-isotone c e n u a b d f h p q r s = subst (λ (t : RowEnds). RowInside t (weighed_of a b d f)) (sym (returns-clause-exact c e n u h)) (weighed_inside p q r s)
