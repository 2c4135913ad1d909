use Rattle.std.proofs.Common.{arith, ap₂, sym, ◌∙◌, refl}
use Rattle.time_forms.specs.Operations.{bounded_of}
use Rattle.geometry_forms.specs.Geometry.{sum_form}
use Rattle.matrix_forms.specs.Sums.{matrix_sum}
use Rattle.matrix_forms.proofs.RowSums.{next_row, taken_within}
use Rattle.matrix_forms.proofs.normal.sums.Goals as goal

pub loop-row-init : goal.loop-row-init
unfolding sum_form bounded_of
loop-row-init c = record { few = c.requires.few; sum = refl }

pub added-all-requires-clause-a_small : goal.added-all-requires-clause-a_small
added-all-requires-clause-a_small c = taken_within c.loop-row.all c.loop-row.row-index c.args.rows.now c.loop-row.invariant.few c.loop-row.invariant.sum

pub loop-row-preserved : goal.loop-row-preserved
loop-row-preserved c = record {
  few = c.loop-row.invariant.few;
  sum = c.added-all.ensures ∙ ap₂ matrix_sum c.loop-row.invariant.sum c.products.ensures.exact
      ∙ sym (next_row c.args.rows.now c.loop-row.row-index c.row-item.result (omega arith) c.row-item.is);
}

pub returns-clause-small : goal.returns-clause-small
returns-clause-small c = taken_within c.loop-row.all c.loop-row.row-index c.args.rows.now c.loop-row.invariant.few c.loop-row.invariant.sum
