use Rattle.std.proofs.Common.{ap₂, ◌∙◌}
use Rattle.matrix_forms.specs.Sums.{matrix_less}
use Rattle.matrix_forms.proofs.RowSums.{all_within, less_row}
use Rattle.matrix_forms.proofs.normal.sums_less.Goals as goal

pub difference-requires-clause-all_small : goal.difference-requires-clause-all_small
difference-requires-clause-all_small c = all_within c.args.all.now c.args.rows.now c.requires.few c.requires.all

pub returns : goal.returns
returns c = record { exact = c.difference.ensures ∙ ap₂ matrix_less c.requires.all c.products.ensures.exact ∙ less_row c.args.rows.now c.args.i c.index-rows-i.result c.requires.place c.index-rows-i.is }
