use Rattle.geometry_forms.proofs.Grams.{sum_of_held, gram_held, less-without, rows_held_without}
use Rattle.geometry_forms.proofs.laws.normal_matrices_of_forms_hold.Goals as goal

pub returns-clause-sums : goal.returns-clause-sums
returns-clause-sums c h d fs rs t v j k = sum_of_held fs rs t v j k

pub returns-clause-matrix : goal.returns-clause-matrix
returns-clause-matrix c h d fs rs t v = gram_held fs rs t v

pub returns-clause-less : goal.returns-clause-less
returns-clause-less c = less-without

pub returns-clause-without : goal.returns-clause-without
returns-clause-without c = rows_held_without
