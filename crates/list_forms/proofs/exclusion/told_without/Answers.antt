use Rattle.std.proofs.Common.{◌≡◌, ◌+◌, arith, ap, sym, subst, ◌∙◌, length, List}
use Rattle.geometry_laws.specs.Without.{without}
use Rattle.time_forms.specs.Programs.{form}
use Rattle.geometry_forms.specs.Rows.{RowForm}
use Rattle.geometry_forms.specs.Geometry.{form_table, sum_form}
use Rattle.matrix_forms.specs.declared.FormRow.{FormRow}
use Rattle.matrix_forms.specs.Views.{row_of, rows_of}
use Rattle.slope_forms.specs.Slopes.{detect_told}
use Rattle.list_forms.specs.Views.{told, IsOrUnknown}
use Rattle.list_forms.proofs.Rests.{map-without, without_length}
use Rattle.list_forms.proofs.exclusion.told_without.Goals as goal

-- the forms of the rest
rest_forms : (rows rest : List FormRow) (j : _) → rest ≡ without j rows → rows_of rest ≡ without j (rows_of rows)
rest_forms rows rest j e = ap rows_of e ∙ map-without row_of j rows

pub detect_from-requires-clause-few : goal.detect_from-requires-clause-few
detect_from-requires-clause-few c =
    let n = ap (λ (t : List FormRow). length t + 1) c.requires.rest ∙ without_length c.args.rows.now c.args.j c.requires.place in
    let f = c.requires.few in
    omega arith

pub detect_from-requires-clause-all : goal.detect_from-requires-clause-all
detect_from-requires-clause-all c =
    c.sums_less-less.ensures.exact ∙ ap (λ (t : List RowForm). form_table (sum_form t)) (sym (rest_forms c.args.rows.now c.args.rest.now c.args.j c.requires.rest))

pub returns : goal.returns
returns c =
    subst (λ (t : List RowForm). IsOrUnknown (told c.detect_from.result) (detect_told c.args.shift t (form c.args.kappa_less))) (rest_forms c.args.rows.now c.args.rest.now c.args.j c.requires.rest) c.detect_from.ensures.exact
