use Rattle.std.proofs.Common.{◌≡◌, ap, sym, subst, ◌∙◌, List}
use Rattle.fix_interval.specs.Intervals.{ends}
use Rattle.geometry_laws.specs.Without.{without}
use Rattle.geom_laws.specs.Rows.{RowEnds}
use Rattle.geom_laws.specs.Gram.{sums_of}
use Rattle.geom_inverse.specs.declared.Row.{Row}
use Rattle.geom_inverse.specs.Views.{row_ends, rows_ends}
use Rattle.slope_laws.specs.ShiftSlopes.{detect_of}
use Rattle.slope_test.specs.Determinants.{AreDeterminants}
use Rattle.slope_test.specs.Named.{named_row, named}
use Rattle.slope_test.proofs.Withouts.{map-without, without_few}
use Rattle.exclusion_subsets.proofs.exclusion.subset.Goals as goal

-- the rest's ends
rest_ends : (rows rest : List Row) (j : _) → rest ≡ without j rows → rows_ends rest ≡ without j (rows_ends rows)
rest_ends rows rest j e = ap rows_ends e ∙ map-without row_ends j rows

pub detect_by_sums-verdict-requires-clause-few : goal.detect_by_sums-verdict-requires-clause-few
detect_by_sums-verdict-requires-clause-few c = without_few c.args.j c.args.rows.now c.args.rest.now 32 c.requires.rest c.requires.few

pub detect_by_sums-verdict-requires-clause-all : goal.detect_by_sums-verdict-requires-clause-all
detect_by_sums-verdict-requires-clause-all c = c.sums_less-all_less.ensures.exact ∙ ap sums_of (sym (rest_ends c.args.rows.now c.args.rest.now c.args.j c.requires.rest))

pub detect_by_sums-verdict-requires-clause-dets : goal.detect_by_sums-verdict-requires-clause-dets
detect_by_sums-verdict-requires-clause-dets c =
    subst (λ (t : List RowEnds). AreDeterminants c.of_list-dets.result t) (sym (rest_ends c.args.rows.now c.args.rest.now c.args.j c.requires.rest)) (c.of_list-dets.ensures (rows_ends c.args.rows.now) c.requires.pairs c.requires.whole)

pub returns-clause-verdict : goal.returns-clause-verdict
returns-clause-verdict c =
    c.detect_by_sums-verdict.ensures.exact ∙ ap (λ rs. detect_of c.args.shift rs (ends c.args.kappa_less)) (ap named c.requires.rest ∙ map-without named_row c.args.j c.args.rows.now)

pub returns-clause-pairs : goal.returns-clause-pairs
returns-clause-pairs c =
    c.keep.ensures (rows_ends c.args.rows.now) c.requires.pairs
    (subst (λ (t : List RowEnds). AreDeterminants c.detect_by_sums-verdict.new.dets t) (rest_ends c.args.rows.now c.args.rest.now c.args.j c.requires.rest) c.detect_by_sums-verdict.ensures.dets)
