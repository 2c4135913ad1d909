use Rattle.std.proofs.Common.{◌≡◌, ◌-◌, take, length}
use Rattle.fix_interval.specs.Intervals.{ends}
use Rattle.raim_model.specs.declared.verdict.Verdict.TheVariants.{Available}
use Rattle.slope_laws.specs.Rows.{removals}
use Rattle.slope_laws.specs.Subsets.{first_open}
use Rattle.slope_laws.specs.ShiftSlopes.{detect_of}
use Rattle.geom_inverse.specs.Views.{rows_ends}
use Rattle.slope_test.specs.Marks.{ListsPass}
use Rattle.slope_test.specs.Named.{named}
use Rattle.exclusion_subsets.specs.Pairs.{ArePairs}
use Rattle.exclusion_subsets.proofs.Rests.{IsRest}
use Rattle.exclusion_subsets.proofs.exclusion.subsets_told.Given as goal

-- the first i rows behind the first one stand in the rest
abbrev pub invariant-loop-i : goal.invariant-loop-i
invariant-loop-i l = record {
  size : length l.rest ≡ 32;
  rest : IsRest l.rows l.rest 0 l.i;
}

-- the lists without one of the first j rows pass
abbrev pub invariant-loop-j : goal.invariant-loop-j
invariant-loop-j l = record {
  size : length l.rest ≡ 32;
  rest : IsRest l.rows l.rest l.j (length l.rows - 1);
  passes : first_open (λ rest. detect_of l.shift rest (ends l.kappa_less)) (take l.j (removals (named l.rows))) ≡ Available;
  known : ListsPass l.shift (named l.rows) (ends l.kappa_less) l.known.places;
  pairs : ArePairs l.pairs.places (rows_ends l.rows);
}
