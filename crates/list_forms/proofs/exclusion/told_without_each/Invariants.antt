use Rattle.std.proofs.Common.{◌≡◌, ◌-◌, ◌<◌, ℕ, length}
use Rattle.geometry_laws.specs.Without.{without}
use Rattle.time_forms.specs.Programs.{form}
use Rattle.matrix_forms.specs.Views.{rows_of}
use Rattle.slope_forms.specs.Told.{passing}
use Rattle.slope_forms.specs.Slopes.{detect_told}
use Rattle.list_forms.proofs.Rests.{IsRest}
use Rattle.list_forms.proofs.exclusion.told_without_each.Given as goal

-- the first i rows behind the first one stand in the rest
abbrev pub invariant-loop-i : goal.invariant-loop-i
invariant-loop-i l = record {
  size : length l.rest ≡ 32;
  rest : IsRest l.rows l.rest 0 l.i;
}

-- the lists without one of the first j rows pass
abbrev pub invariant-loop-j : goal.invariant-loop-j
invariant-loop-j l = record {
  size : length l.rest ≡ 32;
  rest : IsRest l.rows l.rest l.j (length l.rows - 1);
  passes : (k : ℕ) → k < l.j → detect_told l.shift (without k (rows_of l.rows)) (form l.kappa_less) ≡ passing;
}
