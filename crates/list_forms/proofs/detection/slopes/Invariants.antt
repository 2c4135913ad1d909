-- nothing is told of a slope so far, or all of them pass
use Rattle.time_forms.specs.Programs.{form}
use Rattle.list_forms.specs.Views.{told}
use Rattle.list_forms.specs.Lines.{slope_along}
use Rattle.list_forms.proofs.Slopes.{PassesBefore}
use Rattle.list_forms.proofs.detection.slopes.Given as goal

abbrev pub invariant-loop-i : goal.invariant-loop-i
invariant-loop-i l = PassesBefore (told l.so_far) (slope_along l.lines (form l.determinant) (form l.kappa)) l.rows l.i
