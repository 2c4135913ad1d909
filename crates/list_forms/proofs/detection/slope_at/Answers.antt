use Rattle.time_forms.specs.Programs.{form}
use Rattle.list_forms.proofs.Answers.{slope_is}
use Rattle.list_forms.proofs.detection.slope_at.Goals as goal

pub returns : goal.returns
returns c = slope_is c.slope.result c.args.lines.now c.args.rows.now c.args.i c.index-rows-i.result (form c.args.determinant) (form c.in_ok-less.less) (form c.args.kappa) c.index-rows-i.is c.requires.place c.in_ok-less.ensures.exact c.slope.ensures
