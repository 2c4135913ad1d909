use Rattle.time_forms.specs.Programs.{wide}
use Rattle.sight_forms.specs.Views.{component_form}
use Rattle.sight_forms.proofs.Steps.{range_is, range_some}
use Rattle.sight_forms.proofs.line.range.Goals as goal

pub returns-then-have_room-clause-exact : goal.returns-then-have_room-clause-exact
returns-then-have_room-clause-exact c = range_is c.sqrt.result (wide c.products-squares.result) (component_form c.args.line) c.sqrt.ensures.exact c.products-squares.ensures

pub returns-then-have_room-clause-some : goal.returns-then-have_room-clause-some
returns-then-have_room-clause-some c = range_some c.sqrt.result (wide c.products-squares.result) (component_form c.args.line) c.sqrt.ensures.exact c.products-squares.ensures
