use Rattle.std.proofs.Common.{ap, ◌∙◌}
use Rattle.time_forms.specs.Operations.{narrow_form}
use Rattle.time_forms.specs.Programs.{short_of}
use Rattle.look_forms.specs.Looks.{dot_form}
use Rattle.matrix_forms.proofs.Shorts.{short_is}
use Rattle.sight_forms.specs.Sights.{products_form}
use Rattle.sight_forms.proofs.line.dot.Goals as goal

pub returns-clause-exact : goal.returns-clause-exact
unfolding dot_form products_form
returns-clause-exact c = short_is c.narrow.result _ (c.narrow.ensures.exact ∙ ap (λ w. short_of (narrow_form w)) c.products.ensures)
