use Rattle.matrix_forms.proofs.Shorts.{short_is, short_some}
use Rattle.matrix_forms.proofs.normal.entry.Goals as goal

pub returns-clause-exact : goal.returns-clause-exact
returns-clause-exact c = short_is c.narrow.result _ c.narrow.ensures.exact

pub returns-clause-some : goal.returns-clause-some
returns-clause-some c = short_some c.narrow.result _ c.narrow.ensures.exact
