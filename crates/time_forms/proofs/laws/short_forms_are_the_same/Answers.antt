use Rattle.time_forms.proofs.Shorts.{short_same, short_within}
use Rattle.time_forms.proofs.laws.short_forms_are_the_same.Goals as goal

pub returns-clause-same : goal.returns-clause-same
returns-clause-same c = short_same

pub returns-clause-small : goal.returns-clause-small
returns-clause-small c = short_within
