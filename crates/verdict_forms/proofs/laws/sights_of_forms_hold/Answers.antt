use Rattle.verdict_forms.proofs.Pieces.{sight_over_held}
use Rattle.verdict_forms.proofs.laws.sights_of_forms_hold.Goals as goal

pub returns : goal.returns
returns k h d c i t rec m leg f fs time v w = sight_over_held c i t rec m leg f fs time v w
