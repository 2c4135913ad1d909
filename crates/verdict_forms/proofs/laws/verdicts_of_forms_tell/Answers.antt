use Rattle.verdict_forms.proofs.Pieces.{piece_tells}
use Rattle.verdict_forms.proofs.laws.verdicts_of_forms_tell.Goals as goal

pub returns : goal.returns
returns k h d shift alert_mm c i first last t p low high told time safe each = piece_tells shift alert_mm c i first last t p low high told time safe each
