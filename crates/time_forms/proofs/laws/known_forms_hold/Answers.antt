use Rattle.time_forms.proofs.Known.{fixed_holds, linear_holds, moving_holds, bounded_holds}
use Rattle.time_forms.proofs.FormSums.{wider_holds}
use Rattle.time_forms.proofs.laws.known_forms_hold.Goals as goal

pub returns-clause-fixed : goal.returns-clause-fixed
returns-clause-fixed c = fixed_holds

pub returns-clause-linear : goal.returns-clause-linear
returns-clause-linear c h d e k t o = linear_holds e k t o

pub returns-clause-moving : goal.returns-clause-moving
returns-clause-moving c h d e g t o = moving_holds e g t o

pub returns-clause-wider : goal.returns-clause-wider
returns-clause-wider c h d f k e p = wider_holds f k e p

pub returns-clause-bounded : goal.returns-clause-bounded
returns-clause-bounded c = bounded_holds
