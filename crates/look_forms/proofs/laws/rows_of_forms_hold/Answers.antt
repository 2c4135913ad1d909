use Rattle.look_forms.proofs.Lines.{line_held}
use Rattle.look_forms.proofs.Directions.{row_held}
use Rattle.look_forms.proofs.laws.rows_of_forms_hold.Goals as goal

pub returns-clause-line : goal.returns-clause-line
returns-clause-line c h d f frame fs sat v w = line_held v.position w

pub returns-clause-row : goal.returns-clause-row
returns-clause-row c h d f frame fs sat fk k t e o v w q = row_held f frame fs sat fk k t e o v w q
