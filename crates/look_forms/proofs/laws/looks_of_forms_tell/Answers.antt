use Rattle.look_forms.proofs.Looks.{look_tells}
use Rattle.look_forms.proofs.laws.looks_of_forms_tell.Goals as goal

pub returns : goal.returns
returns c h d f frame fs sat fm mask t v w m = look_tells f frame fs sat fm mask t v w m
