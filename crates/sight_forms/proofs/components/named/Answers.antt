use Rattle.sight_forms.proofs.Vectors.{three}
use Rattle.sight_forms.proofs.components.named.Goals as goal

pub returns : goal.returns
returns c = three c.args.v.now _ _ _ c.told-v
