use Rattle.std.proofs.Common.{refl}
use Rattle.trig_laws.proofs.Encloses.{sin_cos_encloses, sin_cos_isotone}
use Rattle.trig_laws.proofs.Narrow.{sin_cos_narrow}
use Rattle.trig_laws.proofs.laws.turns_are_enclosed.Goals as goal

pub returns-clause-encloses : goal.returns-clause-encloses
returns-clause-encloses c a o N u s k l p = sin_cos_encloses refl o N u s k l p

pub returns-clause-isotone : goal.returns-clause-isotone
returns-clause-isotone c a b p = sin_cos_isotone refl b p

pub returns-clause-narrow : goal.returns-clause-narrow
returns-clause-narrow c a o = sin_cos_narrow refl o
