use Rattle.std.specs.Prelude.{refl}
use Rattle.kepler_laws.proofs.Wraps.{ecc_encloses, ecc_isotone}
use Rattle.kepler_laws.proofs.Widths.{ecc_narrow}
use Rattle.kepler_laws.proofs.laws.anomalies_are_enclosed.Goals as goal

pub returns-clause-encloses : goal.returns-clause-encloses
returns-clause-encloses c m eps o i N M e E s d l k p q = ecc_encloses refl o i N M e E s d l k p q

pub returns-clause-isotone : goal.returns-clause-isotone
returns-clause-isotone c m eps d f i p q = ecc_isotone refl d f i p q

pub returns-clause-narrow : goal.returns-clause-narrow
returns-clause-narrow c m eps o i n = ecc_narrow refl o i n
