use Rattle.almanac_draft.proofs.OneReading.{says_or_refuses, says_once}
use Rattle.almanac_draft.proofs.laws.an_almanac_has_one_reading.Goals as goal

pub returns-clause-some : goal.returns-clause-some
returns-clause-some g c = says_or_refuses g.L.AlmanacLine.form

pub returns-clause-once : goal.returns-clause-once
returns-clause-once g c = says_once g.L.AlmanacLine.form g.met.L.AlmanacLine.lawful
