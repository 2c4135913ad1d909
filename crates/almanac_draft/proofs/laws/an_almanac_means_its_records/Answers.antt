use Rattle.almanac_draft.proofs.Means.{means_records}
use Rattle.almanac_draft.proofs.Accepting.{is_accepted}
use Rattle.almanac_draft.proofs.laws.an_almanac_means_its_records.Goals as goal

pub returns-clause-means : goal.returns-clause-means
returns-clause-means g c = means_records g.L.AlmanacLine.form g.met.L.AlmanacLine.lawful

pub returns-clause-accepted : goal.returns-clause-accepted
returns-clause-accepted g c = is_accepted g.L.AlmanacLine.form g.met.L.AlmanacLine.lawful
