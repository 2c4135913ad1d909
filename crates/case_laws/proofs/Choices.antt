-- There is a choice of everything at every level.
use Rattle.raim_model.specs.Receiver.{place_on}
use Rattle.raim_model.specs.Solution.{Case}
use Rattle.root_laws.proofs.Exists.{has_root}
use Rattle.series_laws.proofs.Pairs.{has_pair}
use Rattle.orbit_laws.proofs.Exists.{has_solution}
use Rattle.site_laws.proofs.Receivers.{has_receiver}
use Rattle.raim_model.specs.CaseRanges.{IsCase}
use Rattle.verdict_laws.specs.Choices.{HasChoices}
use Rattle.case_laws.proofs.Records.{record_of}

-- orbits, receivers, sines and roots exist at every level
pub has_choices : (c : Case) → IsCase c → HasChoices c
has_choices c i = record {
  orbit = λ N t f rec m. has_solution N rec t (record_of c i rec m);
  receiver = λ N t leg. has_receiver N (place_on leg);
  sine = λ N u. let p = has_pair N u in (p.sine, record { cosine = p.cosine; pair = p.pair });
  root = λ N x h. has_root N x h;
}
