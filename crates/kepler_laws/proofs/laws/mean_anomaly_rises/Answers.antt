use Rattle.kepler_laws.proofs.Rises.{rises}
use Rattle.kepler_laws.proofs.laws.mean_anomaly_rises.Goals as goal

pub returns : goal.returns
returns c N M eps u v s k t d l h o p q = rises N M eps u v s k t d record { low = l; high = h } o p q
