use Rattle.kepler_laws.proofs.Exists.{has_anomaly}
use Rattle.kepler_laws.proofs.laws.anomalies_exist.Goals as goal

pub returns : goal.returns
returns c N M eps l h = has_anomaly N M eps record { low = l; high = h }
