use Rattle.std.proofs.Common.{refl, ℤ, pos, ◌+ℤ◌, ◌-ℤ◌, ◌≡◌, neg_ℤ, arith, subst}
use Rattle.std.proofs.lemmas.Int.{ints}
use Rattle.kepler_laws.specs.Anomalies.{anomalies_of, IsGreatest, IsLeast, is_below, is_above, bracket}
use Rattle.kepler_laws.proofs.Rising.{mean_rises}
use Rattle.kepler_laws.proofs.Anomalies.{lower_is, upper_is, anomalies_enclose, anomalies_isotone}
use Rattle.kepler_laws.proofs.laws.ends_are_found.Goals as goal

less_more : (z : ℤ) → z ≡ (z -ℤ pos 1) +ℤ pos 1
less_more z = omega (arith, ints)

more_less : (z : ℤ) → z ≡ (z +ℤ pos 1) -ℤ pos 1
more_less z = omega (arith, ints)

pub returns-clause-lower : goal.returns-clause-lower
unfolding anomalies_of
returns-clause-lower c eps m i h = subst (λ z. IsGreatest (is_below eps m.lo) (neg_ℤ bracket) bracket z) (less_more _) (lower_is eps m i h)

pub returns-clause-upper : goal.returns-clause-upper
unfolding anomalies_of
returns-clause-upper c eps m i h = subst (λ z. IsLeast (is_above eps m.hi) (neg_ℤ bracket) bracket z) (more_less _) (upper_is eps m i h)

pub returns-clause-rises : goal.returns-clause-rises
returns-clause-rises c eps k i = mean_rises eps k i

pub returns-clause-encloses : goal.returns-clause-encloses
returns-clause-encloses c eps m i h N M e E l k p = anomalies_enclose refl i h N M e E l k p

pub returns-clause-isotone : goal.returns-clause-isotone
returns-clause-isotone c eps m f d i h p k = anomalies_isotone refl f d i h p k
