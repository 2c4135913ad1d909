use Rattle.std.proofs.Common.{inr, true, false}
use lib.Dec.{lit≤}
use Rattle.fractions.specs.Pair.{pair_ratio, pair_is_at_most}
use Rattle.fractions.specs.Fraction.{ratio, is_at_most}
use Rattle.almanac_orbit.proofs.Canonicals.{canonical_of}
use Rattle.orbit_cases.proofs.records.published_sem.Goals as goal

pub returns-clause-accepted : goal.returns-clause-accepted
unfolding ratio pair_ratio is_at_most pair_is_at_most
returns-clause-accepted c = record {
  prn = (lit≤ tt, lit≤ tt);
  health = lit≤ tt;
  eccentricity = record { canonical = canonical_of false 9608650696460001 18 (lit≤ tt) (lit≤ tt) (lit≤ tt) (lit≤ tt); at_least = record { le = tt }; at_most = record { le = tt } };
  root = record { canonical = canonical_of false 515359947205 8 (lit≤ tt) (lit≤ tt) (lit≤ tt) (lit≤ tt); at_least = record { le = tt }; at_most = record { le = tt } };
  angles = inr record { incl = record { canonical = canonical_of true 9904816805941796 19 (lit≤ tt) (lit≤ tt) (lit≤ tt) (lit≤ tt); at_least = record { le = tt }; at_most = record { le = tt } }; rate = record { canonical = canonical_of true 2605929694254038 24 (lit≤ tt) (lit≤ tt) (lit≤ tt) (lit≤ tt); at_least = record { le = tt }; at_most = record { le = tt } }; omega0 = record { canonical = canonical_of true 4058738833407042 16 (lit≤ tt) (lit≤ tt) (lit≤ tt) (lit≤ tt); at_least = record { le = tt }; at_most = record { le = tt } }; perigee = record { canonical = canonical_of false 9860955956400375 16 (lit≤ tt) (lit≤ tt) (lit≤ tt) (lit≤ tt); at_least = record { le = tt }; at_most = record { le = tt } }; m0 = record { canonical = canonical_of true 6911227684553344 16 (lit≤ tt) (lit≤ tt) (lit≤ tt) (lit≤ tt); at_least = record { le = tt }; at_most = record { le = tt } } };
}
