use Rattle.std.proofs.Common.{inr, true, false}
use lib.Dec.{lit≤}
use Rattle.fractions.specs.Pair.{pair_ratio, pair_is_at_most}
use Rattle.fractions.specs.Fraction.{ratio, is_at_most}
use Rattle.almanac_orbit.proofs.Canonicals.{canonical_of, canonical_whole}
use Rattle.orbit_cases.proofs.records.fast.Goals as goal

pub returns-clause-accepted : goal.returns-clause-accepted
unfolding ratio pair_ratio is_at_most pair_is_at_most
returns-clause-accepted c = record {
  prn = (lit≤ tt, lit≤ tt);
  health = lit≤ tt;
  eccentricity = record { canonical = canonical_of false 3125 5 (lit≤ tt) (lit≤ tt) (lit≤ tt) (lit≤ tt); at_least = record { le = tt }; at_most = record { le = tt } };
  root = record { canonical = canonical_of false 40005 1 (lit≤ tt) (lit≤ tt) (lit≤ tt) (lit≤ tt); at_least = record { le = tt }; at_most = record { le = tt } };
  angles = inr record { incl = record { canonical = canonical_of true 5 2 (lit≤ tt) (lit≤ tt) (lit≤ tt) (lit≤ tt); at_least = record { le = tt }; at_most = record { le = tt } }; rate = record { canonical = canonical_of false 1 6 (lit≤ tt) (lit≤ tt) (lit≤ tt) (lit≤ tt); at_least = record { le = tt }; at_most = record { le = tt } }; omega0 = record { canonical = canonical_of false 39 1 (lit≤ tt) (lit≤ tt) (lit≤ tt) (lit≤ tt); at_least = record { le = tt }; at_most = record { le = tt } }; perigee = record { canonical = canonical_of true 35 1 (lit≤ tt) (lit≤ tt) (lit≤ tt) (lit≤ tt); at_least = record { le = tt }; at_most = record { le = tt } }; m0 = record { canonical = canonical_whole true 4 (lit≤ tt) (lit≤ tt); at_least = record { le = tt }; at_most = record { le = tt } } };
}
