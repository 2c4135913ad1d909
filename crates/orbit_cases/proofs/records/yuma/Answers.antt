use Rattle.std.proofs.Common.{inl, true, false}
use lib.Dec.{lit≤}
use Rattle.fractions.specs.Pair.{pair_ratio, pair_is_at_most}
use Rattle.fractions.specs.Fraction.{ratio, is_at_most}
use Rattle.almanac_orbit.proofs.Canonicals.{canonical_of}
use Rattle.orbit_cases.proofs.records.yuma.Goals as goal

pub returns-clause-accepted : goal.returns-clause-accepted
unfolding ratio pair_ratio is_at_most pair_is_at_most
returns-clause-accepted c = record {
  prn = (lit≤ tt, lit≤ tt);
  health = lit≤ tt;
  eccentricity = record { canonical = canonical_of false 1086759567 11 (lit≤ tt) (lit≤ tt) (lit≤ tt) (lit≤ tt); at_least = record { le = tt }; at_most = record { le = tt } };
  root = record { canonical = canonical_of false 5153636719 6 (lit≤ tt) (lit≤ tt) (lit≤ tt) (lit≤ tt); at_least = record { le = tt }; at_most = record { le = tt } };
  angles = inl record { incl = record { canonical = canonical_of false 96013574 8 (lit≤ tt) (lit≤ tt) (lit≤ tt) (lit≤ tt); at_least = record { le = tt }; at_most = record { le = tt } }; rate = record { canonical = canonical_of true 8126052768 18 (lit≤ tt) (lit≤ tt) (lit≤ tt) (lit≤ tt); at_least = record { le = tt }; at_most = record { le = tt } }; omega0 = record { canonical = canonical_of false 1296372856 9 (lit≤ tt) (lit≤ tt) (lit≤ tt) (lit≤ tt); at_least = record { le = tt }; at_most = record { le = tt } }; perigee = record { canonical = canonical_of false 812318933 9 (lit≤ tt) (lit≤ tt) (lit≤ tt) (lit≤ tt); at_least = record { le = tt }; at_most = record { le = tt } }; m0 = record { canonical = canonical_of true 9442756846 10 (lit≤ tt) (lit≤ tt) (lit≤ tt) (lit≤ tt); at_least = record { le = tt }; at_most = record { le = tt } } };
}
