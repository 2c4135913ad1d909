use Rattle.std.specs.Prelude.{◌≡◌, ◌-ℤ◌, ◌≤ℤ◌, unsigned_abs}
use Rattle.fix_interval.specs.Pairs.{pair_ends, hull_from}
use Rattle.fix_interval.proofs.pairs.hull_over.Given as goal

-- the hull as far as k
abbrev pub invariant-loop-k : goal.invariant-loop-k
invariant-loop-k g l = record {
  from : l.fn.first ≤ℤ l.k;
  to : l.k ≤ℤ l.fn.last;
  hull : pair_ends l.pair.0 l.pair.1 ≡ hull_from (g.P.PairsOver.pair_of l.fn.pairs) l.fn.first (unsigned_abs (l.k -ℤ l.fn.first));
}

abbrev pub decreases-loop-k : goal.decreases-loop-k
decreases-loop-k g l = unsigned_abs (l.last -ℤ l.k)
