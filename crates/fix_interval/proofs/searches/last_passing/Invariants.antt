use Rattle.std.specs.Prelude.{◌≡◌, ◌-ℤ◌, ◌≤ℤ◌, ◌<ℤ◌, unsigned_abs, true, false}
use Rattle.fix_interval.proofs.searches.last_passing.Given as goal

-- the low end of the bracket that is left passes, and the high one does not
abbrev pub invariant-loop-high : goal.invariant-loop-high
invariant-loop-high g l = record {
  from : l.fn.first ≤ℤ l.low;
  ordered : l.low <ℤ l.high;
  to : l.high ≤ℤ l.fn.end;
  passes : g.P.Probe.passes l.fn.test l.low ≡ true;
  fails : g.P.Probe.passes l.fn.test l.high ≡ false;
}

abbrev pub decreases-loop-high : goal.decreases-loop-high
decreases-loop-high g l = unsigned_abs (l.high -ℤ l.low)
