use Rattle.std.proofs.Common.{arith, ap, ◌∙◌, ℤ, ◌≤ℤ◌}
use Rattle.std.proofs.lemmas.Int.{ints}
use Rattle.fix_interval.specs.Intervals.{ends}
use Rattle.fix_interval.specs.Products.{scale_int_of}
use Rattle.leg_place.proofs.Pieces.{plain, scale-times, times_bound}
use Rattle.site_forms.proofs.leg.times.Goals as goal

pub returns-clause-exact : goal.returns-clause-exact
returns-clause-exact c = c.scale_int.ensures.exact ∙ ap (λ z. scale_int_of (ends c.args.a) z z) (plain c.ranges.k) ∙ scale-times (ends c.args.a) c.args.k c.requires.not_negative c.args.a.ordered

pub returns-clause-bound : goal.returns-clause-bound
returns-clause-bound c =
    let e = returns-clause-exact c in
    let l = times_bound c.args.a.lo c.args.k c.requires.small.low (high c.args.a.ordered c.requires.small.high) c.requires.not_negative c.requires.short in
    let h = times_bound c.args.a.hi c.args.k (low c.args.a.ordered c.requires.small.low) c.requires.small.high c.requires.not_negative c.requires.short in
    record { low = rw (ap (λ t. t.lo) e) l.0; high = rw (ap (λ t. t.hi) e) h.1 }
  where
    high : {y z m : ℤ} → y ≤ℤ z → z ≤ℤ m → y ≤ℤ m
    high h k = omega (arith, ints)

    low : {y z m : ℤ} → y ≤ℤ z → m ≤ℤ y → m ≤ℤ z
    low h k = omega (arith, ints)
