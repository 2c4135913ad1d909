use Rattle.std.proofs.Common.{◌≡◌, sym, subst, ◌+◌, ◌^◌}
use Rattle.raim_model.specs.Geometry.{East, North, Up, Clock}
use Rattle.fix_interval.specs.declared.Iv64.{Iv64}
use Rattle.fix_interval.specs.Ends.{Ends, IsInside}
use Rattle.fix_interval.specs.Intervals.{ends_64, IsWithin64}
use Rattle.fix_interval.specs.Ranges.{around}
use Rattle.geom_inverse.proofs.Spans.{inside_short}
use Rattle.geom_inverse.proofs.normal.entries_of_sums.Goals as goal

-- an interval of the ends of one that is small
small : (a : Iv64) (e : Ends) → ends_64 a ≡ e → IsInside e (around (2 ^ 43 + 2 ^ 7)) → IsWithin64 a (2 ^ 43 + 2 ^ 7)
small a e p i = inside_short (subst (λ (t : Ends). IsInside t (around (2 ^ 43 + 2 ^ 7))) (sym p) i)

pub invariant_of-result : goal.invariant_of-result
invariant_of-result c = record {
  a11_small = small c.narrowed.result _ c.narrowed.ensures (c.requires.bound.entries East East);
  a12_small = small c.narrowed-2.result _ c.narrowed-2.ensures (c.requires.bound.entries East North);
  a13_small = small c.narrowed-3.result _ c.narrowed-3.ensures (c.requires.bound.entries East Up);
  a14_small = small c.narrowed-4.result _ c.narrowed-4.ensures (c.requires.bound.entries East Clock);
  a22_small = small c.narrowed-5.result _ c.narrowed-5.ensures (c.requires.bound.entries North North);
  a23_small = small c.narrowed-6.result _ c.narrowed-6.ensures (c.requires.bound.entries North Up);
  a24_small = small c.narrowed-7.result _ c.narrowed-7.ensures (c.requires.bound.entries North Clock);
  a33_small = small c.narrowed-8.result _ c.narrowed-8.ensures (c.requires.bound.entries Up Up);
  a34_small = small c.narrowed-9.result _ c.narrowed-9.ensures (c.requires.bound.entries Up Clock);
  a44_small = small c.narrowed-10.result _ c.narrowed-10.ensures (c.requires.bound.entries Clock Clock);
}
