use Rattle.std.proofs.Common.{ℕ, ◌<◌}
use Rattle.std.specs.Prelude.{ℤ, slice_index_or}
use Rattle.raim_model.specs.Cuts.{IsCutTime}
use Rattle.slope_cases.proofs.almanacs_in_force.are_cut_times.Given as goal

abbrev pub invariant-loop-t : goal.invariant-loop-t
invariant-loop-t l = (k : ℕ) (d : ℤ) → k < l.t-index → IsCutTime (slice_index_or l.times k d)
