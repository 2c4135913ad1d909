use Rattle.std.proofs.Common.{arith}
use Rattle.raim_base.specs.Causes.{Rose}
use Rattle.flight_files.proofs.sure.read_files_surely.Goals as goal

-- a count that stands at 0 did not rise
none_rose : Rose 0 0 → ⊥
none_rose rose = absurd (omega (arith, rose))

pub returns : goal.returns
returns c = record { no_fault = λ file fault. none_rose (c.read_files.ensures.fault file fault).rose }
