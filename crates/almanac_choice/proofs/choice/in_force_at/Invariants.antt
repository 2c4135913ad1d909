use Rattle.std.proofs.Common.{◌<◌, length}
use Rattle.almanac_choice.specs.Choices.{IsFirstBest}
use Rattle.almanac_choice.proofs.choice.in_force_at.Given as goal

abbrev pub invariant-loop-k : goal.invariant-loop-k
invariant-loop-k l = record { within : l.best < length l.times; best : IsFirstBest l.t l.times l.k l.best }
