-- The cuts that judging a flight begins with.
use Rattle.std.specs.Prelude.{ℤ, List}
use Rattle.raim_model.specs.CaseCuts.{CutsFlight}
use Rattle.raim_model.specs.Solution.{Case}

-- the flight of the case has cuts
abbrev pub HasCuts : Case → Type 0
HasCuts c = (cuts : List ℤ) × CutsFlight c cuts
