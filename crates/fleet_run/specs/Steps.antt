-- How many judgements a fleet makes.
use Rattle.std.specs.Prelude.{◌≡◌, ◌⊎◌, ℕ, List, [], ◌∷◌, ◌++◌}
use Rattle.std.specs.declared.option.Option.{Option}
use Rattle.raim_base.specs.MemDeskState.{Each}
use Rattle.text_lines.specs.Lines.{Text}
use Rattle.fleet_text.specs.Routes.{routes_of}
use Rattle.raim_run.specs.Texts.{TakesSteps}
use Rattle.fleet_run.specs.Blocks.{with_route}
use Rattle.fleet_run.specs.Files.{AreRead}

-- the steps of the predictions of the routes, one after another
abbrev pub TakeStepsInTurn : Each Text → List Text → (old new : ℕ) → Type 0
TakeStepsInTurn texts [] old new = new ≡ old
TakeStepsInTurn texts (route ∷ routes) old new = (next : ℕ) × TakesSteps (with_route texts route) old next × TakeStepsInTurn texts routes next new

-- those of the first routes, or of all
abbrev pub TakeFirstSteps : Each Text → List Text → (old new : ℕ) → Type 0
TakeFirstSteps texts routes old new = (first : List Text) × (later : List Text) × (routes ≡ first ++ later) × TakeStepsInTurn texts first old new

-- no step was made, or those of predictions of routes of the files that were read
abbrev pub FleetSteps : (Text → Option Text) → (paths : Each Text) → (old new : ℕ) → Type 0
FleetSteps holds paths old new = (new ≡ old) ⊎ ((texts : Each Text) × AreRead holds paths texts × TakeFirstSteps texts (routes_of texts.route) old new)
