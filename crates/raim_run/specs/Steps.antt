-- How many judgements a run makes.
use Rattle.std.specs.Prelude.{◌≡◌, ◌⊎◌, ◌+◌, ◌≤◌, ℕ, ℤ, List}
use Rattle.std.specs.declared.option.Option.{Option}
use Rattle.std.specs.declared.option.Option.TheVariants.{Some, None}
use Rattle.raim_model.specs.CaseCuts.{CutsFlight}
use Rattle.raim_model.specs.Cuts.{judgements_of_all}
use Rattle.raim_model.specs.Solution.{Case}
use Rattle.text_lines.specs.Lines.{Text}
use Rattle.flight_forecast.specs.Words.{verdict_against}
use Rattle.command_words.specs.Asked.{Asked}
use Rattle.raim_run.specs.Alerts.{alert_of}
use Rattle.raim_run.specs.Cases.{IsCaseOf}

-- the files are a case, and the steps grew by at most the judgements that halving the root pieces between its cuts needs
pub record AreJudgements (asked : Asked) (holds : Text → Option Text) (old new : ℕ) : Type 0 where
  pub case : Case
  pub accepted : IsCaseOf asked holds case
  pub cuts : List ℤ
  pub cut : CutsFlight case cuts
  pub few : new ≤ old + judgements_of_all (verdict_against (alert_of asked) case) cuts

-- no step was made, or those of judging a case
abbrev pub AreSteps : Asked → (Text → Option Text) → (old new : ℕ) → Type 0
AreSteps asked holds old new = (new ≡ old) ⊎ AreJudgements asked holds old new

-- none where nothing is asked
abbrev pub RunSteps : Option Asked → (Text → Option Text) → (old new : ℕ) → Type 0
RunSteps None holds old new = new ≡ old
RunSteps (Some asked) holds old new = AreSteps asked holds old new
