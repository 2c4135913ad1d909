-- The blocks of a fleet: each says what the prediction of its own route says.
use Rattle.std.specs.Prelude.{◌≡◌, ℕ, List, [], ◌∷◌, ◌++◌}
use Rattle.raim_model.specs.Solution.{Case}
use Rattle.raim_base.specs.MemDeskState.{Each}
use Rattle.text_lines.specs.Lines.{Text}
use Rattle.fleet_text.specs.Fleet.{Outcome, IsBody, fleet_text}
use Rattle.fleet_text.specs.Fleet.Outcome.{Predicted, Refused, Overflows, Manifold}
use Rattle.raim_run.specs.declared.Status.{Status}
use Rattle.raim_run.specs.declared.Status.TheVariants as status
use Rattle.raim_run.specs.Answers.{AreFound}
use Rattle.raim_run.specs.Cases.{IsCaseOf}
use Rattle.raim_run.specs.Texts.{from_texts, held_in, AreRefused, Overflows as AreOverflowing, AreManifold}

-- the four texts are a case with these leap seconds
abbrev pub HaveLeap : Each Text → ℕ → Type 0
HaveLeap texts leap = (c : Case) × IsCaseOf from_texts (held_in texts) c × (leap ≡ c.limits.leap)

-- what `predict` says of the texts of four files; times are of UTC under these leap seconds
abbrev pub IsOutcomeOf : Each Text → (leap : ℕ) → Outcome → Type 0
IsOutcomeOf texts leap (Predicted runs) = (c : Case) × AreFound from_texts (held_in texts) c runs × (leap ≡ c.limits.leap)
IsOutcomeOf texts leap (Refused file line why) = AreRefused texts file line why
IsOutcomeOf texts leap (Overflows at prn) = AreOverflowing texts at prn × HaveLeap texts leap
IsOutcomeOf texts leap Manifold = AreManifold texts

-- The body of the block of four texts: the text that `predict` writes of them, or the line that says why it writes none.
pub record IsBodyOf (texts : Each Text) (body : Text) : Type 0 where
  pub leap : ℕ
  pub outcome : Outcome
  pub says : IsOutcomeOf texts leap outcome
  pub written : IsBody leap outcome body

-- the line in the place of a report, by the status of the prediction
abbrev pub IsLineOf : (leap : ℕ) → Status → Text → Type 0
IsLineOf leap (status.Refused file line why) text = IsBody leap (Refused file line why) text
IsLineOf leap (status.Overflow at prn) text = IsBody leap (Overflows at prn) text
IsLineOf leap status.TooManyRuns text = IsBody leap Manifold text
IsLineOf leap other text = ⊥

-- the texts of the prediction of one route: this one, and the other three files of the fleet
abbrev pub with_route : Each Text → Text → Each Text
with_route texts route = record { limits = texts.limits; almanac = texts.almanac; outages = texts.outages; route = route }

-- each route's body stands beside it
abbrev pub AreBodiesOf : Each Text → (routes bodies : List Text) → Type 0
AreBodiesOf texts [] [] = Unit {0}
AreBodiesOf texts [] (body ∷ bodies) = ⊥
AreBodiesOf texts (route ∷ routes) [] = ⊥
AreBodiesOf texts (route ∷ routes) (body ∷ bodies) = IsBodyOf (with_route texts route) body × AreBodiesOf texts routes bodies

-- The text of the fleet of these routes: a block for each, in their order.
pub record IsFleetOf (texts : Each Text) (routes : List Text) (text : Text) : Type 0 where
  pub bodies : List Text
  pub each : AreBodiesOf texts routes bodies
  pub spelled : text ≡ fleet_text bodies

-- the text of the fleet of the first of these routes, or of all
pub record IsFrontOf (texts : Each Text) (routes : List Text) (text : Text) : Type 0 where
  pub first : List Text
  pub later : List Text
  pub split : routes ≡ first ++ later
  pub fleet : IsFleetOf texts first text
