-- What forms tell of the written tests at each time of a piece.
use Rattle.std.specs.Prelude.{◌≡◌, ◌≢◌}
use Rattle.raim_model.specs.declared.verdict.Why.{Why}
use Rattle.raim_model.specs.declared.verdict.Why.TheVariants as why
use Rattle.slope_laws.specs.declared.outcome.Outcome.{Outcome}
use Rattle.slope_laws.specs.declared.outcome.Outcome.TheVariants.{Passes, Fails, Overflows}
use Rattle.raim_model.specs.declared.verdict.Verdict.{Verdict}
use Rattle.raim_model.specs.declared.verdict.Verdict.TheVariants.{Available, Unavailable}

-- the test surely passes, surely fails for this reason, or neither is known
pub data Told : Type 0 where
  passing : Told
  failing : Why → Told
  unknown : Told

-- what is told of a slope is so of the written comparison, in which no number leaves its range
abbrev pub TellsOutcome : Told → Outcome → Type 0
TellsOutcome passing outcome = outcome ≡ Passes
TellsOutcome (failing w) outcome = (w ≡ why.Slope) × (outcome ≡ Fails)
TellsOutcome unknown outcome = outcome ≢ Overflows

-- what is told of a list of rows is so of the written verdict
abbrev pub TellsVerdict : Told → Verdict → Type 0
TellsVerdict passing verdict = verdict ≡ Available
TellsVerdict (failing w) verdict = verdict ≡ Unavailable w
TellsVerdict unknown verdict = Unit {0}

-- of two tests of which any that fails decides
abbrev pub both_told : Told → Told → Told
both_told passing next = next
both_told (failing w) next = failing w
both_told unknown passing = unknown
both_told unknown (failing w) = failing w
both_told unknown unknown = unknown

-- of two tests of which the first that does not pass decides
abbrev pub unless_told : Told → Told → Told
unless_told passing next = next
unless_told told next = told
