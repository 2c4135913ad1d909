-- The text of a fleet: a block for each route, in order.
use Rattle.std.specs.Prelude.{◌≡◌, ◌+◌, ℕ, ℤ, List, [], ◌∷◌, ◌++◌, codes, decimal}
use Rattle.raim_model.specs.declared.FileNo.{FileNo}
use Rattle.raim_model.specs.declared.Run.{Run}
use Rattle.raim_model.specs.declared.TextWhy.{TextWhy}
use Rattle.text_lines.specs.Lines.{Text}
use Rattle.gps_week.specs.GpsTime.{SpellsInstant}
use Rattle.report_text.specs.Report.{IsReport, prn_text}
use Rattle.raim_base.specs.CauseWords.{refusal_line}

-- what a block says of its route
pub data Outcome : Type 0 where
  -- the runs of its flight
  Predicted : List Run → Outcome
  -- that file is refused, at that line for that cause
  Refused : FileNo → ℕ → TextWhy → Outcome
  -- that millisecond of its flight is the first that overflows, for that satellite
  Overflows : ℤ → ℕ → Outcome
  -- its flight has more runs than a flight may have
  Manifold : Outcome

-- the line of an overflow, whose time is of UTC, which GPS time is ahead of by `leap` seconds
pub record IsOverflowLine (leap : ℕ) (at : ℤ) (prn : ℕ) (line : Text) : Type 0 where
  pub time : Text
  pub spells : SpellsInstant time leap at
  pub spelled : line ≡ codes "overflow at " ++ time ++ codes " PRN " ++ prn_text prn ++ 10 ∷ []

-- The body of a block: the report of the flight, with times of UTC, or one line in its place.
abbrev pub IsBody : (leap : ℕ) → Outcome → Text → Type 0
IsBody leap (Predicted runs) body = IsReport leap runs body
IsBody leap (Refused file line why) body = body ≡ codes "refused " ++ refusal_line file line why
IsBody leap (Overflows at prn) body = IsOverflowLine leap at prn body
IsBody leap Manifold body = body ≡ codes "more than 65536 intervals" ++ 10 ∷ []

-- the first line of a block
abbrev pub head_of : ℕ → Text
head_of number = codes "route " ++ decimal number ++ 10 ∷ []

-- a block: its first line, and its body
abbrev pub block_of : ℕ → Text → Text
block_of number body = head_of number ++ body

-- blocks with these bodies, the first of this number
abbrev pub blocks_from : ℕ → List Text → Text
blocks_from number [] = []
blocks_from number (body ∷ bodies) = block_of number body ++ blocks_from (number + 1) bodies

-- The text of a fleet whose blocks have these bodies: they are numbered from 1.
abbrev pub fleet_text : List Text → Text
fleet_text bodies = blocks_from 1 bodies
