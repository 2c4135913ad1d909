-- The text of outages: a line `PRN START END` for each.
use Rattle.std.specs.Prelude.{◌≡◌, ◌≤◌, ◌<ℤ◌, ℕ, ℤ, List, [], ◌∷◌, ◌++◌, length, Option, Some, None, IfSome, All, codes}
use Rattle.raim_model.specs.declared.Outage.{Outage}
use Rattle.text_lines.specs.Lines.{Text}
use Rattle.gps_week.specs.TimeText.{two_digits}
use Rattle.gps_week.specs.GpsTime.{SpellsInstant, IsInstant}

-- the text of an end: a time of UTC, or `-` where there is none
abbrev pub IsEndText : ℕ → Option ℤ → Text → Type 0
IsEndText leap None text = text ≡ codes "-"
IsEndText leap (Some end) text = SpellsInstant text leap end

-- The line of an outage, without its line feed: its PRN in two digits, its start and its end, with one
-- space between them. The times are of UTC, which GPS time is ahead of by `leap` seconds.
pub record IsLineOf (leap : ℕ) (outage : Outage) (line : Text) : Type 0 where
  pub start : Text
  pub end : Text
  pub starts : SpellsInstant start leap outage.start
  pub ends : IsEndText leap outage.end end
  pub spelled : line ≡ two_digits outage.prn ++ codes " " ++ start ++ codes " " ++ end

-- The text lists the outages: their lines in their order, each ended by one line feed.
abbrev pub ListsOutages : ℕ → List Outage → Text → Type 0
ListsOutages leap [] text = text ≡ []
ListsOutages leap (outage ∷ outages) text =
    (line : Text) × (rest : Text) × IsLineOf leap outage line × ListsOutages leap outages rest × (text ≡ line ++ 10 ∷ rest)

-- a PRN of a GPS satellite
abbrev pub IsPrn : ℕ → Type 0
IsPrn prn = (1 ≤ prn) × (prn ≤ 32)

-- An outage that has a line: of a satellite of GPS, and both its times have a text.
pub record IsPrintable (leap : ℕ) (outage : Outage) : Type 0 where
  pub prn : IsPrn outage.prn
  pub start : IsInstant leap outage.start
  pub end : IfSome outage.end (IsInstant leap)

-- An outage whose line is read back: of a satellite of GPS, and its end is after its start.
pub record IsReadable (outage : Outage) : Type 0 where
  pub prn : IsPrn outage.prn
  pub forward : IfSome outage.end (λ end. outage.start <ℤ end)

-- as many outages as a file may have, each of them readable
pub record AreReadable (outages : List Outage) : Type 0 where
  pub few : length outages ≤ 256
  pub each : All IsReadable outages
