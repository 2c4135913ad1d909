-- The text of a report: a line for each run of a flight.
use Rattle.std.specs.Prelude.{◌≡◌, ◌≤◌, ℕ, nat_lt, ◌<ℤ◌, List, [], ◌∷◌, ◌++◌, codes, All, if◌then◌else◌}
use Rattle.raim_model.specs.declared.verdict.Why.{Why}
use Rattle.raim_model.specs.declared.verdict.Why.TheVariants.{Few, Singular, Slope}
use Rattle.raim_model.specs.declared.verdict.Cmp.{Cmp}
use Rattle.raim_model.specs.declared.verdict.Cmp.TheVariants as cmp
use Rattle.raim_model.specs.declared.verdict.Verdict.{Verdict}
use Rattle.raim_model.specs.declared.verdict.Verdict.TheVariants.{Available, Unavailable, Undecided, Overflow}
use Rattle.raim_model.specs.declared.verdict.Run.{Run}
use Rattle.raim_model.specs.Runs.{IsOverflow}
use Rattle.text_lines.specs.Lines.{Text}
use Rattle.gps_week.specs.TimeText.{two_digits, three_digits}
use Rattle.gps_week.specs.GpsTime.{SpellsInstant, IsInstant}

-- a PRN in two digits, and in three from 100 on
abbrev pub prn_text : ℕ → Text
prn_text prn = if nat_lt prn 100 then two_digits prn else three_digits prn

-- the word for a reason
abbrev pub why_text : Why → Text
why_text Few = codes "Few"
why_text Singular = codes "Singular"
why_text Slope = codes "Slope"

-- the word for a comparison, and the PRNs that it names, that of a satellite left out first
abbrev pub cmp_text : Cmp → Text
cmp_text (cmp.Mask prn) = codes "Mask " ++ prn_text prn
cmp_text cmp.Det = codes "Det"
cmp_text (cmp.Slope prn) = codes "Slope " ++ prn_text prn
cmp_text (cmp.DetWithout left) = codes "DetWithout " ++ prn_text left
cmp_text (cmp.SlopeWithout left prn) = codes "SlopeWithout " ++ prn_text left ++ codes " " ++ prn_text prn

-- the words for a verdict; an overflow is in no report, and has none
abbrev pub verdict_text : Verdict → Text
verdict_text Available = codes "Available"
verdict_text (Unavailable why) = codes "Unavailable " ++ why_text why
verdict_text (Undecided cmp) = codes "Undecided " ++ cmp_text cmp
verdict_text (Overflow prn) = []

-- The line of a run, without its line feed: its start, its end and its verdict, with one space between
-- them. The times are of UTC, which GPS time is ahead of by `leap` seconds.
pub record IsLineOf (leap : ℕ) (run : Run) (line : Text) : Type 0 where
  pub start : Text
  pub end : Text
  pub starts : SpellsInstant start leap run.first
  pub ends : SpellsInstant end leap run.end
  pub written : ¬ IsOverflow run.verdict
  pub spelled : line ≡ start ++ codes " " ++ end ++ codes " " ++ verdict_text run.verdict

-- The text is the report of the runs: their lines in their order, each ended by one line feed.
abbrev pub IsReport : ℕ → List Run → Text → Type 0
IsReport leap [] text = text ≡ []
IsReport leap (run ∷ runs) text = (line : Text) × (rest : Text) × IsLineOf leap run line × IsReport leap runs rest × (text ≡ line ++ 10 ∷ rest)

-- A run that has a line: both its times have a text, and its verdict is no overflow.
pub record IsPrintable (leap : ℕ) (run : Run) : Type 0 where
  pub first : IsInstant leap run.first
  pub end : IsInstant leap run.end
  pub written : ¬ IsOverflow run.verdict

-- the PRNs that a comparison names
abbrev pub prns_of_cmp : Cmp → List ℕ
prns_of_cmp (cmp.Mask prn) = prn ∷ []
prns_of_cmp cmp.Det = []
prns_of_cmp (cmp.Slope prn) = prn ∷ []
prns_of_cmp (cmp.DetWithout left) = left ∷ []
prns_of_cmp (cmp.SlopeWithout left prn) = left ∷ prn ∷ []

-- the PRNs that a verdict names
abbrev pub prns_of : Verdict → List ℕ
prns_of Available = []
prns_of (Unavailable why) = []
prns_of (Undecided cmp) = prns_of_cmp cmp
prns_of (Overflow prn) = prn ∷ []

-- a PRN of a GPS satellite
abbrev pub IsPrn : ℕ → Type 0
IsPrn prn = (1 ≤ prn) × (prn ≤ 32)

-- A run whose line is read back: its end is after its start, and the PRNs that it names are 1 to 32.
pub record IsReadable (run : Run) : Type 0 where
  pub forward : run.first <ℤ run.end
  pub prns : All IsPrn (prns_of run.verdict)
