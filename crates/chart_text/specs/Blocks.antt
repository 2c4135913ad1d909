-- The blocks of a fleet's text: a line `route k`, and under it the report of a flight, or one line in its place.
use Rattle.std.specs.Prelude.{◌≡◌, ◌≢◌, ◌⊎◌, ◌||◌, ◌<◌, ℕ, Bool, true, false, nat_eq, List, [], ◌∷◌, ◌++◌, length, codes, if◌then◌else◌}
use Rattle.std.specs.List.{starts_with, list_all}
use Rattle.raim_model.specs.declared.Run.{Run}
use Rattle.raim_model.specs.declared.TextWhy.{TextWhy}
use Rattle.raim_model.specs.declared.TextWhy.TheVariants.{Label, Word, Short}
use Rattle.text_lines.specs.Lines.{Text, is_inside}
use Rattle.report_text.specs.Report.{IsReport}
use Rattle.report_text.specs.ReportLines.{pieces_of}
use Rattle.fleet_text.specs.Fleet.{head_of}
use Rattle.report_chart.specs.declared.Row.{Row}
use Rattle.report_chart.specs.declared.Row.TheVariants as row
use Rattle.report_chart.specs.Chart.{IsFlight}
use Rattle.chart_text.specs.LineNumbers.{number_behind}
use Rattle.chart_text.specs.Flights.{RefusesFlight}

-- what the block of a route says: the runs of its flight, or the line that stands in the place of its report
pub data Said : Type 0 where
  Flew : List Run → Said
  Reason : Text → Said

abbrev pub said_by : Row → Said
said_by (row.Flight runs) = Flew runs.items
said_by (row.Reason line) = Reason line.items

-- the text begins with these bytes
abbrev pub begins : Text → Text → Bool
begins text front = starts_with nat_eq text front

-- a line that begins a block
abbrev pub is_head : Text → Bool
is_head line = begins line (codes "route ")

-- a line that says why there is no report
abbrev pub is_reason : Text → Bool
is_reason line = begins line (codes "refused ") || begins line (codes "overflow at ") || begins line (codes "more than ")

-- what stands under a head: the report of the runs, or the line and its line feed
abbrev pub IsBodyOf : Said → Text → Type 0
IsBodyOf (Flew runs) body = IsReport 0 runs body
IsBodyOf (Reason line) body = body ≡ line ++ 10 ∷ []

-- a block may say so: the runs are a flight, or the line is one and says why there is no report
abbrev pub IsSayable : Said → Type 0
IsSayable (Flew runs) = IsFlight runs
IsSayable (Reason line) = (list_all is_inside line ≡ true) × (is_reason line ≡ true)

-- the lines up to the first that begins a block
abbrev pub body_in : List Text → Text
body_in [] = []
body_in (line ∷ lines) = if is_head line then [] else line ++ body_in lines

-- what stands in a text before the first line that begins a block
abbrev pub body_of : Text → Text
body_of text = body_in (pieces_of text)

-- the text is a line that has a line feed, and more behind it
abbrev pub HasMore : Text → Type 0
HasMore text = (first : Text) × (rest : Text) × (list_all is_inside first ≡ true) × (0 < length rest) × (text ≡ first ++ 10 ∷ rest)

-- a line in the place of a report has no line feed, or is not alone
abbrev pub RefusesReason : Text → ℕ → TextWhy → Type 0
RefusesReason body line why =
    ((line ≡ 1) × (why ≡ Short) × (list_all is_inside body ≡ true)) ⊎ ((line ≡ 2) × (why ≡ Word) × HasMore body)

-- what stands under a head is refused, first at this line of it for this cause
abbrev pub RefusesBody : Text → ℕ → TextWhy → Type 0
RefusesBody body line why = ((is_reason body ≡ true) × RefusesReason body line why) ⊎ ((is_reason body ≡ false) × RefusesFlight body line why)

-- the text begins with a line that begins a block, but not with the head of this number
pub record HasOtherHead (number : ℕ) (text : Text) (line : ℕ) (why : TextWhy) : Type 0 where
  pub head : is_head text ≡ true
  pub other : (tail : Text) → text ≢ head_of number ++ tail
  pub line_is : line ≡ 1
  pub why_is : why ≡ Label

-- behind the head of this number the first body is refused
pub record HasRefusedBody (number : ℕ) (text : Text) (line : ℕ) (why : TextWhy) : Type 0 where
  pub tail : Text
  pub under : ℕ
  pub split : text ≡ head_of number ++ tail
  pub refused : RefusesBody (body_of tail) under why
  pub line_is : line ≡ number_behind 1 under

-- the first block of a text, which is to have this number, is refused, first at this line of it for this cause
abbrev pub RefusesBlock : (number : ℕ) → Text → ℕ → TextWhy → Type 0
RefusesBlock number text line why = HasOtherHead number text line why ⊎ HasRefusedBody number text line why
