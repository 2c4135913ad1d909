-- What is promised of reports as such.
use Rattle.std.specs.Prelude.{◌≡◌, ℕ, List, All}
use Rattle.raim_model.specs.declared.verdict.Run.{Run}
use Rattle.text_lines.specs.Lines.{Text}
use Rattle.text_lines.specs.Reading.{Accepts}
use Rattle.report_text.specs.Report.{IsReport, IsPrintable, IsReadable}
use Rattle.report_text.specs.ReportLines.{pieces_of, report_lines}

-- runs have one report at most
abbrev pub HasOneText : Type 0
HasOneText = (leap : ℕ) (runs : List Run) (text other : Text) → IsReport leap runs text → IsReport leap runs other → other ≡ text

-- a text is the report of one list of readable runs at most
abbrev pub HasOneMeaning : Type 0
HasOneMeaning = (leap : ℕ) (runs others : List Run) (text : Text) → IsReport leap runs text → All IsReadable runs → IsReport leap others text → All IsReadable others → others ≡ runs

-- the report of readable runs is read as these runs
abbrev pub ReadsReports : Type 0
ReadsReports = (leap : ℕ) (runs : List Run) (text : Text) → IsReport leap runs text → All IsReadable runs → Accepts (report_lines leap) (pieces_of text) runs

-- a text that is read is the report of the runs that it says, and these are readable
abbrev pub AcceptsReports : Type 0
AcceptsReports = (leap : ℕ) (runs : List Run) (text : Text) → Accepts (report_lines leap) (pieces_of text) runs → IsReport leap runs text × All IsReadable runs

-- runs that have a report are printable
abbrev pub HasPrintableRuns : Type 0
HasPrintableRuns = (leap : ℕ) (runs : List Run) (text : Text) → IsReport leap runs text → All (IsPrintable leap) runs
