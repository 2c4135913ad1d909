-- What is promised of outages and their texts as such.
use Rattle.std.specs.Prelude.{◌≡◌, ℕ, List, All}
use Rattle.raim_model.specs.declared.Outage.{Outage}
use Rattle.text_lines.specs.Lines.{Text, lines_of}
use Rattle.outage_notice.specs.Answers.{SayOutages}
use Rattle.outage_notice.specs.Printing.{ListsOutages, IsPrintable, AreReadable}

-- outages have one text at most
abbrev pub HaveOneText : Type 0
HaveOneText = (leap : ℕ) (outages : List Outage) (text other : Text) → ListsOutages leap outages text → ListsOutages leap outages other → other ≡ text

-- a text lists one list of readable outages at most
abbrev pub HasOneMeaning : Type 0
HasOneMeaning = (leap : ℕ) (outages others : List Outage) (text : Text) → ListsOutages leap outages text → AreReadable outages
    → ListsOutages leap others text → AreReadable others → others ≡ outages

-- the text of readable outages is read as these
abbrev pub ReadsLists : Type 0
ReadsLists = (leap : ℕ) (outages : List Outage) (text : Text) → ListsOutages leap outages text → AreReadable outages → SayOutages leap (lines_of text) outages

-- outages that were read are readable, and each has a line
abbrev pub ArePrintedAgain : Type 0
ArePrintedAgain = (leap : ℕ) (lines : List Text) (outages : List Outage) → SayOutages leap lines outages → All (IsPrintable leap) outages × AreReadable outages
