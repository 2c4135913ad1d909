-- The words for a file, and for why its text is refused.
use Rattle.std.specs.Prelude.{ℕ, [], ◌∷◌, ◌++◌, codes, decimal}
use Rattle.raim_model.specs.declared.FileNo.{FileNo}
use Rattle.raim_model.specs.declared.FileNo.TheVariants as file
use Rattle.raim_model.specs.declared.TextWhy.{TextWhy}
use Rattle.raim_model.specs.declared.TextWhy.TheVariants as why
use Rattle.text_lines.specs.Lines.{Text}

abbrev pub file_name : FileNo → Text
file_name file.Limits = codes "limits"
file_name file.Almanac = codes "almanac"
file_name file.Outages = codes "outages"
file_name file.Route = codes "route"

abbrev pub why_name : TextWhy → Text
why_name why.Label = codes "Label"
why_name why.Word = codes "Word"
why_name why.Number = codes "Number"
why_name why.Time = codes "Time"
why_name why.Range = codes "Range"
why_name why.Twice = codes "Twice"
why_name why.PrnTwice = codes "PrnTwice"
why_name why.Missing = codes "Missing"
why_name why.BiasGap = codes "BiasGap"
why_name why.EmptySpan = codes "EmptySpan"
why_name why.NotRising = codes "NotRising"
why_name why.TooFew = codes "TooFew"
why_name why.TooMany = codes "TooMany"
why_name why.TooLong = codes "TooLong"
why_name why.Short = codes "Short"
why_name why.FileTooLong = codes "FileTooLong"
why_name (why.CountDiffers said found) = codes "CountDiffers"

-- the cause's name, and its numbers where it has some
abbrev pub why_text : TextWhy → Text
why_text (why.CountDiffers said found) = codes "CountDiffers" ++ codes " " ++ decimal said ++ codes " " ++ decimal found
why_text why = why_name why

-- the file, the line and the cause, and a line feed
abbrev pub refusal_line : FileNo → (line : ℕ) → TextWhy → Text
refusal_line file line why = file_name file ++ codes " line " ++ decimal line ++ codes ": " ++ why_text why ++ 10 ∷ []
