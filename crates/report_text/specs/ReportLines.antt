-- What a line of a report says, or the first test that refuses it. No line is skipped, and a carriage
-- return is a byte as any other.
use Rattle.std.specs.Prelude.{◌==◌, ◌&&◌, ℕ, Bool, false, not, List, [], ◌∷◌, Option, Some, None, Result, Ok, length, nat_le, nat_lt, int_lt, bytes_eq, if◌then◌else◌}
use Rattle.std.specs.List.{find, list_all}
use Rattle.raim_model.specs.declared.TextWhy.{TextWhy}
use Rattle.raim_model.specs.declared.TextWhy.TheVariants.{Short, Word, Range, NotRising}
use Rattle.raim_model.specs.declared.verdict.Why.TheVariants.{Few, Singular, Slope}
use Rattle.raim_model.specs.declared.verdict.Cmp.TheVariants as cmp
use Rattle.raim_model.specs.declared.verdict.Verdict.{Verdict}
use Rattle.raim_model.specs.declared.verdict.Verdict.TheVariants.{Available, Unavailable, Undecided}
use Rattle.raim_model.specs.declared.verdict.Run.{Run}
use Rattle.text_lines.specs.Lines.{Text, onto_first}
use Rattle.text_lines.specs.Fields.{◌>>=◌, unless, or_else}
use Rattle.text_lines.specs.Reading.{Format}
use Rattle.gps_week.specs.TimeReading.{time_in, two_at}
use Rattle.report_text.specs.Report.{verdict_text, prns_of}

-- the lines of a report, each with the line feed that ends it; the last may have none
abbrev pub pieces_of : Text → List Text
pieces_of [] = []
pieces_of (b ∷ bs) = if b == 10 then (b ∷ []) ∷ pieces_of bs else onto_first b (pieces_of bs)

-- a byte in front of what stands before a mark
abbrev pub onto_front : ℕ → Option (Text × Text) → Option (Text × Text)
onto_front b None = None
onto_front b (Some parts) = Some (b ∷ parts.0, parts.1)

-- what stands before the first byte `mark`, and what stands behind it; nothing where there is no such byte
abbrev pub cut_at : ℕ → Text → Option (Text × Text)
cut_at mark [] = None
cut_at mark (b ∷ bs) = if b == mark then Some ([], bs) else onto_front b (cut_at mark bs)

-- where something stands before the mark
abbrev pub unless_empty : Option (Text × Text) → Option (Text × Text)
unless_empty None = None
unless_empty (Some parts) = if nat_lt 0 (length parts.0) then Some parts else None

-- a word of one or more bytes, which one space ends, and what stands behind that space
abbrev pub word_at : Text → Option (Text × Text)
word_at text = unless_empty (cut_at 32 text)

-- the nine forms of a verdict, with the PRNs that the digits at their places say
abbrev pub forms_of : Text → List Verdict
forms_of text =
    Available ∷ Unavailable Few ∷ Unavailable Singular ∷ Unavailable Slope
    ∷ Undecided (cmp.Mask (two_at text 15)) ∷ Undecided cmp.Det ∷ Undecided (cmp.Slope (two_at text 16))
    ∷ Undecided (cmp.DetWithout (two_at text 21)) ∷ Undecided (cmp.SlopeWithout (two_at text 23) (two_at text 26)) ∷ []

-- the text spells the verdict
abbrev pub spells : Text → Verdict → Bool
spells text verdict = bytes_eq text (verdict_text verdict)

-- the form that the text spells
abbrev pub verdict_of : Text → Option Verdict
verdict_of text = find (spells text) (forms_of text)

-- two words and a verdict, with one space between them
abbrev pub parts_of : Text → Result (Text × Text × Verdict) TextWhy
parts_of line = do
  start ← or_else Word (word_at line)
  end ← or_else Word (word_at start.1)
  verdict ← or_else Word (verdict_of end.1)
  Ok (start.0, end.0, verdict)

-- the PRN of a GPS satellite
abbrev pub is_prn : ℕ → Bool
is_prn prn = nat_le 1 prn && nat_le prn 32

-- two times, PRNs from 1 to 32, and an end that is after the start, tried in this order
abbrev pub run_of_parts : ℕ → Text × Text × Verdict → Result Run TextWhy
run_of_parts leap parts = do
  first ← time_in leap parts.0
  end ← time_in leap parts.1
  unless (not (list_all is_prn (prns_of parts.2))) Range
      (unless (not (int_lt first end)) NotRising (Ok (record { first = first; end = end; verdict = parts.2 })))

-- the run that a line says, without its line feed
abbrev pub run_of : ℕ → Text → Result Run TextWhy
run_of leap line = do
  parts ← parts_of line
  run_of_parts leap parts

-- the run that a line says; one without its line feed is short
abbrev pub entry_of : ℕ → Text → Result Run TextWhy
entry_of leap piece = do
  line ← or_else Short (cut_at 10 piece)
  run_of leap line.0

-- A line is judged by itself alone, no line is blank, and a report may end after any line, also before
-- its first.
abbrev pub report_lines : ℕ → Format Run TextWhy
report_lines leap = record {
  says = λ before piece. entry_of leap piece;
  at_end = λ runs. None;
  is_blank = λ run. false;
}
