-- The table of what is not Available.
use Rattle.std.specs.Prelude.{◌==◌, ℕ, ℤ, max, Bool, not, List, [], ◌∷◌, ◌++◌, codes, decimal, length, filter, if◌then◌else◌}
use Rattle.std.specs.List.{flat_map, fold, list_any}
use Rattle.raim_model.specs.declared.verdict.Run.{Run}
use Rattle.raim_model.specs.declared.verdict.Verdict.{Verdict}
use Rattle.text_lines.specs.Lines.{Text}
use Rattle.report_chart.specs.declared.kind.Kind.TheVariants.{Available, Undecided}
use Rattle.report_chart.specs.Kinds.{has_kind, kind_of, word_of}
use Rattle.report_chart.specs.Clock.{clock_text, lasting_text}
use Rattle.report_chart.specs.Band.{ms_of_run}
use Rattle.report_chart.specs.Reasons.{reason_words}

abbrev pub is_gap : Run → Bool
is_gap run = not (has_kind Available run)

-- the runs that are not Available, in their order
abbrev pub gaps_of : List Run → List Run
gaps_of runs = filter is_gap runs

-- how long the longest lasts
abbrev pub longest_of : List Run → ℕ
longest_of gaps = fold (λ ms run. max ms (ms_of_run run)) 0 gaps

-- a cell, which is marked where it is as long as the longest
abbrev pub length_cell : ℕ → ℕ → Text
length_cell longest ms = (if ms == longest then codes "<th>" else codes "<td>") ++ lasting_text ms

abbrev pub gap_times : ℤ → ℤ → Text
gap_times first end = codes "<tr><td>" ++ clock_text first ++ codes "<td>" ++ clock_text end

abbrev pub gap_cause : Verdict → Text
gap_cause verdict = codes "<td>" ++ word_of (kind_of verdict) ++ codes "<td>" ++ reason_words verdict ++ codes "\n"

abbrev pub gap_row : ℕ → Run → Text
gap_row longest run = gap_times run.first run.end ++ length_cell longest (ms_of_run run) ++ gap_cause run.verdict

abbrev pub gap_rows : List Run → Text
gap_rows gaps = flat_map (gap_row (longest_of gaps)) gaps

-- how to read a time that is undecided, where there is one
abbrev pub advice : List Run → Text
advice gaps = if list_any (has_kind Undecided) gaps then codes "<p>Count undecided times as not available: there the evaluation cannot tell.\n" else []

abbrev pub gaps_summary : List Run → Text
gaps_summary gaps = codes "<p>Runs that are not Available: " ++ decimal (length gaps) ++ codes ". The longest lasts " ++ lasting_text (longest_of gaps) ++ codes ".\n"

abbrev pub gap_table : List Run → Text
gap_table gaps = codes "<table class=gaps>\n<tr><th>Start<th>End<th>Length<th>Kind<th>Reason\n" ++ gap_rows gaps ++ codes "</table>\n"

-- what is said of the runs that are not Available
abbrev pub gaps_text : List Run → Text
gaps_text [] = codes "<p>The whole flight is Available.\n"
gaps_text (gap ∷ gaps) = gaps_summary (gap ∷ gaps) ++ advice (gap ∷ gaps) ++ gap_table (gap ∷ gaps)
