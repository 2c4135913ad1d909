-- The totals of a flight: of each kind of verdict, how many runs have it and how long they last, and the whole.
use Rattle.std.specs.Prelude.{ℕ, ◌≤◌, List, ◌++◌, codes, decimal, length, All, if◌then◌else◌}
use Rattle.std.specs.List.{sum_by, count_by}
use Rattle.raim_model.specs.Constants.{day_ms}
use Rattle.raim_model.specs.declared.verdict.Run.{Run}
use Rattle.raim_model.specs.declared.span.Span.{Span}
use Rattle.text_lines.specs.Lines.{Text}
use Rattle.report_chart.specs.declared.kind.Kind.{Kind}
use Rattle.report_chart.specs.declared.kind.Kind.TheVariants.{Available, Unavailable, Undecided}
use Rattle.report_chart.specs.Kinds.{has_kind, word_of}
use Rattle.report_chart.specs.Clock.{lasting_text}
use Rattle.report_chart.specs.Band.{ms_between, ms_of_run}

-- how many runs are of a kind
abbrev pub runs_of : Kind → List Run → ℕ
runs_of kind runs = count_by (has_kind kind) runs

-- how many milliseconds a run adds to those of a kind
abbrev pub ms_added : Kind → Run → ℕ
ms_added kind run = if has_kind kind run then ms_of_run run else 0

-- how many milliseconds are of a kind
abbrev pub ms_of : Kind → List Run → ℕ
ms_of kind runs = sum_by (ms_added kind) runs

abbrev pub total_row : Text → ℕ → ℕ → Text
total_row name runs ms = codes "<tr><td>" ++ name ++ codes "<td>" ++ decimal runs ++ codes "<td>" ++ lasting_text ms ++ codes "\n"

abbrev pub kind_row : Kind → List Run → Text
kind_row kind runs = total_row (word_of kind) (runs_of kind runs) (ms_of kind runs)

abbrev pub totals : Span → List Run → Text
totals span runs =
    codes "<table>\n<tr><th>Kind<th>Runs<th>Time\n" ++ kind_row Available runs ++ kind_row Unavailable runs ++ kind_row Undecided runs
    ++ total_row (codes "Whole flight") (length runs) (ms_between span.first span.end) ++ codes "</table>\n"

-- a run of a day at most
abbrev pub IsShort : Run → Type 0
IsShort run = ms_of_run run ≤ day_ms

-- Runs that can be counted: no more of them than a day has milliseconds, and each of a day at most.
pub record AreCountable (runs : List Run) : Type 0 where
  pub few : length runs ≤ day_ms
  pub short : All IsShort runs
