-- The band of a flight: a bar for each of its runs, side by side, on a scale of 100,000 units.
use Rattle.std.specs.Prelude.{ℕ, ◌*◌, ◌/◌, ◌-◌, ℤ, pos, ◌≤ℤ◌, ◌<ℤ◌, ◌+ℤ◌, ◌-ℤ◌, unsigned_abs, List, ◌++◌, codes, decimal}
use Rattle.std.specs.List.{flat_map}
use Rattle.raim_model.specs.Constants.{day_ms}
use Rattle.raim_model.specs.declared.verdict.Run.{Run}
use Rattle.raim_model.specs.declared.span.Span.{Span}
use Rattle.text_lines.specs.Lines.{Text}
use Rattle.report_chart.specs.declared.kind.Kind.{Kind}
use Rattle.report_chart.specs.Clock.{clock_text}
use Rattle.report_chart.specs.Kinds.{kind_of, word_of, class_of}

-- how wide a band is
abbrev pub band_units : ℕ
band_units = 100000

-- how many milliseconds lie between two times
abbrev pub ms_between : ℤ → ℤ → ℕ
ms_between first end = unsigned_abs (end -ℤ first)

-- how long a run lasts
abbrev pub ms_of_run : Run → ℕ
ms_of_run run = ms_between run.first run.end

-- where a time of the flight stands on its band, rounded down
abbrev pub place : Span → ℤ → ℕ
place span t = band_units * ms_between span.first t / ms_between span.first span.end

-- how wide the bar of a run is
abbrev pub width : Span → Run → ℕ
width span run = place span run.end - place span run.first

-- where a bar stands, and how wide it is
abbrev pub bar_style : Kind → ℕ → ℕ → Text
bar_style kind x w = codes "<li class=" ++ class_of kind ++ codes " style=--x:" ++ decimal x ++ codes ";--w:" ++ decimal w

-- its times and its kind, as words
abbrev pub bar_title : Kind → ℤ → ℤ → Text
bar_title kind first end = codes " title=\"" ++ clock_text first ++ codes " to " ++ clock_text end ++ codes " " ++ word_of kind ++ codes "\">\n"

-- the bar of a run
abbrev pub bar : Span → Run → Text
bar span run = bar_style (kind_of run.verdict) (place span run.first) (width span run) ++ bar_title (kind_of run.verdict) run.first run.end

-- the bars of the runs, in their order
abbrev pub band : Span → List Run → Text
band span runs = codes "<ul class=band>\n" ++ flat_map (bar span) runs ++ codes "</ul>\n"

-- a run of some length, within a flight of a day at most
pub record IsWithin (span : Span) (run : Run) : Type 0 where
  pub after : span.first ≤ℤ run.first
  pub forward : run.first <ℤ run.end
  pub before : run.end ≤ℤ span.end
  pub short : span.end ≤ℤ (span.first +ℤ pos day_ms)
