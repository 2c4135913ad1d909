-- The line that each status but Done writes to the note.
use Rattle.std.specs.Prelude.{[], ◌∷◌, ◌++◌, codes, decimal}
use Rattle.raim_base.specs.CauseWords.{why_text}
use Rattle.text_lines.specs.Lines.{Text}
use Rattle.chart_run.specs.declared.status.ChartStatus.{ChartStatus}
use Rattle.chart_run.specs.declared.status.ChartStatus.TheVariants.{Done, Usage, Refused, ReadFault, WriteFault, Memory}

abbrev pub note_of : ChartStatus → Text
note_of Done = []
note_of Usage = codes "raim: usage: raim_chart REPORT" ++ 10 ∷ []
note_of (Refused line why) = codes "raim: report line " ++ decimal line ++ codes ": " ++ why_text why ++ 10 ∷ []
note_of ReadFault = codes "raim: report: read fault" ++ 10 ∷ []
note_of WriteFault = codes "raim: write fault" ++ 10 ∷ []
note_of Memory = codes "raim: out of memory" ++ 10 ∷ []
