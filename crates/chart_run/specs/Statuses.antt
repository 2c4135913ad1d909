-- The number of each status, which is the exit status of the program: those of `raim`.
use Rattle.std.specs.Prelude.{ℕ}
use Rattle.chart_run.specs.declared.status.ChartStatus.{ChartStatus}
use Rattle.chart_run.specs.declared.status.ChartStatus.TheVariants.{Done, Usage, Refused, ReadFault, WriteFault, Memory}

abbrev pub number_of : ChartStatus → ℕ
number_of Done = 0
number_of Usage = 1
number_of (Refused line why) = 2
number_of ReadFault = 3
number_of WriteFault = 4
number_of Memory = 7
