use Rattle.std.proofs.Common.{take}
use Rattle.chart_text.proofs.FlightLemmas.{ArePassed}
use Rattle.chart_text.proofs.flight.first_break.Given as goal

abbrev pub invariant-loop-done : goal.invariant-loop-done
invariant-loop-done l = ArePassed l.start l.end (take l.done l.runs)
