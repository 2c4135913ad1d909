use Rattle.std.proofs.Common.{◌≡◌, take}
use Rattle.std.specs.Prelude.{false}
use Rattle.std.specs.List.{list_any}
use Rattle.report_chart.specs.declared.kind.Kind.TheVariants.{Undecided}
use Rattle.report_chart.specs.Kinds.{has_kind}
use Rattle.report_chart.proofs.gaps.has_undecided.Given as goal

-- none so far
abbrev pub invariant-loop-run : goal.invariant-loop-run
invariant-loop-run l = list_any (has_kind Undecided) (take l.run-index l.gaps) ≡ false
