use Rattle.std.proofs.Common.{◌≡◌, ◌≤◌, ◌-◌, length}
use Rattle.report_text.specs.ReportLines.{pieces_of}
use Rattle.fleet_text.specs.Routes.{parting_after, excess_line}
use Rattle.fleet_text.proofs.route.excess_separator.Given as goal

-- what is looked for is behind the lines so far
abbrev pub invariant-loop-len : goal.invariant-loop-len
invariant-loop-len l = record { few : l.partings ≤ 63; ahead : excess_line l.text ≡ parting_after (63 - l.partings) l.number (pieces_of l.rest) }

abbrev pub decreases-loop-len : goal.decreases-loop-len
decreases-loop-len l = length l.rest
