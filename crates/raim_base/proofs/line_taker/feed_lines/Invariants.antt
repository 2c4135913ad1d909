use Rattle.std.proofs.Common.{◌≡◌, ◌≤◌, ◌-◌, ◌+◌, ℕ, List, length}
use Rattle.std.specs.Io.KnownBytes.{Consumes}
use Rattle.text_lines.specs.Lines.{Text}
use Rattle.raim_base.specs.Calls.{MakesCalls, ReadsAFront}
use Rattle.raim_base.specs.Sizes.{longest_file}
use Rattle.raim_base.specs.Desks.{KeepsOthers}
use Rattle.raim_base.specs.Feeding.{Feeds}
use Rattle.raim_base.proofs.line_taker.feed_lines.Given as goal

-- what was given and what is left are what the path holds, and the lines that end in what was given were fed
abbrev pub invariant-loop-given : goal.invariant-loop-given
invariant-loop-given g l = (text : Text) × (length text ≡ l.given) × Consumes (g.D.Desk.holds l.fn.desk l.path) (g.D.Desk.left l.desk l.file) text
    × Feeds (g.T.LineTaker.stands l.fn.taker) (g.T.LineTaker.stands l.taker) text l.carried.items
    × (l.given ≤ longest_file + 1)
    × ((p : List ℕ) → g.D.Desk.holds l.desk p ≡ g.D.Desk.holds l.fn.desk p)
    × (g.D.Desk.faults l.fn.desk l.file ≤ g.D.Desk.faults l.desk l.file)
    × KeepsOthers (g.D.Desk.left l.fn.desk) (g.D.Desk.left l.desk) (g.D.Desk.faults l.fn.desk) (g.D.Desk.faults l.desk) l.file
    × (g.T.LineTaker.made l.taker ≡ g.T.LineTaker.made l.fn.taker)
    × MakesCalls (g.D.Desk.calls l.fn.desk) (g.D.Desk.calls l.desk) (ReadsAFront l.file l.path)

abbrev pub decreases-loop-given : goal.decreases-loop-given
decreases-loop-given g l = longest_file + 1 - l.given
