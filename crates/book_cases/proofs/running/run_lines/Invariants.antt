use Rattle.std.specs.Prelude.{IfSome}
use Rattle.notice_book.specs.Gains.{IsKept}
use Rattle.book_cases.proofs.running.run_lines.Given as goal

abbrev pub invariant-lines : goal.invariant-lines
invariant-lines g l = IfSome (g.Q.Keeper.tables l.keeper) IsKept
