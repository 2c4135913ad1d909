use Rattle.std.proofs.Common.{◌≡◌, ◌≤◌, take}
use Rattle.std.specs.Prelude.{All}
use Rattle.notice_model.specs.Notices.{IsWellFormed}
use Rattle.notice_book.specs.Gains.{Gains}
use Rattle.notice_book.proofs.in_order.accept_each.Given as goal

abbrev pub invariant-loop-notice : goal.invariant-loop-notice
invariant-loop-notice g l = record {
  count : l.at ≡ l.notice-index;
  later : g.Q.Keeper.faults l.fn.keeper ≤ g.Q.Keeper.faults l.keeper;
  started : g.Q.Keeper.started l.keeper ≡ g.Q.Keeper.started l.fn.keeper;
  formed : All IsWellFormed (take l.notice-index l.list);
  held : Gains (g.Q.Keeper.tables l.fn.keeper) (take l.notice-index l.list) (g.Q.Keeper.tables l.keeper);
}
