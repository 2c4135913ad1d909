use Rattle.std.proofs.Common.{◌≡◌, map, take}
use Rattle.std.specs.Prelude.{All}
use Rattle.outage_notice.specs.Printing.{IsPrintable}
use Rattle.notice_book.specs.Outages.{at_leap_zero}
use Rattle.notice_book.proofs.outages.gps_outages.Given as goal

abbrev pub invariant-loop-outage : goal.invariant-loop-outage
invariant-loop-outage l = record {
  value : l.outages.items ≡ map at_leap_zero (take l.outage-index l.list);
  printable : All (IsPrintable 0) l.outages.items;
}
