-- The number of each status, which is the exit status of the program.
use Rattle.std.specs.Prelude.{ℕ}
use Rattle.notice_book.specs.Statuses.{number_of as plain_number}
use Rattle.notice_book.specs.declared.fault.BookFault.{BookFault}
use Rattle.notice_book.specs.declared.fault.BookFault.TheVariants as fault
use Rattle.notice_book.specs.declared.in_order.BookStop.{BookStop}
use Rattle.notice_book.specs.declared.status.NoticeStatus.TheVariants as plain
use Rattle.notice_command.specs.declared.status.NanuStatus.{NanuStatus}
use Rattle.notice_command.specs.declared.status.NanuStatus.TheVariants.{Plain, ReadFault, BadText, Stopped}

abbrev pub number_of : NanuStatus → ℕ
number_of (Plain status) = plain_number status
number_of ReadFault = 5
number_of (BadText line why) = 6
number_of (Stopped at why) = 2

abbrev pub status_at : ℕ → BookFault → NanuStatus
status_at at fault.KeeperFault = Plain plain.KeeperFault
status_at at fault.Memory = Plain plain.Memory
status_at at fault.BadNotice = Stopped at fault.BadNotice
status_at at (fault.Old last) = Stopped at (fault.Old last)
status_at at fault.Unknown = Stopped at fault.Unknown
status_at at fault.Full = Stopped at fault.Full

abbrev pub status_for : BookStop → NanuStatus
status_for stop = status_at stop.at stop.why
