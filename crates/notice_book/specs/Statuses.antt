-- The number of each status, which is the exit status of the program, and the status of a fault.
use Rattle.std.specs.Prelude.{ℕ}
use Rattle.notice_book.specs.declared.fault.BookFault.{BookFault}
use Rattle.notice_book.specs.declared.fault.BookFault.TheVariants as fault
use Rattle.notice_book.specs.declared.status.NoticeStatus.{NoticeStatus}
use Rattle.notice_book.specs.declared.status.NoticeStatus.TheVariants.{Done, Usage, Refused, KeeperFault, NotOpened, WriteFault, Memory}

abbrev pub number_of : NoticeStatus → ℕ
number_of Done = 0
number_of Usage = 1
number_of (Refused why) = 2
number_of KeeperFault = 3
number_of (NotOpened why) = 3
number_of WriteFault = 4
number_of Memory = 7

-- what a keeper could not do has a status of its own; every other fault is that of the notice
abbrev pub status_for : BookFault → NoticeStatus
status_for fault.KeeperFault = KeeperFault
status_for fault.Memory = Memory
status_for fault.BadNotice = Refused fault.BadNotice
status_for (fault.Old last) = Refused (fault.Old last)
status_for fault.Unknown = Refused fault.Unknown
status_for fault.Full = Refused fault.Full

-- the command was done, its notice is refused, or memory was wanting
abbrev pub IsDoneOrRefused : NoticeStatus → Type 0
IsDoneOrRefused Done = Unit {0}
IsDoneOrRefused (Refused why) = Unit {0}
IsDoneOrRefused Memory = Unit {0}
IsDoneOrRefused Usage = ⊥
IsDoneOrRefused KeeperFault = ⊥
IsDoneOrRefused (NotOpened why) = ⊥
IsDoneOrRefused WriteFault = ⊥
