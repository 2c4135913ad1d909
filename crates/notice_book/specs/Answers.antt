-- What each answer to a notice says of the tables and of the notice.
use Rattle.std.specs.Prelude.{◌≡◌, ◌⊎◌, ℕ, ◌<◌, ◌≤◌, length, None, Result, Ok, Err, IsSome, IfSome, IsSomeAnd}
use Rattle.raim_base.specs.Causes.{Rose}
use Rattle.notice_model.specs.declared.notice.Notice.{Notice}
use Rattle.notice_model.specs.Notices.{number_in, target_in, IsWellFormed}
use Rattle.notice_model.specs.Book.{greatest}
use Rattle.notice_model.specs.Entries.{entry_at}
use Rattle.notice_book.specs.declared.fault.BookFault.{BookFault}
use Rattle.notice_book.specs.declared.fault.BookFault.TheVariants.{BadNotice, Old, Unknown, Full, KeeperFault, Memory}
use Rattle.notice_book.specs.Tables.{Tables}

-- the number is above those that are held
abbrev pub IsNewer : Tables → Notice → Type 0
IsNewer tables notice = greatest tables.held < number_in notice

-- a Reschedule or a Cancel, and its target has no entry
abbrev pub NamesNone : Tables → Notice → Type 0
NamesNone tables notice = IsSomeAnd (target_in notice) (λ number. entry_at number tables.live ≡ None)

-- the target, where there is one, has an entry
abbrev pub NamesEntry : Tables → Notice → Type 0
NamesEntry tables notice = IfSome (target_in notice) (λ number. IsSome (entry_at number tables.live))

-- Each answer in the order of the tests. No two of them fit one notice, but for those of the keeper.
abbrev pub Answers : {T : Type 0} → Tables → Notice → Result T BookFault → Type 0
Answers tables notice (Ok done) = IsWellFormed notice × IsNewer tables notice × NamesEntry tables notice × (target_in notice ≡ None → length tables.live < 256)
Answers tables notice (Err BadNotice) = IsWellFormed notice → ⊥
Answers tables notice (Err (Old last)) = IsWellFormed notice × (last ≡ greatest tables.held) × (number_in notice ≤ last)
Answers tables notice (Err Unknown) = IsWellFormed notice × IsNewer tables notice × NamesNone tables notice
Answers tables notice (Err Full) = IsWellFormed notice × IsNewer tables notice × (target_in notice ≡ None) × (256 ≤ length tables.live)
Answers tables notice (Err KeeperFault) = Unit {0}
Answers tables notice (Err Memory) = Unit {0}

-- the keeper's count never falls, and KeeperFault is answered only where it rose
pub record HasBookCause {T : Type 0} (before now : ℕ) (result : Result T BookFault) : Type 0 where
  pub later : before ≤ now
  pub failed : result ≡ Err KeeperFault → Rose before now

-- the answers of a call that only reads
abbrev pub OnlyKeeperFails : BookFault → Type 0
OnlyKeeperFails fault = (fault ≡ KeeperFault) ⊎ (fault ≡ Memory)
