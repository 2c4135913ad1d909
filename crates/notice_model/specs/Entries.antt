-- Entries by their numbers: a finite map, as the list of its entries by rising number.
use Rattle.std.specs.Prelude.{ℕ, ◌==◌, ◌<◌, not, ℤ, nat_lt, List, ◌∷◌, ◌++◌, Option, Some, None, option_map, AllPairs, find, filter}
use Rattle.notice_model.specs.declared.notice.Notice.{Notice}
use Rattle.notice_model.specs.declared.notice.Notice.TheVariants.{Add, Reschedule, Cancel}
use Rattle.notice_model.specs.declared.notice.Live.{Live}
use Rattle.notice_model.specs.Notices.{target_in}
use Rattle.notice_model.specs.InEffect.{entry}

abbrev pub AreRising : List Live → Type 0
AreRising entries = AllPairs (λ before after. before.number < after.number) entries

-- the entry of a number
abbrev pub entry_at : ℕ → List Live → Option Live
entry_at number entries = find (λ e. e.number == number) entries

-- the entry of the least number above another
abbrev pub first_above : ℕ → List Live → Option Live
first_above number entries = find (λ e. nat_lt number e.number) entries

-- the entries with this one under its number, in place of the one that it had
abbrev pub with_entry : Live → List Live → List Live
with_entry e entries = filter (λ x. nat_lt x.number e.number) entries ++ e ∷ filter (λ x. nat_lt e.number x.number) entries

-- the entries without the one of a number
abbrev pub without : Option ℕ → List Live → List Live
without None entries = entries
without (Some number) entries = filter (λ x. not (x.number == number)) entries

-- the entries after a change that a notice brings: an entry put, or its target removed
abbrev pub entries_after : Notice → Option Live → List Live → List Live
entries_after notice (Some e) entries = with_entry e entries
entries_after notice None entries = without (target_in notice) entries

abbrev pub moved : ℤ → Option ℤ → Live → Live
moved start end e = entry e.number e.prn (start, end)

-- the change that a notice brings to the entries before it
abbrev pub change_of : List Live → Notice → Option Live
change_of entries (Add number prn start end) = Some (entry number prn (start, end))
change_of entries (Reschedule number target start end) = option_map (moved start end) (entry_at target entries)
change_of entries (Cancel number target) = None
