-- What a line of a file of messages says after those before it, or the first test that refuses it.
use Rattle.std.specs.Prelude.{ℕ, ℤ, pos, Bool, true, false, not, List, [], ◌∷◌, Option, Some, None, Result, Ok, fold, int_lt, codes, filter_map}
use Rattle.raim_model.specs.declared.TextWhy.{TextWhy}
use Rattle.raim_model.specs.declared.TextWhy.TheVariants.{Word, EmptySpan, Short}
use Rattle.notice_model.specs.declared.notice.Notice.{Notice}
use Rattle.notice_model.specs.declared.notice.Notice.TheVariants as notice
use Rattle.text_lines.specs.Lines.{Text}
use Rattle.text_lines.specs.Words.{words_of}
use Rattle.text_lines.specs.Fields.{◌>>=◌, unless}
use Rattle.text_lines.specs.Reading.{Format}
use Rattle.nanu_text.specs.declared.stage.Kind.{Kind}
use Rattle.nanu_text.specs.declared.stage.Kind.TheVariants.{Add, Reschedule, Cancel}
use Rattle.nanu_text.specs.declared.stage.Stage.{Stage}
use Rattle.nanu_text.specs.declared.stage.Stage.TheVariants.{Nothing, Between, Typed, Numbered, Referred, Placed, Started}
use Rattle.nanu_text.specs.declared.stage.Entry.{Entry}
use Rattle.nanu_text.specs.declared.stage.Entry.TheVariants as entry
use Rattle.nanu_text.specs.Values.{named, seven_of, is_word, kind_of, prn_of, time_of, stop_of}

abbrev pub is_blank : Entry → Bool
is_blank entry.Blank = true
is_blank (entry.Goes stage) = false
is_blank (entry.Ends said) = false

abbrev pub notice_in : Entry → Option Notice
notice_in entry.Blank = None
notice_in (entry.Goes stage) = None
notice_in (entry.Ends said) = Some said

-- the notices, in the order of the file
abbrev pub notices_in : List Entry → List Notice
notices_in entries = filter_map notice_in entries

-- how far the message has come after one more line
abbrev pub stage_next : Stage → Entry → Stage
stage_next stage entry.Blank = stage
stage_next stage (entry.Goes next) = next
stage_next stage (entry.Ends said) = Between

abbrev pub stage_behind : List Entry → Stage
stage_behind entries = fold stage_next Nothing entries

-- line 1: the type
abbrev pub typed_of : Text → Result Entry TextWhy
typed_of line = do
  value ← named (codes "nanutype") line
  kind ← kind_of value
  Ok (entry.Goes (Typed kind))

-- line 2: the number
abbrev pub numbered_of : Kind → Text → Result Entry TextWhy
numbered_of kind line = do
  value ← named (codes "nanunumber") line
  number ← seven_of value
  Ok (entry.Goes (Numbered kind number))

-- the value is `N/A`
abbrev pub none_of : {A : Type 0} → A → Text → Result A TextWhy
none_of nothing value = unless (not (is_word (codes "N/A") value)) Word (Ok nothing)

abbrev pub target_of : Kind → Text → Result ℕ TextWhy
target_of Add value = none_of 0 value
target_of Reschedule value = seven_of value
target_of Cancel value = seven_of value

-- line 3: the number of the notice that it is about
abbrev pub referred_of : Kind → ℕ → Text → Result Entry TextWhy
referred_of kind number line = do
  value ← named (codes "reference") line
  target ← target_of kind value
  Ok (entry.Goes (Referred kind number target))

-- line 4: the PRN
abbrev pub placed_of : Kind → ℕ → ℕ → Text → Result Entry TextWhy
placed_of kind number target line = do
  value ← named (codes "prn") line
  prn ← prn_of value
  Ok (entry.Goes (Placed kind number target prn))

abbrev pub start_of : Kind → Text → Result ℤ TextWhy
start_of Add value = time_of value
start_of Reschedule value = time_of value
start_of Cancel value = none_of (pos 0) value

-- line 5: the start
abbrev pub started_of : Kind → ℕ → ℕ → ℕ → Text → Result Entry TextWhy
started_of kind number target prn line = do
  value ← named (codes "start") line
  start ← start_of kind value
  Ok (entry.Goes (Started kind number target prn start))

abbrev pub is_after : ℤ → Option ℤ → Bool
is_after start None = true
is_after start (Some end) = int_lt start end

abbrev pub stop_after : ℤ → Text → Result (Option ℤ) TextWhy
stop_after start value = do
  end ← stop_of value
  unless (not (is_after start end)) EmptySpan (Ok end)

abbrev pub end_of : Kind → ℤ → Text → Result (Option ℤ) TextWhy
end_of Add start value = stop_after start value
end_of Reschedule start value = stop_after start value
end_of Cancel start value = none_of None value

abbrev pub notice_said : Kind → ℕ → ℕ → ℕ → ℤ → Option ℤ → Notice
notice_said Add number target prn start end = notice.Add number prn start end
notice_said Reschedule number target prn start end = notice.Reschedule number target start end
notice_said Cancel number target prn start end = notice.Cancel number target

-- line 6: the end, and with it the notice
abbrev pub ended_of : Kind → ℕ → ℕ → ℕ → ℤ → Text → Result Entry TextWhy
ended_of kind number target prn start line = do
  value ← named (codes "stop") line
  end ← end_of kind start value
  Ok (entry.Ends (notice_said kind number target prn start end))

abbrev pub message_of : Stage → Text → Result Entry TextWhy
message_of Nothing line = typed_of line
message_of Between line = typed_of line
message_of (Typed kind) line = numbered_of kind line
message_of (Numbered kind number) line = referred_of kind number line
message_of (Referred kind number target) line = placed_of kind number target line
message_of (Placed kind number target prn) line = started_of kind number target prn line
message_of (Started kind number target prn start) line = ended_of kind number target prn start line

abbrev pub solid_entry_of : Stage → List Text → Text → Result Entry TextWhy
solid_entry_of stage [] line = Ok entry.Blank
solid_entry_of stage (word ∷ words) line = message_of stage line

abbrev pub entry_of : Stage → Text → Result Entry TextWhy
entry_of stage line = solid_entry_of stage (words_of line) line

-- inside a message the file may not end, nor before the first
abbrev pub end_at : Stage → Option TextWhy
end_at Between = None
end_at Nothing = Some Short
end_at (Typed kind) = Some Short
end_at (Numbered kind number) = Some Short
end_at (Referred kind number target) = Some Short
end_at (Placed kind number target prn) = Some Short
end_at (Started kind number target prn start) = Some Short

abbrev pub nanu_lines : Format Entry TextWhy
nanu_lines = record {
  says = λ entries line. entry_of (stage_behind entries) line;
  at_end = λ entries. end_at (stage_behind entries);
  is_blank = is_blank;
}
