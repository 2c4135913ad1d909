use Rattle.std.proofs.Common.{◌≡◌, ◌<◌, ◌≤◌, length, ℕ, drop, take, Some, None, sym}
use Rattle.std.specs.List.{prefix_len}
use Rattle.text_lines.specs.Lines.{Text}
use Rattle.text_lines.proofs.Cuts.{prefix_len-le, slice_from}
use Rattle.report_text.specs.Marks.{is_other}
use Rattle.report_text.specs.ReportLines.{cut_at}
use Rattle.report_text.proofs.CutLemmas.{cut_first, cut_none}
use Rattle.report_text.proofs.cut.cut.Goals as goal

pub split_at-requires : goal.split_at-requires
split_at-requires c = rw c.len_before-len.ensures (prefix_len-le (is_other c.args.mark) c.args.text.now)

none : (mark : ℕ) (text back : Text) (n : ℕ) → n ≡ prefix_len (is_other mark) text → back ≡ drop n text → length back < 1 → cut_at mark text ≡ None
none mark text back n e b few = cut_none mark text (short e b few)
  where
    short : n ≡ prefix_len (is_other mark) text → back ≡ drop n text → length back < 1 → length (drop (prefix_len (is_other mark) text) text) < 1
    short e b few = rw (← e, ← b) few

first : (mark : ℕ) (text front back : Text) (n : ℕ) → n ≡ prefix_len (is_other mark) text → front ≡ take n text → back ≡ drop n text → 1 ≤ length back
    → cut_at mark text ≡ Some (front, drop 1 back)
first mark text front back n e f b some = rw (f, b, e) (cut_first mark text (long e b some))
  where
    long : n ≡ prefix_len (is_other mark) text → back ≡ drop n text → 1 ≤ length back → 1 ≤ length (drop (prefix_len (is_other mark) text) text)
    long e b some = rw (← e, ← b) some

pub returns-in-empty : goal.returns-in-empty
returns-in-empty c = sym (none _ _ _ _ c.len_before-len.ensures c.split_at.ensures.back c.in-empty.len_below)

pub returns-in-len1-up : goal.returns-in-len1-up
returns-in-len1-up c =
    rw (slice_from 1 c.split_at.result.1.now) (sym (first _ _ _ _ _ c.len_before-len.ensures c.split_at.ensures.front c.split_at.ensures.back c.in-len1-up.len_at_least))
