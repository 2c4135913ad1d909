-- What is known of slopes and of lists, of the rows that are kept.
use Rattle.std.specs.Prelude.{◌≡◌, ◌-◌, ℤ, ◌≤ℤ◌, Bool, true, List, length, None}
use Rattle.std.proofs.Common.{ap, sym, subst, ◌∙◌}
use Rattle.std.proofs.lemmas.List.{length-map}
use Rattle.raim_model.specs.declared.almanac.AlmRecord.{AlmRecord}
use Rattle.raim_model.specs.CaseCuts.{MayBeJudged}
use Rattle.raim_model.specs.Solution.{Case}
use Rattle.slope_laws.specs.Rows.{NamedRow}
use Rattle.geom_inverse.specs.declared.row.Row.{Row}
use Rattle.slope_test.specs.Marks.{SlopesPass, ListsPass}
use Rattle.slope_test.specs.Named.{named, named_row}
use Rattle.verdict_laws.specs.Sights.{first_straddling, rows_seen}
use Rattle.piece_verdict.specs.declared.alert.Alert.{Alert}
use Rattle.piece_verdict.specs.Alerts.{shift_of}
use Rattle.piece_verdict.specs.Hidden.{is_marked, KnowsHidden, seen_knowing}
use Rattle.piece_verdict.specs.HiddenLaws.{seen_same}
use Rattle.piece_verdict.specs.Known.{rows_over, factor_for, KnowsSlopes, KnowsLists}

-- so many rows are kept as are seen
as_many : (rows : List Row) (seen : List NamedRow) → named rows ≡ seen → length seen ≡ length rows
as_many rows seen e = sym (ap length e) ∙ length-map rows named_row

-- what is known over a piece is known of the rows that are kept
pub slopes_kept : (alert : Alert) (c : Case) (hidden : List Bool) (first last : ℤ) (rows : List Row) (marks : List Bool) → named rows ≡ rows_over c hidden first last → KnowsSlopes alert c hidden marks first last → SlopesPass (shift_of alert) (named rows) (factor_for alert c (length rows)) marks
slopes_kept alert c hidden first last rows marks e h =
    subst (λ xs. SlopesPass (shift_of alert) xs (factor_for alert c (length rows)) marks) (sym e)
    (subst (λ n. SlopesPass (shift_of alert) (rows_over c hidden first last) (factor_for alert c n) marks) (as_many rows (rows_over c hidden first last) e) h.pass)

pub lists_kept : (alert : Alert) (c : Case) (hidden : List Bool) (first last : ℤ) (rows : List Row) (marks : List Bool) → named rows ≡ rows_over c hidden first last → KnowsLists alert c hidden marks first last → ListsPass (shift_of alert) (named rows) (factor_for alert c (length rows - 1)) marks
lists_kept alert c hidden first last rows marks e h =
    subst (λ xs. ListsPass (shift_of alert) xs (factor_for alert c (length rows - 1)) marks) (sym e)
    (subst (λ n. ListsPass (shift_of alert) (rows_over c hidden first last) (factor_for alert c (n - 1)) marks) (as_many rows (rows_over c hidden first last) e) h.pass)

-- and back, where none straddles
pub slopes_known : (alert : Alert) (c : Case) (hidden : List Bool) (first last : ℤ) (rows : List Row) (marks : List Bool) → first_straddling (seen_knowing c hidden first last) ≡ None → named rows ≡ rows_over c hidden first last
    → SlopesPass (shift_of alert) (named rows) (factor_for alert c (length rows)) marks → KnowsSlopes alert c hidden marks first last
slopes_known alert c hidden first last rows marks none e h = record {
  sure = λ i t. none;
  pass = subst (λ n. SlopesPass (shift_of alert) (rows_over c hidden first last) (factor_for alert c n) marks) (sym (as_many rows (rows_over c hidden first last) e))
      (subst (λ xs. SlopesPass (shift_of alert) xs (factor_for alert c (length rows)) marks) e h);
}

pub lists_known : (alert : Alert) (c : Case) (hidden : List Bool) (first last : ℤ) (rows : List Row) (marks : List Bool) → first_straddling (seen_knowing c hidden first last) ≡ None → named rows ≡ rows_over c hidden first last
    → ListsPass (shift_of alert) (named rows) (factor_for alert c (length rows - 1)) marks → KnowsLists alert c hidden marks first last
lists_known alert c hidden first last rows marks none e h = record {
  sure = λ i t. none;
  pass = subst (λ n. ListsPass (shift_of alert) (rows_over c hidden first last) (factor_for alert c (n - 1)) marks) (sym (as_many rows (rows_over c hidden first last) e))
      (subst (λ xs. ListsPass (shift_of alert) xs (factor_for alert c (length rows - 1)) marks) e h);
}

-- where more satellites are known to be hidden
pub slopes_more : (alert : Alert) (c : Case) (before now marks : List Bool) (first last : ℤ) → MayBeJudged c first last → first ≤ℤ last → ((rec : AlmRecord) → is_marked before rec ≡ true → is_marked now rec ≡ true)
    → KnowsHidden c now first last → KnowsSlopes alert c before marks first last → KnowsSlopes alert c now marks first last
slopes_more alert c before now marks first last p ordered kept k h = record {
  sure = λ i t. ap first_straddling (seen_same c first last before now p ordered kept k (h.sure i t)) ∙ h.sure i t;
  pass = λ i row lt t.
      subst (λ seen. SlopesPass (shift_of alert) (rows_seen seen) (factor_for alert c (length (rows_seen seen))) marks) (sym (seen_same c first last before now p ordered kept k (h.sure i t))) h.pass i row lt t;
}

pub lists_more : (alert : Alert) (c : Case) (before now marks : List Bool) (first last : ℤ) → MayBeJudged c first last → first ≤ℤ last → ((rec : AlmRecord) → is_marked before rec ≡ true → is_marked now rec ≡ true)
    → KnowsHidden c now first last → KnowsLists alert c before marks first last → KnowsLists alert c now marks first last
lists_more alert c before now marks first last p ordered kept k h = record {
  sure = λ i t. ap first_straddling (seen_same c first last before now p ordered kept k (h.sure i t)) ∙ h.sure i t;
  pass = λ i lt t.
      subst (λ seen. ListsPass (shift_of alert) (rows_seen seen) (factor_for alert c (length (rows_seen seen) - 1)) marks) (sym (seen_same c first last before now p ordered kept k (h.sure i t))) h.pass i lt t;
}
