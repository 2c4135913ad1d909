-- A report is read as its runs, and as nothing else.
use Rattle.std.proofs.Common.{◌≡◌, ◌<◌, ℕ, zero, suc, List, [], ◌∷◌, ◌++◌, length, get_or, Option, Some, None, Ok, refl, sym, ap, ap₂, ◌∙◌, arith, subst}
use Rattle.std.specs.Prelude.{All}
use Rattle.std.proofs.lemmas.List.Elements.{All-cons, All-head, All-tail}
use Rattle.raim_model.specs.declared.verdict.Run.{Run}
use Rattle.text_lines.specs.Lines.{Text}
use Rattle.text_lines.specs.Reading.{Reads}
use Rattle.text_lines.proofs.ReadingLaws.{same_entries}
use Rattle.gps_week.proofs.InstantLemmas.{instant_in_range}
use Rattle.report_text.specs.Report.{IsReport, IsPrintable, IsReadable}
use Rattle.report_text.specs.ReportLines.{report_lines, pieces_of, entry_of, cut_at}
use Rattle.report_text.specs.Laws.{HasOneText, HasOneMeaning, HasPrintableRuns, ReadsReports, AcceptsReports}
use Rattle.report_text.proofs.CutLemmas.{cut_back}
use Rattle.report_text.proofs.PieceLemmas.{pieces-cons, entry_says, next_piece, last_piece}
use Rattle.report_text.proofs.PlainLemmas.{line_other}
use Rattle.report_text.proofs.LineLemmas.{one_line, line_says, line_back}

-- runs have one report at most
pub one_report : HasOneText
one_report leap [] text other a b = b ∙ sym a
one_report leap (run ∷ runs) text other a b =
    b.4 ∙ ap₂ (λ l r. l ++ 10 ∷ r) (one_line leap run a.0 b.0 a.2 b.2) (one_report leap runs a.1 b.1 a.3 b.3) ∙ sym a.4

-- one more line in front
reads_first : (leap : ℕ) (piece : Text) (pieces : List Text) (run : Run) (runs : List Run) → entry_of leap piece ≡ Ok run → Reads (report_lines leap) pieces runs → Reads (report_lines leap) (piece ∷ pieces) (run ∷ runs)
reads_first leap piece pieces run runs h r = record { count = ap suc r.count; each = each }
  where
    each : (k : ℕ) (d : Run) → k < length (piece ∷ pieces) → entry_of leap (get_or (piece ∷ pieces) k []) ≡ Ok (get_or (run ∷ runs) k d)
    each zero d below = h
    each (suc k) d below = r.each k d (omega arith)

-- one line less in front
reads_rest : (leap : ℕ) (piece : Text) (pieces : List Text) (run : Run) (runs : List Run) → Reads (report_lines leap) (piece ∷ pieces) (run ∷ runs) → (entry_of leap piece ≡ Ok run) × Reads (report_lines leap) pieces runs
reads_rest leap piece pieces run runs r =
    let count : suc (length runs) ≡ suc (length pieces) = r.count in
    (r.each 0 run (omega arith), record { count = omega (arith, count); each = λ k d below. r.each (suc k) d (omega arith) })

-- the lines of a report say its runs
reads_report : (leap : ℕ) (runs : List Run) (text : Text) → IsReport leap runs text → All IsReadable runs → Reads (report_lines leap) (pieces_of text) runs
reads_report leap [] text printed all = rw printed (record { count = refl; each = λ k d h. absurd (omega arith) })
reads_report leap (run ∷ runs) text printed all =
    let line : Text = printed.0 in
    let rest : Text = printed.1 in
    let plain = line_other leap run line printed.2 in
    let says : entry_of leap (line ++ 10 ∷ []) ≡ Ok run = entry_says leap line plain ∙ line_says leap run line printed.2 (All-head IsReadable run runs all) in
    let tail = reads_report leap runs rest printed.3 (All-tail IsReadable run runs all) in
    subst (λ (ls : List Text). Reads (report_lines leap) ls (run ∷ runs)) (sym (ap pieces_of printed.4 ∙ pieces-cons line rest plain))
    (reads_first leap (line ++ 10 ∷ []) (pieces_of rest) run runs says tail)

-- so it is accepted as these
pub report_reads : ReadsReports
report_reads leap runs text printed all = record { reads = reads_report leap runs text printed all; ends = refl }

-- a text that is not empty has a line
no_piece : (leap : ℕ) (b : ℕ) (bs : Text) → Reads (report_lines leap) (pieces_of (b ∷ bs)) [] → ⊥
no_piece leap b bs r = go (cut_at 10 (b ∷ bs)) refl
  where
    empty : (piece : Text) (more : List Text) → pieces_of (b ∷ bs) ≡ piece ∷ more → ⊥
    empty piece more e = let count : 0 ≡ suc (length more) = r.count ∙ ap length e in absurd (omega arith)

    go : (q : Option (Text × Text)) → cut_at 10 (b ∷ bs) ≡ q → ⊥
    go None e = empty _ _ (last_piece leap (b ∷ bs) (omega arith) e).0
    go (Some p) e = empty _ _ (next_piece leap (b ∷ bs) p e).0

-- lines that say runs are their report, and the runs are readable
both_ways : (leap : ℕ) (runs : List Run) (text : Text) → Reads (report_lines leap) (pieces_of text) runs → IsReport leap runs text × All IsReadable runs
both_ways leap [] [] r = (refl, λ k d h. absurd (omega arith))
both_ways leap [] (b ∷ bs) r = absurd (no_piece leap b bs r)
both_ways leap (run ∷ runs) [] r = let count : suc (length runs) ≡ 0 = r.count in absurd (omega arith)
both_ways leap (run ∷ runs) (b ∷ bs) r = go (both_ways leap runs) (cut_at 10 (b ∷ bs)) refl
  where
    go : ((text : Text) → Reads (report_lines leap) (pieces_of text) runs → IsReport leap runs text × All IsReadable runs) → (q : Option (Text × Text)) → cut_at 10 (b ∷ bs) ≡ q → IsReport leap (run ∷ runs) (b ∷ bs) × All IsReadable (run ∷ runs)
    go again None e =
        let last = last_piece leap (b ∷ bs) (omega arith) e in
        let first = (reads_rest leap (b ∷ bs) [] run runs (subst (λ (ls : List Text). Reads (report_lines leap) ls (run ∷ runs)) last.0 r)).0 in
        absurd (let bad = sym last.1 ∙ first in cc)
    go again (Some p) e =
        let next = next_piece leap (b ∷ bs) p e in
        let parts = reads_rest leap (p.0 ++ 10 ∷ []) (pieces_of p.1) run runs (subst (λ (ls : List Text). Reads (report_lines leap) ls (run ∷ runs)) next.0 r) in
        let line = line_back leap run p.0 (sym next.1 ∙ parts.0) in
        let rest = again p.1 parts.1 in
        ((p.0, p.1, line.0, rest.0, (cut_back 10 (b ∷ bs) p e).0), All-cons IsReadable run runs line.1 rest.1)

-- a text is accepted as the runs whose report it is
pub accepts_report : AcceptsReports
accepts_report leap runs text a = both_ways leap runs text a.reads

-- a text is the report of one list of readable runs at most
pub one_meaning : HasOneMeaning
one_meaning leap runs others text printed all printed_too all_too =
    same_entries (report_lines leap) (pieces_of text) others runs (report_reads leap others text printed_too all_too).reads (report_reads leap runs text printed all).reads

-- runs that have a report are printable
pub printable_runs : HasPrintableRuns
printable_runs leap [] text printed = λ k d below. absurd (omega arith)
printable_runs leap (run ∷ runs) text printed =
    let line = printed.2 in
    All-cons (IsPrintable leap) run runs (record {
      first = instant_in_range line.start leap run.first line.starts;
      end = instant_in_range line.end leap run.end line.ends;
      written = line.written;
    }) (printable_runs leap runs printed.1 printed.3)
