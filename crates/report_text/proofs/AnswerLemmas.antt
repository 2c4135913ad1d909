-- What a reader of reports answers, by the laws of reports.
use Rattle.std.proofs.Common.{◌≡◌, ℕ, List, Result, Ok, Err, inl, inr, refl}
use Rattle.std.specs.Prelude.{All, IfOk, IfErr}
use Rattle.raim_model.specs.declared.verdict.Run.{Run}
use Rattle.raim_model.specs.declared.Refusal.{Refusal}
use Rattle.raim_model.specs.declared.Refusal.TheVariants.{Memory, Text as Refused}
use Rattle.text_lines.specs.Lines.{Text}
use Rattle.text_lines.specs.Reading.{Accepts}
use Rattle.text_lines.specs.Refusals.{IsRefused}
use Rattle.text_lines.proofs.ReadingLaws.{same_entries, never_both}
use Rattle.report_text.specs.Report.{IsReport, IsPrintable, IsReadable}
use Rattle.report_text.specs.ReportLines.{report_lines, pieces_of}
use Rattle.report_text.proofs.ReportLaws.{report_reads, accepts_report, printable_runs}

-- over any answer that contracts see as a list of runs
module _ {V : Type 0} (items : V → List Run) (leap : ℕ) (text : Text) where
  abbrev IsAccepted : Result V Refusal → Type 0
  IsAccepted r = IfOk r (λ v. Accepts (report_lines leap) (pieces_of text) (items v))

  -- an accepted text is the report of the runs
  pub answer_report : (r : Result V Refusal) → IsAccepted r → IfOk r (λ v. IsReport leap (items v) text)
  answer_report (Ok v) h = (accepts_report leap (items v) text h).0
  answer_report (Err e) h = tt

  -- which are readable
  pub answer_readable : (r : Result V Refusal) → IsAccepted r → IfOk r (λ v. All IsReadable (items v))
  answer_readable (Ok v) h = (accepts_report leap (items v) text h).1
  answer_readable (Err e) h = tt

  -- and printable
  pub answer_printable : (r : Result V Refusal) → IsAccepted r → IfOk r (λ v. All (IsPrintable leap) (items v))
  answer_printable (Ok v) h = printable_runs leap (items v) text (accepts_report leap (items v) text h).0
  answer_printable (Err e) h = tt

  -- a report of readable runs is answered with these
  pub answer_again : (r : Result V Refusal) → IsAccepted r → (runs : List Run) → IsReport leap runs text → All IsReadable runs → IfOk r (λ v. items v ≡ runs)
  answer_again (Ok v) h runs printed all = same_entries (report_lines leap) (pieces_of text) (items v) runs h.reads (report_reads leap runs text printed all).reads
  answer_again (Err e) h runs printed all = tt

  -- and refused for want of memory alone
  pub answer_no_fault : (r : Result V Refusal) → IfErr r (IsRefused (report_lines leap) (pieces_of text)) → (runs : List Run) → IsReport leap runs text → All IsReadable runs → IfErr r (λ e. e ≡ Memory)
  answer_no_fault (Ok v) h runs printed all = tt
  answer_no_fault (Err Memory) h runs printed all = refl
  answer_no_fault (Err (Refused fault)) (inl f) runs printed all =
      absurd (never_both (report_lines leap) (pieces_of text) runs fault.line fault.why (report_reads leap runs text printed all).reads f)
  answer_no_fault (Err (Refused fault)) (inr f) runs printed all = let bad = f.ends in cc
