-- What a reader of outages answers, by the laws of outages and their texts.
use Rattle.std.proofs.Common.{◌≡◌, ℕ, List, Result, Ok, Err, refl}
use Rattle.std.specs.Prelude.{All, IfOk, IfErr}
use Rattle.raim_model.specs.declared.Outage.{Outage}
use Rattle.raim_model.specs.declared.Refusal.{Refusal}
use Rattle.raim_model.specs.declared.Refusal.TheVariants.{Memory, Text as Refused}
use Rattle.text_lines.specs.Lines.{Text, lines_of}
use Rattle.text_lines.specs.Refusals.{IsRefused}
use Rattle.text_lines.proofs.ReadingLaws.{never_refused}
use Rattle.outage_notice.specs.Outages.{outage_lines}
use Rattle.outage_notice.specs.Answers.{SayOutages}
use Rattle.outage_notice.specs.Printing.{ListsOutages, IsPrintable, AreReadable}
use Rattle.outage_notice.proofs.ListLemmas.{list_reads, says_once, printed_again}

-- over any answer that contracts see as a list of outages
module _ {V : Type 0} (items : V → List Outage) (leap : ℕ) (text : Text) where
  abbrev IsAccepted : Result V Refusal → Type 0
  IsAccepted r = IfOk r (λ v. SayOutages leap (lines_of text) (items v))

  -- what is accepted has a line, and is readable
  pub answer_printable : (r : Result V Refusal) → IsAccepted r → IfOk r (λ v. All (IsPrintable leap) (items v) × AreReadable (items v))
  answer_printable (Ok v) h = printed_again leap (lines_of text) (items v) h
  answer_printable (Err e) h = tt

  -- the text of readable outages is answered with these
  pub answer_again : (r : Result V Refusal) → IsAccepted r → (outages : List Outage) → ListsOutages leap outages text → AreReadable outages → IfOk r (λ v. items v ≡ outages)
  answer_again (Ok v) h outages printed readable = says_once leap (lines_of text) outages (items v) (list_reads leap outages text printed readable) h
  answer_again (Err e) h outages printed readable = tt

  -- and refused for want of memory alone
  pub answer_no_fault : (r : Result V Refusal) → IfErr r (IsRefused (outage_lines leap) (lines_of text)) → (outages : List Outage) → ListsOutages leap outages text → AreReadable outages → IfErr r (λ e. e ≡ Memory)
  answer_no_fault (Ok v) h outages printed readable = tt
  answer_no_fault (Err Memory) h outages printed readable = refl
  answer_no_fault (Err (Refused fault)) h outages printed readable =
      let says = list_reads leap outages text printed readable in
      absurd (never_refused (outage_lines leap) (lines_of text) says.entries fault.line fault.why says.accepted h)

-- what is printed is read
pub printed_reads : {V E : Type 0} (items : V → Text) (leap : ℕ) (outages : List Outage) (r : Result V E) → IfOk r (λ v. ListsOutages leap outages (items v))
    → IfOk r (λ v. AreReadable outages → SayOutages leap (lines_of (items v)) outages)
printed_reads items leap outages (Ok v) printed = λ readable. list_reads leap outages (items v) printed readable
printed_reads items leap outages (Err e) printed = tt
