-- From what was done to what a run promises.
use Rattle.std.proofs.Common.{◌≡◌, ◌≢◌, ◌⊎◌, ◌∙◌, refl, sym, subst, ℕ, List, [], ◌∷◌, Option, Some, None, inl, inr, arith}
use Rattle.std.specs.Prelude.{IfSome, IsSome}
use Rattle.raim_model.specs.declared.TextWhy.{TextWhy}
use Rattle.raim_base.specs.Causes.{Rose}
use Rattle.text_lines.specs.Lines.{Text, lines_of}
use Rattle.text_lines.proofs.ReadingLaws.{never_refused, refused_once}
use Rattle.notice_model.specs.declared.notice.Notice.{Notice}
use Rattle.notice_book.specs.declared.status.NoticeStatus.{NoticeStatus}
use Rattle.notice_book.specs.declared.status.NoticeStatus.TheVariants as plain
use Rattle.notice_book.specs.Commands.{Asked, command_of}
use Rattle.notice_book.specs.Tables.{Tables}
use Rattle.notice_book.specs.Gains.{IsKept, Gains}
use Rattle.notice_book.specs.RunCauses.{WorkCause}
use Rattle.notice_book.specs.Asking.{AsksList}
use Rattle.notice_book.proofs.KeptLemmas.{gains_none}
use Rattle.notice_book.proofs.AskedLemmas.{asked_gains}
use Rattle.notice_command.specs.declared.status.NanuStatus.{NanuStatus}
use Rattle.notice_command.specs.declared.status.NanuStatus.TheVariants.{Plain, ReadFault, BadText, Stopped}
use Rattle.nanu_text.specs.Nanus.{nanu_lines}
use Rattle.notice_command.specs.FileWords.{file_of}
use Rattle.notice_command.specs.FileCauses.{Says, IsRefusedText, FileCause}
use Rattle.notice_command.specs.Accepted.{accepted_by}
use Rattle.notice_command.specs.RunFacts.{IsDoneOrStopped, AcceptsFile, RefusesFile}

-- a text is not both accepted and refused
never_both : (bytes : Text) (notices : List Notice) (line : ℕ) (why : TextWhy) → Says notices bytes → IsRefusedText line why bytes → ⊥
never_both bytes notices line why said (inl refused) = never_refused nanu_lines (lines_of bytes) said.1.entries line why said.1.accepted refused.1
never_both bytes notices line why said (inr long) = omega (arith, said.0, long.0)

-- and is refused once
once : (bytes : Text) (line other : ℕ) (why cause : TextWhy) → IsRefusedText line why bytes → IsRefusedText other cause bytes → (line ≡ other) × (why ≡ cause)
once bytes line other why cause (inl a) (inl b) = refused_once nanu_lines (lines_of bytes) line other why cause a.1 b.1
once bytes line other why cause (inl a) (inr b) = absurd (omega (arith, a.0, b.0))
once bytes line other why cause (inr a) (inl b) = absurd (omega (arith, a.0, b.0))
once bytes line other why cause (inr a) (inr b) = (a.1 ∙ sym b.1, a.2 ∙ sym b.2)

accepts_bytes : (bytes : Text) (failed fails : ℕ) (new : Option Tables) (before now : ℕ) (status : NanuStatus) (notices : List Notice) → FileCause (Some bytes) failed fails new before now status
    → Says notices bytes → (Rose failed fails → ⊥) → (Rose before now → ⊥) → IsDoneOrStopped status
accepts_bytes bytes failed fails new before now (Plain plain.Done) notices cause said calm quiet = tt
accepts_bytes bytes failed fails new before now (Plain plain.Memory) notices cause said calm quiet = tt
accepts_bytes bytes failed fails new before now (Plain plain.Usage) notices cause said calm quiet = cause
accepts_bytes bytes failed fails new before now (Plain (plain.Refused why)) notices cause said calm quiet = cause
accepts_bytes bytes failed fails new before now (Plain plain.KeeperFault) notices cause said calm quiet = quiet cause.0
accepts_bytes bytes failed fails new before now (Plain (plain.NotOpened why)) notices cause said calm quiet = quiet cause.0
accepts_bytes bytes failed fails new before now (Plain plain.WriteFault) notices cause said calm quiet = cause
accepts_bytes bytes failed fails new before now ReadFault notices cause said calm quiet = calm cause
accepts_bytes bytes failed fails new before now (BadText line why) notices cause said calm quiet = never_both bytes notices line why said cause
accepts_bytes bytes failed fails new before now (Stopped at why) notices cause said calm quiet = tt

-- a file that is accepted has its notices accepted or refused
pub file_accepts : (told : Option Text) (failed fails : ℕ) (new : Option Tables) (before now : ℕ) (status : NanuStatus) → FileCause told failed fails new before now status
    → AcceptsFile told failed fails before now status
file_accepts None failed fails new before now status cause = tt
file_accepts (Some bytes) failed fails new before now status cause = λ notices said calm quiet. accepts_bytes bytes failed fails new before now status notices cause said calm quiet

refuses_bytes : (bytes : Text) (failed fails : ℕ) (new : Option Tables) (before now : ℕ) (status : NanuStatus) (line : ℕ) (why : TextWhy) → FileCause (Some bytes) failed fails new before now status
    → IsRefusedText line why bytes → (Rose failed fails → ⊥) → (status ≡ BadText line why) ⊎ (status ≡ Plain plain.Memory)
refuses_bytes bytes failed fails new before now (Plain plain.Done) line why cause refused calm = absurd (never_both bytes cause.0 line why cause.1 refused)
refuses_bytes bytes failed fails new before now (Plain plain.Memory) line why cause refused calm = inr refl
refuses_bytes bytes failed fails new before now (Plain plain.Usage) line why cause refused calm = absurd cause
refuses_bytes bytes failed fails new before now (Plain (plain.Refused fault)) line why cause refused calm = absurd cause
refuses_bytes bytes failed fails new before now (Plain plain.KeeperFault) line why cause refused calm = absurd (never_both bytes cause.1.0 line why cause.1.1 refused)
refuses_bytes bytes failed fails new before now (Plain (plain.NotOpened fault)) line why cause refused calm = absurd (never_both bytes cause.1.0 line why cause.1.1 refused)
refuses_bytes bytes failed fails new before now (Plain plain.WriteFault) line why cause refused calm = absurd cause
refuses_bytes bytes failed fails new before now ReadFault line why cause refused calm = absurd (calm cause)
refuses_bytes bytes failed fails new before now (BadText other cause_of) line why cause refused calm =
    let same = once bytes other line cause_of why cause refused in
    inl (λ i. BadText (same.0 i) (same.1 i))
refuses_bytes bytes failed fails new before now (Stopped at fault) line why cause refused calm =
    let stopped = cause.2 in absurd (never_both bytes stopped.0 line why stopped.1 refused)

-- a file that is refused is refused at its line
pub file_refuses : (told : Option Text) (failed fails : ℕ) (new : Option Tables) (before now : ℕ) (status : NanuStatus) → FileCause told failed fails new before now status
    → RefusesFile told failed fails status
file_refuses None failed fails new before now status cause = tt
file_refuses (Some bytes) failed fails new before now status cause = λ line why refused calm. refuses_bytes bytes failed fails new before now status line why cause refused calm

-- the words of a file are those of no command
pub file_is_no_command : (words : List Text) → IsSome (file_of words) → command_of words ≡ None
file_is_no_command [] some = absurd cc
file_is_no_command (name ∷ []) some = absurd cc
file_is_no_command (name ∷ book ∷ []) some = absurd cc
file_is_no_command (name ∷ book ∷ verb ∷ []) some = absurd cc
file_is_no_command (name ∷ book ∷ verb ∷ path ∷ []) some = refl
file_is_no_command (name ∷ book ∷ verb ∷ path ∷ more ∷ rest) some = absurd cc

-- a run of a file is no usage
pub file_no_usage : (told : Option Text) (failed fails : ℕ) (new : Option Tables) (before now : ℕ) (status : NanuStatus) → FileCause told failed fails new before now status → status ≡ Plain plain.Usage → ⊥
file_no_usage told failed fails new before now status cause is = subst (λ (s : NanuStatus). FileCause told failed fails new before now s) is cause

module _ (old new : Option Tables) (before now : ℕ) (held holds : Option Text) (failed fails : ℕ) where
  some_held : (a : Asked) (s : NoticeStatus) → IfSome old IsKept → WorkCause old new before now held holds failed fails a.work s → (AsksList a → new ≡ old) → (s ≢ plain.Done → new ≡ old)
      → Gains old (accepted_by (Some a) (Plain s)) new
  some_held a plain.Done kept cause read same = asked_gains old new before now held holds failed fails a kept cause read
  some_held a plain.Usage kept cause read same = gains_none old new kept (same (λ e. cc))
  some_held a (plain.Refused why) kept cause read same = gains_none old new kept (same (λ e. cc))
  some_held a plain.KeeperFault kept cause read same = gains_none old new kept (same (λ e. cc))
  some_held a (plain.NotOpened why) kept cause read same = gains_none old new kept (same (λ e. cc))
  some_held a plain.WriteFault kept cause read same = gains_none old new kept (same (λ e. cc))
  some_held a plain.Memory kept cause read same = gains_none old new kept (same (λ e. cc))

  -- what a command accepted is what the tables gained
  pub command_held : (asked : Option Asked) (s : NoticeStatus) → IfSome old IsKept → IfSome asked (λ a. WorkCause old new before now held holds failed fails a.work s)
      → IfSome asked (λ a. AsksList a → new ≡ old) → (s ≢ plain.Done → new ≡ old) → (asked ≡ None → s ≡ plain.Usage) → Gains old (accepted_by asked (Plain s)) new
  command_held None s kept cause read same unasked =
      let usage : s ≡ plain.Usage = unasked refl in
      gains_none old new kept (same (λ e. let bad : plain.Usage ≡ plain.Done = sym usage ∙ e in cc))
  command_held (Some a) s kept cause read same unasked = some_held a s kept cause read same
