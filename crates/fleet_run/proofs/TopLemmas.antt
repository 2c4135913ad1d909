-- What the call says, from the cause of its status.
use Rattle.std.specs.Option.{MatchOption, IsSomeAnd}
use Rattle.std.proofs.Common.{◌≡◌, ◌≢◌, ◌⊎◌, ◌↔◌, ℕ, ℤ, sym, ◌∙◌, subst}
use Rattle.std.specs.declared.option.Option.{Option}
use Rattle.std.specs.declared.option.Option.TheVariants.{Some, None}
use Rattle.raim_model.specs.declared.FileNo.{FileNo}
use Rattle.raim_model.specs.declared.TextWhy.{TextWhy}
use Rattle.raim_base.specs.MemDeskState.{Each}
use Rattle.text_lines.specs.Lines.{Text}
use Rattle.raim_run.specs.declared.Status.{Status}
use Rattle.raim_run.specs.declared.Status.TheVariants.{Done, Usage, Refused, ReadFault, WriteFault, Overflow, TooManyRuns, Memory}
use Rattle.fleet_run.specs.Causes.{FleetCause, OfFleet, IsWholeWritten, IsCutOff, AreBlocksWritten, IsRefused}
use Rattle.fleet_run.specs.Files.{IsFaulty}
use Rattle.fleet_run.specs.Settled.{Settles, Completes}
use Rattle.fleet_run.proofs.StatusLemmas.{settled_by, completed_by, usage_exactly}

-- What is known of the desk and of the output: what each path holds, the counts of faults before and now, and what was written.
pub record Seen : Type 0 where
  pub holds : Text → Option Text
  pub before : FileNo → ℕ
  pub now : FileNo → ℕ
  pub old : Option Text
  pub new : Option Text
  pub failed : ℕ
  pub fails : ℕ

abbrev pub CauseOf : Seen → Each Text → Status → Type 0
CauseOf s ps status = FleetCause s.holds ps s.before s.now s.old s.new s.failed s.fails status

module _ (s : Seen) (paths : Option (Each Text)) (status : Status) (cause : MatchOption paths (status ≡ Usage) (λ ps. CauseOf s ps status)) where
  -- a status but Usage has its cause
  caused : (other : Status) → other ≢ Usage → status ≡ other → IsSomeAnd paths (λ ps. CauseOf s ps other)
  caused other differs is = go paths cause
    where
      go : (o : Option (Each Text)) → MatchOption o (status ≡ Usage) (λ ps. CauseOf s ps status) → IsSomeAnd o (λ ps. CauseOf s ps other)
      go None usage = absurd (differs (sym is ∙ usage))
      go (Some ps) why = subst (CauseOf s ps) is why

  -- and one that has none does not come
  uncaused : (other : Status) → other ≢ Usage → ((ps : Each Text) → CauseOf s ps other → ⊥) → status ≢ other
  uncaused other differs none is = go paths cause
    where
      go : (o : Option (Each Text)) → MatchOption o (status ≡ Usage) (λ ps. CauseOf s ps status) → ⊥
      go None usage = differs (sym is ∙ usage)
      go (Some ps) why = none ps (subst (CauseOf s ps) is why)

  cause_at : (ps : Each Text) → paths ≡ Some ps → CauseOf s ps status
  cause_at ps is = subst (λ (o : Option (Each Text)). MatchOption o (status ≡ Usage) (λ p. CauseOf s p status)) is cause

  pub usage : (status ≡ Usage) ↔ (paths ≡ None)
  usage = usage_exactly paths (CauseOf s) (λ ps other why e. subst (CauseOf s ps) e why) status cause

  pub done : status ≡ Done → IsSomeAnd paths (λ ps. OfFleet s.holds ps (λ texts. IsWholeWritten texts s.old s.new))
  done = caused Done (λ e. cc)

  pub write_fault : status ≡ WriteFault → IsSomeAnd paths (λ ps. OfFleet s.holds ps (λ texts. IsCutOff texts s.old s.new s.failed s.fails))
  write_fault = caused WriteFault (λ e. cc)

  pub memory : status ≡ Memory → IsSomeAnd paths (λ ps. (s.new ≡ s.old) ⊎ OfFleet s.holds ps (λ texts. AreBlocksWritten texts s.old s.new))
  memory = caused Memory (λ e. cc)

  pub refused : (file : FileNo) (line : ℕ) (why : TextWhy) → status ≡ Refused file line why → IsSomeAnd paths (λ ps. IsRefused s.holds ps file line why)
  refused file line why = caused (Refused file line why) (λ e. cc)

  pub read_fault : (file : FileNo) → status ≡ ReadFault file → IsSomeAnd paths (λ ps. IsFaulty s.holds ps s.before s.now file)
  read_fault file = caused (ReadFault file) (λ e. cc)

  pub no_overflow : (at : ℤ) (prn : ℕ) → status ≢ Overflow at prn
  no_overflow at prn = uncaused (Overflow at prn) (λ e. cc) (λ ps why. why)

  pub no_too_many : status ≢ TooManyRuns
  no_too_many = uncaused TooManyRuns (λ e. cc) (λ ps why. why)

  pub settled : (ps : Each Text) → paths ≡ Some ps → Settles s.holds ps status
  settled ps is = settled_by s.holds ps s.before s.now s.old s.new s.failed s.fails status (cause_at ps is)

  pub complete : (ps : Each Text) → paths ≡ Some ps → Completes s.holds ps s.before s.now s.failed s.fails status
  complete ps is = completed_by s.holds ps s.before s.now s.old s.new s.failed s.fails status (cause_at ps is)
