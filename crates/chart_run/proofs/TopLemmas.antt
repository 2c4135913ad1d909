-- What the call says, from the cause of its status.
use Rattle.std.specs.Option.{MatchOption, IsSomeAnd}
use Rattle.std.proofs.Common.{◌≡◌, ◌≢◌, ◌⊎◌, ◌<◌, ◌≤◌, ℕ, length, refl, sym, ◌∙◌, subst, inl, inr, arith}
use Rattle.std.specs.Prelude.{IfSome}
use Rattle.std.specs.declared.option.Option.{Option}
use Rattle.std.specs.declared.option.Option.TheVariants.{Some, None}
use Rattle.raim_model.specs.declared.Refusal.{Refusal}
use Rattle.raim_model.specs.declared.Refusal.TheVariants as stop
use Rattle.raim_model.specs.declared.TextWhy.{TextWhy}
use Rattle.raim_model.specs.declared.TextWhy.TheVariants.{FileTooLong}
use Rattle.raim_base.specs.Causes.{Rose}
use Rattle.text_lines.specs.Lines.{Text}
use Rattle.chart_text.specs.Charts.{Shown, IsChartText, IsShowable, RefusesChart}
use Rattle.chart_text.specs.Refusals.{IsChartRefused}
use Rattle.chart_text.proofs.MeaningLemmas.{shown_passes}
use Rattle.chart_text.proofs.OnceLemmas.{chart_once}
use Rattle.chart_run.specs.declared.status.ChartStatus.{ChartStatus}
use Rattle.chart_run.specs.declared.status.ChartStatus.TheVariants.{Done, Usage, Refused, ReadFault, WriteFault, Memory}
use Rattle.chart_run.specs.Causes.{ChartCause, IsText, OfReport, HasFault, IsRefused}
use Rattle.chart_run.specs.Files.{longest_report, IsTooLong}
use Rattle.chart_run.specs.Pages.{TextStops, status_for}
use Rattle.chart_run.specs.Settled.{Settles, Completes}

-- what stops the reading of a text
pub stops_so : (text : Text) (refusal : Refusal) → IsChartRefused text refusal → TextStops text (status_for refusal)
stops_so text stop.Memory h = tt
stops_so text (stop.Text fault) h = h

-- of what the path holds, of the counts of faults before and now, and of what was written
module _ (told : Option Text) (before now : ℕ) (old new : Option Text) (failed fails : ℕ) where
  abbrev Cause : ChartStatus → Type 0
  Cause status = ChartCause told before now old new failed fails status

  module _ (text : Text) (is : told ≡ Some text) where
    -- the file that was read is the one that the path holds
    read_told : (other : Text) → IsText told other → other ≡ text
    read_told other read = subst (λ (t : Option Text). IfSome t (λ bytes. other ≡ bytes)) is read.is

    few : (other : Text) → IsText told other → length text ≤ longest_report
    few other read = subst (λ (t : Text). length t ≤ longest_report) (read_told other read) read.short

    many : IsTooLong told → longest_report < length text
    many long = subst IsTooLong is long

    -- a text that was read says what is shown, and is not refused
    page_is : (Is : Text → Type 0) (line : ℕ) (why : TextWhy) → OfReport told Is → RefusesChart text line why → ⊥
    page_is Is line why r f = shown_passes r.text _ line why r.page_of.says r.page_of.showable (subst (λ (t : Text). RefusesChart t line why) (sym (read_told r.text r.read)) f)

    not_long : (Is : Text → Type 0) → OfReport told Is → longest_report < length text → ⊥
    not_long Is r long = let short = few r.text r.read in absurd (omega arith)

    -- a fault of a text that is read is the fault of what the path holds
    fault_told : (line : ℕ) (why : TextWhy) → HasFault told line why → RefusesChart text line why
    fault_told line why f = subst (λ (t : Text). RefusesChart t line why) (read_told f.text f.read) f.refuses

    by_length : (status : ChartStatus) → Cause status → status ≢ Memory → status ≢ ReadFault → longest_report < length text → status ≡ Refused 0 FileTooLong
    by_length Done cause m r long = absurd (not_long _ cause long)
    by_length Usage cause m r long = absurd cause
    by_length (Refused line why) cause m r long = elim cause.0 [
      | inl (zero, too, more) ↦ cc
      | inr f ↦ (let short = few f.text f.read in absurd (omega arith))
    ]
    by_length ReadFault cause m r long = absurd (r refl)
    by_length WriteFault cause m r long = absurd (not_long _ cause long)
    by_length Memory cause m r long = absurd (m refl)

    by_fault : (status : ChartStatus) → Cause status → status ≢ Memory → status ≢ ReadFault → (line : ℕ) (why : TextWhy) → length text ≤ longest_report → RefusesChart text line why → status ≡ Refused line why
    by_fault Done cause m r line why short f = absurd (page_is _ line why cause f)
    by_fault Usage cause m r line why short f = absurd cause
    by_fault (Refused number other) cause m r line why short f = elim cause.0 [
      | inl (zero, too, more) ↦ (let long = many more in absurd (omega arith))
      | inr g ↦ (let same = chart_once text number line other why (fault_told number other g) f in cc)
    ]
    by_fault ReadFault cause m r line why short f = absurd (r refl)
    by_fault WriteFault cause m r line why short f = absurd (page_is _ line why cause f)
    by_fault Memory cause m r line why short f = absurd (m refl)

    not_refused : (number : ℕ) (other : TextWhy) → IsRefused told number other → (shown : Shown) → length text ≤ longest_report → IsChartText text shown → IsShowable shown → ⊥
    not_refused number other (inl (zero, too, more)) shown short says can = let long = many more in absurd (omega arith)
    not_refused number other (inr f) shown short says can = shown_passes text shown number other says can (fault_told number other f)

    by_shown : (status : ChartStatus) → Cause status → status ≢ Memory → status ≢ ReadFault → (shown : Shown) → length text ≤ longest_report → IsChartText text shown → IsShowable shown → (status ≡ Done) ⊎ (status ≡ WriteFault)
    by_shown Done cause m r shown short says can = inl refl
    by_shown Usage cause m r shown short says can = absurd cause
    by_shown (Refused number other) cause m r shown short says can = absurd (not_refused number other cause.0 shown short says can)
    by_shown ReadFault cause m r shown short says can = absurd (r refl)
    by_shown WriteFault cause m r shown short says can = inr refl
    by_shown Memory cause m r shown short says can = absurd (m refl)

    by_counts : (status : ChartStatus) → Cause status → (shown : Shown) → length text ≤ longest_report → IsChartText text shown → IsShowable shown → (Rose before now → ⊥) → (Rose failed fails → ⊥) → (status ≡ Done) ⊎ (status ≡ Memory)
    by_counts Done cause shown short says can quiet whole = inl refl
    by_counts Usage cause shown short says can quiet whole = absurd cause
    by_counts (Refused number other) cause shown short says can quiet whole = absurd (not_refused number other cause.0 shown short says can)
    by_counts ReadFault cause shown short says can quiet whole = absurd (quiet cause.0)
    by_counts WriteFault cause shown short says can quiet whole = absurd (whole cause.is.1)
    by_counts Memory cause shown short says can quiet whole = inr refl

  pub settled_by : (status : ChartStatus) → Cause status → Settles told status
  settled_by status cause text is m r = record {
    too_long = by_length text is status cause m r;
    refused = by_fault text is status cause m r;
    answered = by_shown text is status cause m r;
  }

  pub completed_by : (status : ChartStatus) → Cause status → Completes told before now failed fails status
  completed_by status cause text shown is short says can quiet whole = by_counts text is status cause shown short says can quiet whole

-- what is known of the path that the words name
abbrev pub CauseAt : (holds : Text → Option Text) → (before now : ℕ) (old new : Option Text) (failed fails : ℕ) → ChartStatus → Text → Type 0
CauseAt holds before now old new failed fails status path = ChartCause (holds path) before now old new failed fails status

module _ (holds : Text → Option Text) (before now : ℕ) (old new : Option Text) (failed fails : ℕ) (named : Option Text) (status : ChartStatus)
    (cause : MatchOption named (status ≡ Usage) (λ path. CauseAt holds before now old new failed fails status path)) where
  cause_at : (path : Text) → named ≡ Some path → CauseAt holds before now old new failed fails status path
  cause_at path is = subst (λ (o : Option Text). MatchOption o (status ≡ Usage) (λ p. CauseAt holds before now old new failed fails status p)) is cause

  pub refused : (line : ℕ) (why : TextWhy) → status ≡ Refused line why → IsSomeAnd named (λ path. IsRefused (holds path) line why)
  refused line why e = go named cause
    where
      go : (o : Option Text) → MatchOption o (status ≡ Usage) (λ p. CauseAt holds before now old new failed fails status p) → IsSomeAnd o (λ path. IsRefused (holds path) line why)
      go None usage = absurd (let bad = sym e ∙ usage in cc)
      go (Some path) why_so = (subst (λ (s : ChartStatus). CauseAt holds before now old new failed fails s path) e why_so).0

  pub settled : (path : Text) → named ≡ Some path → Settles (holds path) status
  settled path is = settled_by (holds path) before now old new failed fails status (cause_at path is)

  pub complete : (path : Text) → named ≡ Some path → Completes (holds path) before now failed fails status
  complete path is = completed_by (holds path) before now old new failed fails status (cause_at path is)
