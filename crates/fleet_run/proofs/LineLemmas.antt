-- The line in the place of a report.
use Rattle.std.proofs.Common.{◌≡◌, ◌≢◌, ◌≤◌, ℕ, ℤ, ◌++◌, length, drop, codes, Result, Ok, Err, IfOk, refl, sym, ap, subst, arith}
use Rattle.raim_base.specs.MemDeskState.{Each}
use Rattle.text_lines.specs.Lines.{Text}
use Rattle.command_words.specs.declared.Program.TheVariants.{Raim}
use Rattle.fleet_text.specs.Fleet.{IsOverflowLine}
use Rattle.fleet_text.specs.Fleet.Outcome.{Predicted, Refused, Overflows, Manifold}
use Rattle.raim_run.specs.declared.Status.{Status}
use Rattle.raim_run.specs.declared.Status.TheVariants as status
use Rattle.raim_run.specs.Notes.{IsOverflowNote, IsNoteUnder}
use Rattle.raim_run.specs.Printed.{HasNote, IsNotable}
use Rattle.raim_run.specs.Texts.{from_texts, held_in, IsPredicted, IsUnpredicted}
use Rattle.fleet_run.specs.Blocks.{IsLineOf, IsBodyOf}
use Rattle.fleet_run.specs.Notes.{fleet_note}

-- a note begins with the program's name
pub named : (note rest : Text) → note ≡ codes "raim: " ++ rest → (6 ≤ length note) × (drop 6 note ≡ rest)
named note rest same = (subst (λ (t : Text). 6 ≤ length t) (sym same) (omega arith), ap (λ (t : Text). drop 6 t) same)

-- the line of an overflow is its note without the program's name
pub overflow_named : (leap : ℕ) (at : ℤ) (prn : ℕ) (note : Text) → IsOverflowNote leap at prn note → (6 ≤ length note) × IsOverflowLine leap at prn (drop 6 note)
overflow_named leap at prn note is =
    let cut = named note _ is.spelled in
    (cut.0, record { time = is.time; spells = is.spells; spelled = cut.1 })

-- a note that is printed has a time
pub notable : (texts : Each Text) (leap : ℕ) (s : Status) → HasNote from_texts (held_in texts) leap s → IsNotable leap s
notable texts leap status.Done has = has
notable texts leap status.Usage has = has
notable texts leap (status.Refused file line why) has = has
notable texts leap (status.ReadFault file) has = has
notable texts leap status.WriteFault has = has
notable texts leap (status.Overflow at prn) has = has.instant
notable texts leap status.TooManyRuns has = has
notable texts leap status.Memory has = has

-- the text that is predicted is a body
pub predicted_body : (texts : Each Text) (text : Text) → IsPredicted texts text → IsBodyOf texts text
predicted_body texts text is = record { leap = is.case.limits.leap; outcome = Predicted is.runs; says = (is.case, is.found, refl); written = is.written }

-- and so is the line of a status with its cause
pub line_body : (texts : Each Text) (leap : ℕ) (s : Status) (line : Text) → IsUnpredicted texts s → HasNote from_texts (held_in texts) leap s → IsLineOf leap s line → IsBodyOf texts line
line_body texts leap (status.Refused file number why) line cause has is = record { leap = leap; outcome = Refused file number why; says = cause; written = is }
line_body texts leap (status.Overflow at prn) line cause has is = record { leap = leap; outcome = Overflows at prn; says = (cause, (has.case, has.accepted, has.leap_is)); written = is }
line_body texts leap status.TooManyRuns line cause has is = record { leap = leap; outcome = Manifold; says = cause; written = is }
line_body texts leap status.Done line cause has is = absurd cause
line_body texts leap status.Usage line cause has is = absurd cause
line_body texts leap (status.ReadFault file) line cause has is = absurd cause
line_body texts leap status.WriteFault line cause has is = absurd cause
line_body texts leap status.Memory line cause has is = absurd is

-- the note of a status that is no overflow
pub timeless : (s : Status) → ((at : ℤ) (prn : ℕ) → s ≢ status.Overflow at prn) → IsNotable 0 s
timeless status.Done none = tt
timeless status.Usage none = tt
timeless (status.Refused file line why) none = tt
timeless (status.ReadFault file) none = tt
timeless status.WriteFault none = tt
timeless (status.Overflow at prn) none = absurd (none at prn refl)
timeless status.TooManyRuns none = tt
timeless status.Memory none = tt

pub other_note : (s : Status) (note : Text) → ((at : ℤ) (prn : ℕ) → s ≢ status.Overflow at prn) → s ≢ status.Usage → IsNoteUnder Raim 0 s note → note ≡ fleet_note s
other_note status.Done note none other under = under
other_note status.Usage note none other under = absurd (other refl)
other_note (status.Refused file line why) note none other under = under
other_note (status.ReadFault file) note none other under = under
other_note status.WriteFault note none other under = under
other_note (status.Overflow at prn) note none other under = absurd (none at prn refl)
other_note status.TooManyRuns note none other under = under
other_note status.Memory note none other under = under

pub line_bodies : {V E : Type 0} (texts : Each Text) (leap : ℕ) (s : Status) (bytes : V → Text) (result : Result V E) → IsUnpredicted texts s → HasNote from_texts (held_in texts) leap s
    → IfOk result (λ v. IsLineOf leap s (bytes v)) → IfOk result (λ v. IsBodyOf texts (bytes v))
line_bodies texts leap s bytes (Ok v) cause has is = line_body texts leap s (bytes v) cause has is
line_bodies texts leap s bytes (Err e) cause has is = tt
