-- What is noted, and the calls of a run that asks for nothing.
use Rattle.std.proofs.Common.{ℕ, List, [], Option, Some, None, refl, sym, ap, subst, inl, inr, append-nil}
use Rattle.raim_model.specs.declared.FileNo.TheVariants.{Limits}
use Rattle.raim_base.specs.Calls.{Call, Makes}
use Rattle.text_lines.specs.Lines.{Text}
use Rattle.command_words.specs.declared.Program.{Program}
use Rattle.command_words.specs.Asked.{Asked}
use Rattle.command_words.specs.Asked.Asked.{Prediction, Demonstration, PredictionUp}
use Rattle.raim_run.specs.declared.status.Status.{Status}
use Rattle.raim_run.specs.declared.status.Status.TheVariants.{Done, Usage, Refused, ReadFault, WriteFault, Overflow, TooManyRuns, Memory}
use Rattle.raim_run.specs.Calls.{RunCalls}
use Rattle.raim_run.specs.Notes.{IsNoteUnder, IsNoteOf, IsOverflowNote}
use Rattle.raim_run.specs.Printed.{HasNoteOf}

-- the line that was printed is the status's
pub note_is : (program : Program) (asked : Option Asked) (holds : Text → Option Text) (leap : ℕ) (status : Status) (note : Text) → HasNoteOf asked holds leap status → IsNoteUnder program leap status note → IsNoteOf program asked holds status note
note_is program None holds leap Done note has under = under
note_is program None holds leap Usage note has under = under
note_is program None holds leap (Refused file line why) note has under = under
note_is program None holds leap (ReadFault file) note has under = under
note_is program None holds leap WriteFault note has under = under
note_is program None holds leap (Overflow at prn) note has under = absurd has
note_is program None holds leap TooManyRuns note has under = under
note_is program None holds leap Memory note has under = under
note_is program (Some asked) holds leap Done note has under = under
note_is program (Some asked) holds leap Usage note has under = under
note_is program (Some asked) holds leap (Refused file line why) note has under = under
note_is program (Some asked) holds leap (ReadFault file) note has under = under
note_is program (Some asked) holds leap WriteFault note has under = under
note_is program (Some asked) holds leap (Overflow at prn) note has under = (has.case, has.accepted, subst (λ (l : ℕ). IsOverflowNote l at prn note) has.leap_is under)
note_is program (Some asked) holds leap TooManyRuns note has under = under
note_is program (Some asked) holds leap Memory note has under = under

-- where there is no memory for the words there is no call
makes_none : (calls : Option (List Call)) → Makes calls calls []
makes_none None = tt
makes_none (Some calls) = ap Some (sym (append-nil calls))

unasked : (asked : Option Asked) → RunCalls asked Memory []
unasked None = refl
unasked (Some (Prediction paths)) = inr (Limits, ([], [], refl, inl refl, refl))
unasked (Some (Demonstration number)) = refl
unasked (Some (PredictionUp paths vertical_mm)) = inr (Limits, ([], [], refl, inl refl, refl))

pub no_calls : (calls : Option (List Call)) (asked : Option Asked) → (made : List Call) × Makes calls calls made × RunCalls asked Memory made
no_calls calls asked = ([], makes_none calls, unasked asked)
