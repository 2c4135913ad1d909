-- The calls of a run, and how its keeper was started.
use Rattle.std.proofs.Common.{◌≡◌, ◌≢◌, ◌⊎◌, ◌∙◌, refl, sym, ap, subst, ℕ, List, [], Option, Some, None, inl, inr, append-nil}
use Rattle.raim_model.specs.declared.TextWhy.{TextWhy}
use Rattle.raim_model.specs.declared.TextWhy.TheVariants.{FileTooLong}
use Rattle.raim_model.specs.declared.FileNo.TheVariants.{Outages}
use Rattle.raim_base.specs.Calls.{Call, Makes, MakesCalls, ReadsToEnd, ReadsAFront}
use Rattle.text_lines.specs.Lines.{Text}
use Rattle.notice_book.specs.declared.fault.BookFault.{BookFault}
use Rattle.notice_book.specs.declared.fault.BookFault.TheVariants as fault
use Rattle.notice_book.specs.declared.in_order.BookStop.{BookStop}
use Rattle.notice_book.specs.declared.status.NoticeStatus.TheVariants as plain
use Rattle.notice_book.specs.Starts.{started_with}
use Rattle.notice_command.specs.declared.status.NanuStatus.{NanuStatus}
use Rattle.notice_command.specs.declared.status.NanuStatus.TheVariants.{Plain, ReadFault, BadText, Stopped}
use Rattle.notice_command.specs.Statuses.{status_at, status_for}
use Rattle.notice_command.specs.FileCauses.{ReadCause}
use Rattle.notice_command.specs.Calls.{FileCalls, RunCalls, FileStarts}

makes_none : (calls : Option (List Call)) → Makes calls calls []
makes_none None = tt
makes_none (Some calls) = ap Some (sym (append-nil calls))

-- words of no file make no call
pub no_calls : (calls : Option (List Call)) (status : NanuStatus) → MakesCalls calls calls (RunCalls None status)
no_calls calls status = ([], makes_none calls, refl)

module _ (old new : Option (List Call)) (path : Text) where
  -- a file that was read to its end says no notices, or too little memory was left for them
  pub refused_calls : (line : ℕ) (why : TextWhy) → MakesCalls old new (ReadsToEnd Outages path) → MakesCalls old new (FileCalls path (BadText line why))
  refused_calls line why (made, makes, reads) = (made, makes, inl reads)

  pub crowded_calls : MakesCalls old new (ReadsToEnd Outages path) → MakesCalls old new (FileCalls path (Plain plain.Memory))
  crowded_calls (made, makes, reads) = (made, makes, inl reads)

  -- a file that was not read to its end
  pub long_calls : (line : ℕ) (why : TextWhy) → MakesCalls old new (ReadsAFront Outages path) → why ≡ FileTooLong → MakesCalls old new (FileCalls path (BadText line why))
  long_calls line why (made, makes, reads) is = (made, makes, inr (is, reads))

  pub cut_calls : MakesCalls old new (ReadsAFront Outages path) → MakesCalls old new (FileCalls path (Plain plain.Memory))
  cut_calls (made, makes, reads) = (made, makes, inr reads)

  at_calls : (at : ℕ) (why : BookFault) → MakesCalls old new (ReadsToEnd Outages path) → MakesCalls old new (FileCalls path (status_at at why))
  at_calls at fault.BadNotice reads = reads
  at_calls at (fault.Old last) reads = reads
  at_calls at fault.Unknown reads = reads
  at_calls at fault.Full reads = reads
  at_calls at fault.KeeperFault reads = reads
  at_calls at fault.Memory reads = crowded_calls reads

  -- its notices were taken up to one
  pub stop_calls : (stop : BookStop) (status : NanuStatus) → MakesCalls old new (ReadsToEnd Outages path) → status ≡ status_for stop → MakesCalls old new (FileCalls path status)
  stop_calls stop status reads is = subst (λ (s : NanuStatus). MakesCalls old new (FileCalls path s)) (sym is) (at_calls stop.at stop.why reads)

module _ (book : Text) (old new : Option (List Text)) where
  -- where the file gave no notices the keeper is not started
  pub unread_starts : (told : Option Text) (failed fails : ℕ) (status : NanuStatus) → ReadCause told failed fails status → new ≡ old → FileStarts book status old new
  unread_starts told failed fails (Plain plain.Done) cause same = absurd cause
  unread_starts told failed fails (Plain plain.Usage) cause same = cause
  unread_starts told failed fails (Plain (plain.Refused why)) cause same = cause
  unread_starts told failed fails (Plain plain.KeeperFault) cause same = absurd cause
  unread_starts told failed fails (Plain (plain.NotOpened why)) cause same = absurd cause
  unread_starts told failed fails (Plain plain.WriteFault) cause same = cause
  unread_starts told failed fails (Plain plain.Memory) cause same = inl same
  unread_starts told failed fails ReadFault cause same = same
  unread_starts told failed fails (BadText line why) cause same = same
  unread_starts told failed fails (Stopped at why) cause same = absurd cause

  at_starts : (at : ℕ) (why : BookFault) → new ≡ started_with book old → FileStarts book (status_at at why) old new
  at_starts at fault.BadNotice is = is
  at_starts at (fault.Old last) is = is
  at_starts at fault.Unknown is = is
  at_starts at fault.Full is = is
  at_starts at fault.KeeperFault is = is
  at_starts at fault.Memory is = inr is

  -- its notices were taken up to one
  pub stop_starts : (stop : BookStop) (status : NanuStatus) → new ≡ started_with book old → status ≡ status_for stop → FileStarts book status old new
  stop_starts stop status is same = subst (λ (s : NanuStatus). FileStarts book s old new) (sym same) (at_starts stop.at stop.why is)
