-- A file whose notices were taken into a book, up to one that was refused.
use Rattle.std.proofs.Common.{◌≡◌, ◌⊎◌, refl, sym, subst, ℕ, ◌<◌, ◌≤◌, List, [], length, take, drop, Option, Some, None, inl, inr, arith, take-append-drop}
use Rattle.std.specs.Prelude.{All, IfSome}
use Rattle.std.proofs.lemmas.List.{length-take-le}
use Rattle.raim_base.specs.Causes.{Rose}
use Rattle.text_lines.specs.Lines.{Text}
use Rattle.notice_model.specs.declared.notice.Notice.{Notice}
use Rattle.notice_model.specs.declared.notice.Notice.TheVariants.{Cancel}
use Rattle.notice_model.specs.Notices.{IsWellFormed}
use Rattle.notice_book.specs.declared.fault.BookFault.{BookFault}
use Rattle.notice_book.specs.declared.fault.BookFault.TheVariants as fault
use Rattle.notice_book.specs.declared.in_order.BookStop.{BookStop}
use Rattle.notice_book.specs.declared.status.NoticeStatus.TheVariants as plain
use Rattle.notice_book.specs.Tables.{Tables}
use Rattle.notice_book.specs.Gains.{IsKept, Gains}
use Rattle.notice_book.specs.Stops.{IsStopped}
use Rattle.notice_book.proofs.KeptLemmas.{gains_none}
use Rattle.notice_command.specs.declared.status.NanuStatus.{NanuStatus}
use Rattle.notice_command.specs.declared.status.NanuStatus.TheVariants.{Plain, ReadFault, BadText, Stopped}
use Rattle.notice_command.specs.Statuses.{status_at, status_for}
use Rattle.notice_command.specs.FileCauses.{Says, ReadCause, FileCause}
use Rattle.notice_command.specs.Accepted.{AreFirstOf, AreAcceptedOf, GainsAccepted}

-- where the file gave no notices
pub unread_cause : (told : Option Text) (failed fails : ℕ) (new : Option Tables) (before now : ℕ) (status : NanuStatus)
    → ReadCause told failed fails status → FileCause told failed fails new before now status
unread_cause told failed fails new before now (Plain plain.Done) cause = absurd cause
unread_cause told failed fails new before now (Plain plain.Usage) cause = cause
unread_cause told failed fails new before now (Plain (plain.Refused why)) cause = cause
unread_cause told failed fails new before now (Plain plain.KeeperFault) cause = absurd cause
unread_cause told failed fails new before now (Plain (plain.NotOpened why)) cause = absurd cause
unread_cause told failed fails new before now (Plain plain.WriteFault) cause = cause
unread_cause told failed fails new before now (Plain plain.Memory) cause = tt
unread_cause told failed fails new before now ReadFault cause = cause
unread_cause told failed fails new before now (BadText line why) cause = cause
unread_cause told failed fails new before now (Stopped at why) cause = absurd cause

none_of : (bytes : Text) (failed fails : ℕ) (status : NanuStatus) → ReadCause (Some bytes) failed fails status → AreAcceptedOf bytes status []
none_of bytes failed fails (Plain plain.Done) cause = absurd cause
none_of bytes failed fails (Plain plain.Usage) cause = refl
none_of bytes failed fails (Plain (plain.Refused why)) cause = refl
none_of bytes failed fails (Plain plain.KeeperFault) cause = absurd cause
none_of bytes failed fails (Plain (plain.NotOpened why)) cause = refl
none_of bytes failed fails (Plain plain.WriteFault) cause = refl
none_of bytes failed fails (Plain plain.Memory) cause = inl refl
none_of bytes failed fails ReadFault cause = refl
none_of bytes failed fails (BadText line why) cause = refl
none_of bytes failed fails (Stopped at why) cause = absurd cause

none_told : (told : Option Text) (failed fails : ℕ) (status : NanuStatus) → ReadCause told failed fails status → IfSome told (λ bytes. AreAcceptedOf bytes status [])
none_told None failed fails status cause = tt
none_told (Some bytes) failed fails status cause = none_of bytes failed fails status cause

-- nothing is accepted of it
pub unread_gains : (told : Option Text) (failed fails : ℕ) (status : NanuStatus) (old new : Option Tables) → IfSome old IsKept → new ≡ old
    → ReadCause told failed fails status → GainsAccepted told status old new
unread_gains told failed fails status old new kept same cause = record {
  accepted = [];
  of_file = none_told told failed fails status cause;
  gains = gains_none old new kept same;
}

-- the first of the notices that a text says
first_said : (bytes : Text) (notices : List Notice) (at : ℕ) → Says notices bytes → AreFirstOf bytes (take at notices)
first_said bytes notices at said = (drop at notices, subst (λ (l : List Notice). Says l bytes) (sym (take-append-drop at notices)) said)

-- how a run ends whose keeper could not be made ready
abbrev pub IsUnmade : NanuStatus → Type 0
IsUnmade (Plain plain.KeeperFault) = Unit {0}
IsUnmade (Plain (plain.NotOpened why)) = Unit {0}
IsUnmade (Plain plain.Memory) = Unit {0}
IsUnmade (Plain plain.Done) = ⊥
IsUnmade (Plain plain.Usage) = ⊥
IsUnmade (Plain (plain.Refused why)) = ⊥
IsUnmade (Plain plain.WriteFault) = ⊥
IsUnmade ReadFault = ⊥
IsUnmade (BadText line why) = ⊥
IsUnmade (Stopped at why) = ⊥

unmade_of : (bytes : Text) (notices : List Notice) (status : NanuStatus) → Says notices bytes → IsUnmade status → AreAcceptedOf bytes status []
unmade_of bytes notices (Plain plain.KeeperFault) said is = first_said bytes notices 0 said
unmade_of bytes notices (Plain (plain.NotOpened why)) said is = refl
unmade_of bytes notices (Plain plain.Memory) said is = inl refl
unmade_of bytes notices (Plain plain.Done) said is = absurd is
unmade_of bytes notices (Plain plain.Usage) said is = absurd is
unmade_of bytes notices (Plain (plain.Refused why)) said is = absurd is
unmade_of bytes notices (Plain plain.WriteFault) said is = absurd is
unmade_of bytes notices ReadFault said is = absurd is
unmade_of bytes notices (BadText line why) said is = absurd is
unmade_of bytes notices (Stopped at why) said is = absurd is

unmade_told : (told : Option Text) (notices : List Notice) (status : NanuStatus) → IfSome told (Says notices) → IsUnmade status → IfSome told (λ bytes. AreAcceptedOf bytes status [])
unmade_told None notices status said is = tt
unmade_told (Some bytes) notices status said is = unmade_of bytes notices status said is

-- where the keeper could not be made ready
pub start_gains : (told : Option Text) (notices : List Notice) (status : NanuStatus) (old new : Option Tables) → IfSome old IsKept → new ≡ old → IfSome told (Says notices)
    → IsUnmade status → GainsAccepted told status old new
start_gains told notices status old new kept same said is = record {
  accepted = [];
  of_file = unmade_told told notices status said is;
  gains = gains_none old new kept same;
}

-- where all of them were accepted
pub done_gains : (told : Option Text) (notices list : List Notice) (old mid new : Option Tables) → mid ≡ old → list ≡ notices → IfSome told (Says notices) → Gains mid list new
    → GainsAccepted told (Plain plain.Done) old new
done_gains told notices list old mid new same lent said gains = record {
  accepted = notices;
  of_file = said;
  gains = subst (λ (l : List Notice). Gains old l new) lent (subst (λ (o : Option Tables). Gains o list new) same gains);
}

at_cause : (told : Option Text) (failed fails : ℕ) (old new : Option Tables) (before now : ℕ) (notices : List Notice) (at : ℕ) (why : BookFault)
    → All IsWellFormed notices → IfSome told (Says notices) → IsStopped old new notices (record { at = at; why = why }) → (why ≡ fault.KeeperFault → Rose before now)
    → FileCause told failed fails new before now (status_at at why)
at_cause told failed fails old new before now notices at fault.BadNotice formed said stopped rose =
    absurd ((stopped.bad (Cancel 0 0)).0 refl (formed at (Cancel 0 0) stopped.within))
at_cause told failed fails old new before now notices at (fault.Old last) formed said stopped rose = ((λ e. cc, λ e. cc), λ e. cc, (notices, said, stopped.within, stopped.why))
at_cause told failed fails old new before now notices at fault.Unknown formed said stopped rose = ((λ e. cc, λ e. cc), λ e. cc, (notices, said, stopped.within, stopped.why))
at_cause told failed fails old new before now notices at fault.Full formed said stopped rose = ((λ e. cc, λ e. cc), λ e. cc, (notices, said, stopped.within, stopped.why))
at_cause told failed fails old new before now notices at fault.KeeperFault formed said stopped rose = (rose refl, (notices, said))
at_cause told failed fails old new before now notices at fault.Memory formed said stopped rose = tt

later_rose : (before then now : ℕ) → before ≤ then → Rose then now → Rose before now
later_rose before then now l r = omega (arith, l, r)

same_stop : (old mid new : Option Tables) (notices list : List Notice) (stop : BookStop) → mid ≡ old → list ≡ notices → IsStopped mid new list stop → IsStopped old new notices stop
same_stop old mid new notices list stop same lent stopped =
    subst (λ (l : List Notice). IsStopped old new l stop) lent (subst (λ (o : Option Tables). IsStopped o new list stop) same stopped)

-- the cause of the status of a list that was stopped
pub stop_cause : (told : Option Text) (failed fails : ℕ) (old mid new : Option Tables) (before then now : ℕ) (notices list : List Notice) (stop : BookStop) (status : NanuStatus)
    → mid ≡ old → before ≤ then → list ≡ notices → All IsWellFormed notices → IfSome told (Says notices) → IsStopped mid new list stop → (stop.why ≡ fault.KeeperFault → Rose then now)
    → status ≡ status_for stop → FileCause told failed fails new before now status
stop_cause told failed fails old mid new before then now notices list stop status same later lent formed said stopped rose is =
    subst (λ (s : NanuStatus). FileCause told failed fails new before now s) (sym is)
    (at_cause told failed fails old new before now notices stop.at stop.why formed said (same_stop old mid new notices list stop same lent stopped) (λ e. later_rose before then now later (rose e)))

stopped_of : (bytes : Text) (notices : List Notice) (at : ℕ) (why : BookFault) → (why ≡ fault.BadNotice → ⊥) → at < length notices → Says notices bytes → AreAcceptedOf bytes (status_at at why) (take at notices)
stopped_of bytes notices at fault.BadNotice formed within said = absurd (formed refl)
stopped_of bytes notices at (fault.Old last) formed within said = (length-take-le at notices (omega (arith, within)), first_said bytes notices at said)
stopped_of bytes notices at fault.Unknown formed within said = (length-take-le at notices (omega (arith, within)), first_said bytes notices at said)
stopped_of bytes notices at fault.Full formed within said = (length-take-le at notices (omega (arith, within)), first_said bytes notices at said)
stopped_of bytes notices at fault.KeeperFault formed within said = first_said bytes notices at said
stopped_of bytes notices at fault.Memory formed within said = inr (first_said bytes notices at said)

stopped_told : (told : Option Text) (notices : List Notice) (at : ℕ) (why : BookFault) → (why ≡ fault.BadNotice → ⊥) → at < length notices → IfSome told (Says notices)
    → IfSome told (λ bytes. AreAcceptedOf bytes (status_at at why) (take at notices))
stopped_told None notices at why formed within said = tt
stopped_told (Some bytes) notices at why formed within said = stopped_of bytes notices at why formed within said

-- those before it were accepted
pub stop_gains : (told : Option Text) (old mid new : Option Tables) (notices list : List Notice) (stop : BookStop) (status : NanuStatus)
    → mid ≡ old → list ≡ notices → All IsWellFormed notices → IfSome told (Says notices) → IsStopped mid new list stop
    → status ≡ status_for stop → GainsAccepted told status old new
stop_gains told old mid new notices list stop status same lent formed said stopped is =
    let here : IsStopped old new notices stop = same_stop old mid new notices list stop same lent stopped in
    let good : stop.why ≡ fault.BadNotice → ⊥ = λ e. (here.bad (Cancel 0 0)).0 e (formed stop.at (Cancel 0 0) here.within) in
    subst (λ (s : NanuStatus). GainsAccepted told s old new) (sym is) (record {
      accepted = take stop.at notices;
      of_file = stopped_told told notices stop.at stop.why good here.within said;
      gains = here.held;
    })
