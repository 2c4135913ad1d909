-- The reader of a file of almanacs after one more line, and at the end.
use Rattle.std.proofs.Common.{◌≡◌, ◌<◌, ◌≤◌, ◌+◌, ◌-◌, ◌^◌, ℕ, add-zero, true, false, min, List, [], ◌∷◌, ◌++◌, length, Option, Some, None, Result, Ok, Err, IfOk, IfErr, All, refl, sym, ap, ◌∙◌, subst, inl, inr, arith, append_assoc, length-append}
use Rattle.std.proofs.Math.ListN.{get_or-append}
use Rattle.std.proofs.Math.Seq.{get_or-append_seam}
use Rattle.raim_model.specs.declared.AlmRecord.{AlmRecord}
use Rattle.raim_model.specs.declared.Span.{Span}
use Rattle.raim_model.specs.declared.TextWhy.TheVariants.{TooMany}
use Rattle.raim_model.specs.declared.TextFault.{TextFault}
use Rattle.text_lines.specs.Lines.{Text}
use Rattle.alm_reader.specs.declared.section.SectionReader.{SectionReader}
use Rattle.alm_reader.specs.declared.reader.AlmanacReader.{AlmanacReader}
use Rattle.alm_reader.specs.Sections.{SaySection, RefusesSection, FailsSection, PassesSection, HasTakenSection}
use Rattle.alm_reader.specs.Almanacs.{is_separator, sections_of, lines_of_all, SayEach, SayAlmanacs, KnowsFault, KnowsNone, RefusesAlmanacs}
use Rattle.alm_reader.specs.Readers.{fault_in, IsReading, HasTaken, ReadsBy}
use Rattle.alm_reader.proofs.AlmanacLemmas.{sections-line, onto_last, onto_last-end, separator_split, knows_more, each_length, each_more, lines_of_more}

all_front : {X : Type 0} (P : X → Type 0) (xs : List X) (x : X) → All P (xs ++ x ∷ []) → All P xs
all_front P xs x h k d below =
    let within : k < length (xs ++ x ∷ []) = rw (length-append xs (x ∷ [])) (omega arith) in
    subst P (get_or-append xs (x ∷ []) d k below) (h k d within)

all_end : {X : Type 0} (P : X → Type 0) (xs : List X) (x : X) → All P (xs ++ x ∷ []) → P x
all_end P xs x h =
    let within : length xs < length (xs ++ x ∷ []) = rw (length-append xs (x ∷ [])) (omega arith) in
    subst P (get_or-append_seam xs x [] x) (h (length xs) x within)

-- as many almanacs are done as sections have ended
pub done_length : (span : Span) (reader : AlmanacReader) (lines : List Text) (r : IsReading span reader lines) → length reader.done ≡ length r.before
done_length span reader lines r = each_length span r.before reader.done r.accepted

module _ (span : Span) (old : AlmanacReader) (lines : List Text) (line : Text) (r : IsReading span old lines) where
  ended : List (List Text)
  ended = r.before ++ r.section ∷ []

  -- the sections behind a `---` line
  ended_split : is_separator line ≡ true → sections_of (lines ++ line ∷ []) ≡ (r.before ++ r.section ∷ []) ++ [] ∷ []
  ended_split h = separator_split span lines line r.before r.section [] h r.split ∙ sym (append_assoc r.before (r.section ∷ []) ([] ∷ []))

  ended_total : length (lines ++ line ∷ []) ≡ lines_of_all (r.before ++ r.section ∷ [])
  ended_total = let a = length-append lines (line ∷ []) in let m = lines_of_more r.before r.section in omega (arith, a, m, r.total)

  ended_each : (done : List (List AlmRecord)) (a : List AlmRecord) → done ≡ old.done ++ a ∷ [] → SaySection span r.section a → SayEach span (r.before ++ r.section ∷ []) done
  ended_each done a e s =
      subst (λ (x : List (List AlmRecord)). SayEach span (r.before ++ r.section ∷ []) x) (sym (e))
      (each_more span r.before old.done r.section a r.accepted s)

  -- a `---` line that ends an accepted section
  pub separator_read : (new : AlmanacReader) (a : List AlmRecord) (next : SectionReader) (spares : List SectionReader) → is_separator line ≡ true → SaySection span r.section a
      → new.done ≡ old.done ++ a ∷ [] → old.fresh.items ≡ spares ++ next ∷ [] → new.fresh.items ≡ spares → new.section ≡ next
      → new.lines ≡ min (old.lines + 1) (2 ^ 32 - 1) → new.begun ≡ new.lines → length new.done < 8 → IsReading span new (lines ++ line ∷ [])
  separator_read new a next spares h s done fresh left section counted begun few =
      let spare = subst (λ (x : List SectionReader). All (λ s. HasTakenSection span s []) x) fresh r.fresh in
      let n = length-append r.before (r.section ∷ []) in
      let d = done_length span old lines r in
      let dn : length new.done ≡ length old.done + 1 = ap (λ (x : List (List AlmRecord)). length x) done ∙ length-append old.done (a ∷ []) in
      let fr : length old.fresh.items ≡ length new.fresh.items + 1 = ap (λ (x : List SectionReader). length x) fresh ∙ length-append spares (next ∷ []) ∙ ap (λ (x : List SectionReader). length x + 1) (sym left) in
      record {
        before = r.before ++ r.section ∷ [];
        section = [];
        split = ended_split h;
        accepted = ended_each new.done a done s;
        taken = subst (λ (x : SectionReader). HasTakenSection span x []) (sym section) (all_end (λ s. HasTakenSection span s []) spares next spare);
        passes = tt;
        fresh = subst (λ (x : List SectionReader). All (λ s. HasTakenSection span s []) x) (sym left) (all_front (λ s. HasTakenSection span s []) spares next spare);
        few = omega (arith, n, d, dn, few);
        spare = omega (arith, n, fr, r.spare);
        total = ended_total ∙ sym (add-zero (lines_of_all (r.before ++ r.section ∷ [])));
        counted = let t = length-append lines (line ∷ []) in omega (arith, t, counted, r.counted);
        begun = let t = length-append lines (line ∷ []) in omega (arith, t, counted, begun, r.counted, ended_total);
      }

  -- the eighth `---` line
  pub separator_many : (done : List (List AlmRecord)) (a : List AlmRecord) (begun : ℕ) → is_separator line ≡ true → SaySection span r.section a → done ≡ old.done ++ a ∷ []
      → begun ≡ min (old.lines + 1) (2 ^ 32 - 1) → 8 ≤ length done → KnowsFault span (lines ++ line ∷ []) (min (begun + 0) (2 ^ 32 - 1)) TooMany
  separator_many done a begun h s e counted many =
      let n = length-append r.before (r.section ∷ []) in
      let d = done_length span old lines r in
      let dn : length done ≡ length old.done + 1 = ap (λ (x : List (List AlmRecord)). length x) e ∙ length-append old.done (a ∷ []) in
      inr (record {
        before = r.before ++ r.section ∷ [];
        section = [];
        after = [];
        reached = record { split = ended_split h; almanacs = done; accepted = ended_each done a e s };
        eight = omega (arith, n, d, dn, many, r.few);
        cause = refl;
        numbered = let t = length-append lines (line ∷ []) in omega (arith, t, counted, r.counted, ended_total);
      })

  -- a `---` line that ends a refused section
  pub separator_fails : (own : TextFault) → is_separator line ≡ true → RefusesSection span r.section own.line own.why → KnowsFault span (lines ++ line ∷ []) (fault_in old.begun own).line own.why
  separator_fails own h s = inl (record {
    before = r.before;
    section = r.section;
    after = [] ∷ [];
    reached = record { split = separator_split span lines line r.before r.section [] h r.split; almanacs = old.done; accepted = r.accepted };
    few = r.few;
    own = own.line;
    failed = s;
    numbered = omega (arith, r.begun);
  })

  line_split : is_separator line ≡ false → sections_of (lines ++ line ∷ []) ≡ r.before ++ (r.section ++ line ∷ []) ∷ []
  line_split h = sections-line lines line h ∙ ap (onto_last line) r.split ∙ onto_last-end line r.before r.section

  -- a line of the section
  pub line_read : (new : AlmanacReader) → is_separator line ≡ false → HasTakenSection span new.section (r.section ++ line ∷ []) → PassesSection span (r.section ++ line ∷ [])
      → new.done ≡ old.done → new.fresh.items ≡ old.fresh.items → new.lines ≡ min (old.lines + 1) (2 ^ 32 - 1) → new.begun ≡ old.begun → IsReading span new (lines ++ line ∷ [])
  line_read new h t p done fresh counted begun =
      let a = length-append lines (line ∷ []) in
      let b = length-append r.section (line ∷ []) in
      record {
        before = r.before;
        section = r.section ++ line ∷ [];
        split = line_split h;
        accepted = subst (λ (x : List (List AlmRecord)). SayEach span r.before x) (sym done) r.accepted;
        taken = t;
        passes = p;
        fresh = subst (λ (x : List SectionReader). All (λ s. HasTakenSection span s []) x) (sym fresh) r.fresh;
        few = r.few;
        spare = ap (λ (x : List SectionReader). length r.before + length x) fresh ∙ r.spare;
        total = omega (arith, a, b, r.total);
        counted = omega (arith, a, counted, r.counted);
        begun = begun ∙ r.begun;
      }

  -- a line that fails
  pub line_fails : (own : TextFault) → is_separator line ≡ false → FailsSection span (r.section ++ line ∷ []) own.line own.why → KnowsFault span (lines ++ line ∷ []) (fault_in old.begun own).line own.why
  line_fails own h s = inl (record {
    before = r.before;
    section = r.section ++ line ∷ [];
    after = [];
    reached = record { split = line_split h; almanacs = old.done; accepted = r.accepted };
    few = r.few;
    own = own.line;
    failed = s;
    numbered = omega (arith, r.begun);
  })

-- no fault is known
pub reading_none : (span : Span) (reader : AlmanacReader) (lines : List Text) → IsReading span reader lines → KnowsNone span lines
reading_none span reader lines r = record {
  before = r.before;
  section = r.section;
  reached = record { split = r.split; almanacs = reader.done; accepted = r.accepted };
  few = r.few;
  passes = r.passes;
}

-- at the end
pub end_accepted : (span : Span) (reader : AlmanacReader) (lines : List Text) (done : List (List AlmRecord)) (a : List AlmRecord) (r : IsReading span reader lines) → SaySection span r.section a
    → done ≡ reader.done ++ a ∷ [] → SayAlmanacs span lines done
end_accepted span reader lines done a r s e =
    let n = length-append r.before (r.section ∷ []) in
    record {
      few = rw r.split (omega (arith, n, r.few));
      each = subst (λ (x : List (List Text)). SayEach span x done) (sym r.split)
          (subst (λ (x : List (List AlmRecord)). SayEach span (r.before ++ r.section ∷ []) x) (sym (e))
          (each_more span r.before reader.done r.section a r.accepted s));
    }

pub end_refused : (span : Span) (reader : AlmanacReader) (lines : List Text) (own : TextFault) (r : IsReading span reader lines) → RefusesSection span r.section own.line own.why
    → RefusesAlmanacs span lines (fault_in reader.begun own).line own.why
end_refused span reader lines own r s = inl (record {
  before = r.before;
  section = r.section;
  after = [];
  reached = record { split = r.split; almanacs = reader.done; accepted = r.accepted };
  few = r.few;
  own = own.line;
  refused = s;
  numbered = omega (arith, r.begun);
})

pub known_err : (P : TextFault → Type 0) (result : Result (Unit {0}) TextFault) (f : TextFault) → result ≡ Err f → P f → IfErr result P
known_err P result f h p = subst (λ (x : Result (Unit {0}) TextFault). IfErr x P) (sym h) p

-- a reader that has a fault keeps it
pub failed_taken : (span : Span) (reader : AlmanacReader) (lines : List Text) (line : Text) (f : TextFault) → reader.fault ≡ Some f → HasTaken span reader lines → HasTaken span reader (lines ++ line ∷ [])
failed_taken span reader lines line f is h = record {
  flight = h.flight;
  taken = subst (λ (x : Option TextFault). ReadsBy x span reader (lines ++ line ∷ [])) (sym is)
      (knows_more span lines line f.line f.why (subst (λ (x : Option TextFault). ReadsBy x span reader lines) is h.taken));
}

pub failed_known : (span : Span) (reader : AlmanacReader) (lines : List Text) (line : Text) (f : TextFault) → reader.fault ≡ Some f → HasTaken span reader lines → KnowsFault span (lines ++ line ∷ []) f.line f.why
failed_known span reader lines line f is h = knows_more span lines line f.line f.why (subst (λ (x : Option TextFault). ReadsBy x span reader lines) is h.taken)

-- what a reader without a fault stands for
pub is_reading : (span : Span) (reader : AlmanacReader) (lines : List Text) → reader.fault ≡ None → HasTaken span reader lines → IsReading span reader lines
is_reading span reader lines none h = subst (λ (x : Option TextFault). ReadsBy x span reader lines) none h.taken

pub separator_none : (old new : AlmanacReader) (line : Text) (result : Result (Unit {0}) TextFault) → old.fault ≡ None → is_separator line ≡ true
    → IfOk result (λ _. (span : Span) (lines : List Text) (line : Text) → is_separator line ≡ true → IsReading span old lines → IsReading span new (lines ++ line ∷ []))
    → IfOk result (λ _. (span : Span) (lines : List Text) → HasTaken span old lines → KnowsNone span (lines ++ line ∷ []))
separator_none old new line (Ok x) none h f = λ span lines t. reading_none span new (lines ++ line ∷ []) (f span lines line h (is_reading span old lines none t))
separator_none old new line (Err e) none h f = tt
