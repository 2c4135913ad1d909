use Rattle.std.proofs.Common.{◌≡◌, ◌<◌, ◌≤◌, ◌++◌, ◌∷◌, [], List, ℕ, true, false, nat_lt, ◌∙◌, refl, sym, ap, subst, length, arith}
use Rattle.std.proofs.lemmas.Bool.Decides.{nat_tests}
use Rattle.raim_model.specs.declared.AlmRecord.{AlmRecord}
use Rattle.raim_model.specs.declared.Span.{Span}
use Rattle.text_lines.specs.Lines.{Text}
use Rattle.alm_reader.specs.declared.section.SectionReader.{SectionReader}
use Rattle.alm_reader.specs.Sections.{HasTakenSection}
use Rattle.alm_reader.specs.Almanacs.{is_separator, KnowsFault}
use Rattle.alm_reader.specs.Readers.{IsReading}
use Rattle.alm_reader.proofs.ReaderLemmas.{done_length, separator_read, separator_many, separator_fails, known_err}
use Rattle.alm_reader.proofs.reader.AlmanacReader.end_section.Goals as goal

below : (n m : ℕ) → n ≡ m → nat_lt n 8 ≡ true → m < 8
below n m e h = let low : n < 8 = grind (arith, nat_tests) in omega (arith, e, low)

not_below : (n m : ℕ) → n ≡ m → nat_lt n 8 ≡ false → 8 ≤ m
not_below n m e h = let high : 8 ≤ n = grind (arith, nat_tests) in omega (arith, e, high)

pub returns-then-has_room-clause-ok : goal.returns-then-has_room-clause-ok
returns-then-has_room-clause-ok c = λ span lines line h r.
    let old = c.args.self.now in
    let a = c.in-Ok.records.items in
    let say = c.in-Ok.ensures.accepted span r.section (subst (λ (x : SectionReader). HasTakenSection span x r.section) (sym c.replace-ended.ensures.value) r.taken) in
    let room : length old.done < 8 = omega (arith, done_length span old lines r, r.few) in
    let few : length c.try_push.new.self < 8 = below _ _ (ap (λ (x : List (List AlmRecord)). length x) c.as_slice.ensures) (sym c.has_room.ensures ∙ c.if-has_room.true) in
    separator_read span old lines line r _ a c.in-Some.next c.pop.new.self.items h say (c.try_push.ensures.room room).1 c.in-Some.ensures.items refl c.replace-ended.ensures.after c.saturating_add-self.ensures refl few

pub returns-else-has_room-clause-known : goal.returns-else-has_room-clause-known
returns-else-has_room-clause-known c =
    known_err (λ f. (span : Span) (lines : List Text) (line : Text) → is_separator line ≡ true → IsReading span c.args.self.now lines → KnowsFault span (lines ++ line ∷ []) f.line f.why)
    c.fail-in-Ok.result _ c.fail-in-Ok.ensures.answer
    (λ span lines line h r.
    let old = c.args.self.now in
    let a = c.in-Ok.records.items in
    let say = c.in-Ok.ensures.accepted span r.section (subst (λ (x : SectionReader). HasTakenSection span x r.section) (sym c.replace-ended.ensures.value) r.taken) in
    let room : length old.done < 8 = omega (arith, done_length span old lines r, r.few) in
    let many : 8 ≤ length c.try_push.new.self = not_below _ _ (ap (λ (x : List (List AlmRecord)). length x) c.as_slice.ensures) (sym c.has_room.ensures ∙ c.if-has_room.false) in
    separator_many span old lines line r c.try_push.new.self a c.saturating_add-self.result h say (c.try_push.ensures.room room).1 c.saturating_add-self.ensures many)

pub returns-in-Err-clause-known : goal.returns-in-Err-clause-known
returns-in-Err-clause-known c =
    known_err (λ f. (span : Span) (lines : List Text) (line : Text) → is_separator line ≡ true → IsReading span c.args.self.now lines → KnowsFault span (lines ++ line ∷ []) f.line f.why)
    c.fail-in-Err.result _ c.fail-in-Err.ensures.answer
    (λ span lines line h r.
    separator_fails span c.args.self.now lines line r c.in-Err.own h
    (c.in-Err.ensures.refused span r.section (subst (λ (x : SectionReader). HasTakenSection span x r.section) (sym c.replace-ended.ensures.value) r.taken)))
