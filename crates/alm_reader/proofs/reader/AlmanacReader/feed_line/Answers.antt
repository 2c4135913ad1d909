use Rattle.std.proofs.Common.{◌++◌, ◌∷◌, [], List, Option, ◌∙◌, refl, sym, subst}
use Rattle.raim_model.specs.declared.Span.{Span}
use Rattle.raim_model.specs.declared.TextFault.{TextFault}
use Rattle.text_lines.specs.Lines.{Text}
use Rattle.alm_reader.specs.declared.reader.AlmanacReader.{AlmanacReader}
use Rattle.alm_reader.specs.Almanacs.{KnowsFault}
use Rattle.alm_reader.specs.Readers.{HasTaken, ReadsBy}
use Rattle.alm_reader.proofs.ReaderLemmas.{failed_taken, failed_known, is_reading, separator_none, reading_none, line_read, line_fails, known_err}
use Rattle.alm_reader.proofs.reader.AlmanacReader.feed_line.Goals as goal

pub returns-in-Some-clause-taken : goal.returns-in-Some-clause-taken
returns-in-Some-clause-taken c = λ span lines h. failed_taken span c.args.self.now lines c.args.line.now c.in-Some.fault c.in-Some.is h

pub returns-in-Some-clause-known : goal.returns-in-Some-clause-known
returns-in-Some-clause-known c = λ span lines h. failed_known span c.args.self.now lines c.args.line.now c.in-Some.fault c.in-Some.is h

pub returns-then-separates-clause-none : goal.returns-then-separates-clause-none
returns-then-separates-clause-none c =
    separator_none c.args.self.now c.end_section.new.self c.args.line.now c.end_section.result c.in_default.is (sym c.separates.ensures ∙ c.if-separates.true) c.end_section.ensures.ok

pub returns-in-Ok-clause-taken : goal.returns-in-Ok-clause-taken
returns-in-Ok-clause-taken c = λ span lines h.
    let old = c.args.self.now in
    let r = is_reading span old lines c.in_default.is h in
    let new : AlmanacReader = record old { section = c.feed_line.new.self; lines = c.saturating_add-self.result } in
    record {
      flight = h.flight;
      taken = subst (λ (x : Option TextFault). ReadsBy x span new (lines ++ c.args.line.now ∷ [])) (sym c.in_default.is)
          (line_read span old lines c.args.line.now r new (sym c.separates.ensures ∙ c.if-separates.false)
          (c.in-Ok.ensures.taken span r.section r.taken) (c.in-Ok.ensures.passes span r.section r.taken) refl refl c.saturating_add-self.ensures refl);
    }

pub returns-in-Ok-clause-none : goal.returns-in-Ok-clause-none
returns-in-Ok-clause-none c = λ span lines h.
    let old = c.args.self.now in
    let r = is_reading span old lines c.in_default.is h in
    let new : AlmanacReader = record old { section = c.feed_line.new.self; lines = c.saturating_add-self.result } in
    reading_none span new (lines ++ c.args.line.now ∷ [])
    (line_read span old lines c.args.line.now r new (sym c.separates.ensures ∙ c.if-separates.false)
    (c.in-Ok.ensures.taken span r.section r.taken) (c.in-Ok.ensures.passes span r.section r.taken) refl refl c.saturating_add-self.ensures refl)

pub returns-in-Err-clause-taken : goal.returns-in-Err-clause-taken
returns-in-Err-clause-taken c = λ span lines h.
    let r = is_reading span c.args.self.now lines c.in_default.is h in
    subst (λ (x : AlmanacReader). HasTaken span x (lines ++ c.args.line.now ∷ [])) (sym c.fail.ensures.kept) (record {
      flight = h.flight;
      taken = line_fails span c.args.self.now lines c.args.line.now r c.in-Err.own (sym c.separates.ensures ∙ c.if-separates.false) (c.in-Err.ensures.fails span r.section r.taken);
    })

pub returns-in-Err-clause-known : goal.returns-in-Err-clause-known
returns-in-Err-clause-known c =
    known_err (λ f. (span : Span) (lines : List Text) → HasTaken span c.args.self.now lines → KnowsFault span (lines ++ c.args.line.now ∷ []) f.line f.why)
    c.fail.result _ c.fail.ensures.answer
    (λ span lines h.
    let r = is_reading span c.args.self.now lines c.in_default.is h in
    line_fails span c.args.self.now lines c.args.line.now r c.in-Err.own (sym c.separates.ensures ∙ c.if-separates.false) (c.in-Err.ensures.fails span r.section r.taken))
