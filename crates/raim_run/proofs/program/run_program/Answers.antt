use Rattle.std.proofs.Common.{◌≡◌, map, Option, Some, subst}
use Rattle.std.specs.Option.{MatchOption}
use Rattle.std.specs.String.{string_bytes}
use Rattle.std.specs.Io.KnownBytes.{Appends}
use Rattle.raim_base.specs.Causes.{GrowsByFront}
use Rattle.text_lines.specs.Lines.{Text}
use Rattle.command_words.specs.Asked.{Asked}
use Rattle.command_words.specs.Vertical.{asked_for}
use Rattle.raim_run.specs.Causes.{StatusCause, NothingAsked}
use Rattle.raim_base.proofs.GrowthLemmas.{grows, grows_whole}
use Rattle.raim_run.proofs.NoteLemmas.{note_is}
use Rattle.raim_run.proofs.Settling.{settled_by, completed_by}
use Rattle.raim_run.proofs.program.run_program.Goals as goal

-- the cause of what is asked
cause_at : (asked : Option Asked) (P : Type 0) (C : Asked → Type 0) → MatchOption asked P C → (some : Asked) → asked ≡ Some some → C some
cause_at asked P C cause some is = subst (λ (o : Option Asked). MatchOption o P C) is cause

pub returns-clause-settled : goal.returns-clause-settled
returns-clause-settled g c asked asks =
    let holds = g.D.Desk.holds c.args.desk.now in
    let before = g.D.Desk.faults c.args.desk.now in
    let now = g.D.Desk.faults c.answer_words-ending.new.desk in
    let old = g.K.Sink.contents c.args.out.now in
    let new = g.K.Sink.contents c.answer_words-ending.new.out in
    let failed = g.K.Sink.faults c.args.out.now in
    let fails = g.K.Sink.faults c.answer_words-ending.new.out in
    let status = c.answer_words-ending.result.status in
    settled_by asked holds before now old new failed fails status
    (cause_at _ (NothingAsked status) (λ asked. StatusCause asked holds before now old new failed fails status) c.answer_words-ending.ensures.cause asked asks)

pub returns-clause-complete : goal.returns-clause-complete
returns-clause-complete g c asked asks =
    let holds = g.D.Desk.holds c.args.desk.now in
    let before = g.D.Desk.faults c.args.desk.now in
    let now = g.D.Desk.faults c.answer_words-ending.new.desk in
    let old = g.K.Sink.contents c.args.out.now in
    let new = g.K.Sink.contents c.answer_words-ending.new.out in
    let failed = g.K.Sink.faults c.args.out.now in
    let fails = g.K.Sink.faults c.answer_words-ending.new.out in
    let status = c.answer_words-ending.result.status in
    completed_by asked holds before now old new failed fails status
    (cause_at _ (NothingAsked status) (λ asked. StatusCause asked holds before now old new failed fails status) c.answer_words-ending.ensures.cause asked asks)

pub returns-clause-note : goal.returns-clause-note
returns-clause-note g c =
    let asked = asked_for c.args.program (map string_bytes c.args.words.now) in
    let holds = g.D.Desk.holds c.args.desk.now in
    let ending = c.answer_words-ending.result in
    let old = g.K.Sink.contents c.args.note.now in
    let new = g.K.Sink.contents c.write_all_counted.new.out in
    let text : c.deref.result.now ≡ c.note_line.result.items = c.deref.ensures.0 in (
      c.note_line.result.items,
      note_is c.args.program asked holds ending.leap ending.status c.note_line.result.items c.answer_words-ending.ensures.note c.note_line.ensures,
      subst (λ (t : Text). GrowsByFront old new t) text (grows old new c.deref.result.now c.write_all_counted.result c.write_all_counted.ensures.ok c.write_all_counted.ensures.err),
    )

pub returns-clause-note_whole : goal.returns-clause-note_whole
returns-clause-note_whole g c quiet =
    let asked = asked_for c.args.program (map string_bytes c.args.words.now) in
    let holds = g.D.Desk.holds c.args.desk.now in
    let ending = c.answer_words-ending.result in
    let old = g.K.Sink.contents c.args.note.now in
    let new = g.K.Sink.contents c.write_all_counted.new.out in
    let text : c.deref.result.now ≡ c.note_line.result.items = c.deref.ensures.0 in (
      c.note_line.result.items,
      note_is c.args.program asked holds ending.leap ending.status c.note_line.result.items c.answer_words-ending.ensures.note c.note_line.ensures,
      subst (λ (t : Text). Appends old new t) text (grows_whole old new c.deref.result.now c.write_all_counted.result _ c.write_all_counted.ensures.ok c.write_all_counted.ensures.cause.failed quiet),
    )
