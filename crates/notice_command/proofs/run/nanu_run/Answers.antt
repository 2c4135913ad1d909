use Rattle.std.proofs.Common.{◌≡◌, ◌∙◌, subst}
use Rattle.raim_base.specs.Causes.{GrowsByFront}
use Rattle.text_lines.specs.Lines.{Text}
use Rattle.raim_base.proofs.GrowthLemmas.{grows}
use Rattle.notice_command.specs.Notes.{note_of}
use Rattle.notice_command.proofs.run.nanu_run.Goals as goal

pub returns-clause-note : goal.returns-clause-note
returns-clause-note g c =
    let text : c.as_bytes.result.now ≡ note_of c.take_file-status.result = c.as_bytes.ensures.value ∙ c.as_str.ensures.value ∙ c.nanu_note.ensures in
    subst (λ (t : Text). GrowsByFront (g.K.Sink.contents c.args.note.now) (g.K.Sink.contents c.write_all_counted.new.out) t) text
    (grows _ _ c.as_bytes.result.now c.write_all_counted.result c.write_all_counted.ensures.ok c.write_all_counted.ensures.err)
