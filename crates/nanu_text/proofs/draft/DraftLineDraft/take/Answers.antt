use Rattle.std.proofs.Common.{◌∙◌, sym, ap}
use Rattle.nanu_text.specs.declared.stage.Stage.{Stage}
use Rattle.nanu_text.specs.Nanus.{entry_of}
use Rattle.nanu_text.proofs.NanuLemmas.{draft_more}
use Rattle.nanu_text.proofs.draft.DraftLineDraft.take.Goals as goal

pub returns-clause-passed : goal.returns-clause-passed
returns-clause-passed c = λ entries draft.
    let e = c.in_ok-entry.entry in
    let now = c.args.self.now in (
      e,
      sym (c.in_ok-entry.ensures.value ∙ ap (λ (s : Stage). entry_of s c.args.line.now) draft.stage),
      sym c.is_blank.ensures,
      draft_more now c.put.new.self entries e draft (c.in_ok-entry.ensures.fits draft.fits) c.put.ensures,
    )
