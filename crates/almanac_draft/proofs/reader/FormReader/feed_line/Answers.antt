use Rattle.std.proofs.Common.{◌++◌, ◌∷◌, []}
use Rattle.almanac_draft.specs.Drafts.{format_of}
use Rattle.almanac_draft.proofs.ReaderLemmas.{pass_of}
use Rattle.almanac_draft.proofs.reader.FormReader.feed_line.Goals as goal

pub returns-in-Ok-clause-passes : goal.returns-in-Ok-clause-passes
returns-in-Ok-clause-passes g c = λ span lines taken.
    let form = g.L.AlmanacLine.form in
    pass_of form span (format_of form c.args.self.now.lines.draft) taken.format (lines ++ c.args.line.now ∷ []) (c.in-Ok.ensures.passes lines taken.taken)
