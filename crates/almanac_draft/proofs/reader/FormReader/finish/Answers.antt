use Rattle.almanac_draft.specs.Drafts.{format_of}
use Rattle.almanac_draft.proofs.RangeLemmas.{are_ranged}
use Rattle.almanac_draft.proofs.ReaderLemmas.{said_of}
use Rattle.almanac_draft.proofs.reader.FormReader.finish.Goals as goal

pub returns-in-Ok-clause-accepted : goal.returns-in-Ok-clause-accepted
returns-in-Ok-clause-accepted g c = λ span lines taken.
    let form = g.L.AlmanacLine.form in
    let m = c.in-Ok.ensures.accepted lines taken.taken in
    said_of form span (format_of form c.args.self.lines.draft) taken.format lines c.in-Ok.records.items (record { entries = m.entries; accepted = m.accepted; meant = m.meant })

pub returns-in-Ok-clause-ranges : goal.returns-in-Ok-clause-ranges
returns-in-Ok-clause-ranges g c = λ span lines flight taken.
    let form = g.L.AlmanacLine.form in
    let m = c.in-Ok.ensures.accepted lines taken.taken in
    let said = said_of form span (format_of form c.args.self.lines.draft) taken.format lines c.in-Ok.records.items (record { entries = m.entries; accepted = m.accepted; meant = m.meant }) in
    are_ranged form g.met.L.AlmanacLine.lawful g.met.L.AlmanacLine.ranged span lines c.in-Ok.records.items flight said
