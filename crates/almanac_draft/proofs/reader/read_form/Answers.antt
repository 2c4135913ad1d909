use Rattle.std.proofs.Common.{rules}
use Rattle.text_lines.specs.Lines.{lines_of}
use Rattle.almanac_draft.specs.Answers.{SayRecords}
use Rattle.almanac_draft.proofs.RangeLemmas.{are_ranged}
use Rattle.almanac_draft.proofs.reader.read_form.Goals as goal

pub returns-in-Ok-read_lines-clause-ranges : goal.returns-in-Ok-read_lines-clause-ranges
returns-in-Ok-read_lines-clause-ranges g c =
    let records = c.in-Ok-read_lines.records.items in
    let said : SayRecords g.L.AlmanacLine.form c.args.span (lines_of c.args.text.now) records = search rules in
    are_ranged g.L.AlmanacLine.form g.met.L.AlmanacLine.lawful g.met.L.AlmanacLine.ranged c.args.span (lines_of c.args.text.now) records c.requires said
