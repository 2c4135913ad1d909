use Rattle.std.proofs.Common.{[], ◌∷◌, ◌++◌, sym, ◌∙◌}
use Rattle.report_text.specs.ReportLines.{pieces_of}
use Rattle.report_text.proofs.PieceLemmas.{next_piece, last_piece}
use Rattle.report_text.proofs.line.next_run.Goals as goal

pub returns-in_default-clause-fault : goal.returns-in_default-clause-fault
returns-in_default-clause-fault c =
    let last = last_piece c.args.leap c.args.text.now c.requires (sym c.in_default.ensures) in
    (c.args.text.now, [], last.0, last.1)

pub returns-in-Ok-clause-run : goal.returns-in-Ok-clause-run
returns-in-Ok-clause-run c =
    let line = c.in-Some.line.now in
    let next = next_piece c.args.leap c.args.text.now (line, c.in-Some.rest.now) (sym c.in-Some.ensures) in
    (line ++ 10 ∷ [], next.0, next.1 ∙ sym c.in-Ok.ensures)

pub returns-in-Ok-clause-shorter : goal.returns-in-Ok-clause-shorter
returns-in-Ok-clause-shorter c = (next_piece c.args.leap c.args.text.now (c.in-Some.line.now, c.in-Some.rest.now) (sym c.in-Some.ensures)).2

pub returns-in-Err-clause-fault : goal.returns-in-Err-clause-fault
returns-in-Err-clause-fault c =
    let line = c.in-Some.line.now in
    let next = next_piece c.args.leap c.args.text.now (line, c.in-Some.rest.now) (sym c.in-Some.ensures) in
    (line ++ 10 ∷ [], pieces_of c.in-Some.rest.now, next.0, next.1 ∙ sym c.in-Err.ensures)
