use Rattle.std.proofs.Common.{length, ◌-◌, refl}
use Rattle.fleet_text.proofs.RouteLemmas.{ended_pieces, last_pieces}
use Rattle.chart_text.proofs.block.line_len.Goals as goal

pub returns-in-Some-clause-line : goal.returns-in-Some-clause-line
returns-in-Some-clause-line c =
    let text = c.args.text.now in
    let rest = c.in-Some.rest.now in
    ended_pieces text c.in-Some.field-0-0.now rest (length text - length rest) c.in-Some.ensures.parts c.in-Some.ensures.inside refl

pub returns-in-None-clause-line : goal.returns-in-None-clause-line
returns-in-None-clause-line c = last_pieces c.args.text.now c.requires (c.in-None.ensures.none refl)
