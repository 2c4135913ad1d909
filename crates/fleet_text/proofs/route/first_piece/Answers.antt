use Rattle.std.proofs.Common.{length, ◌-◌, refl, ap, ◌∙◌, arith}
use Rattle.alm_reader.specs.Almanacs.{is_separator}
use Rattle.fleet_text.proofs.RouteLemmas.{ended_pieces, ended_parts, last_pieces, last_parts}
use Rattle.fleet_text.proofs.route.first_piece.Goals as goal

pub returns-in-Some-clause-piece : goal.returns-in-Some-clause-piece
returns-in-Some-clause-piece c =
    let text = c.args.text.now in
    let rest = c.in-Some.rest.now in
    ended_pieces text c.in-Some.line.now rest (length text - length rest) c.in-Some.ensures.parts c.in-Some.ensures.inside refl

pub returns-in-Some-clause-parts : goal.returns-in-Some-clause-parts
returns-in-Some-clause-parts c =
    let text = c.args.text.now in
    let rest = c.in-Some.rest.now in
    c.separates.ensures ∙ ap is_separator c.without_carriage_return.ensures
    ∙ ended_parts text c.in-Some.line.now rest (length text - length rest) c.in-Some.ensures.parts c.in-Some.ensures.inside refl

pub returns-in-None-clause-piece : goal.returns-in-None-clause-piece
returns-in-None-clause-piece c = last_pieces c.args.text.now (grind (arith, c.if-is_empty.ensures, c.if-is_empty.false)) (c.in-None.ensures.none refl)

pub returns-in-None-clause-parts : goal.returns-in-None-clause-parts
returns-in-None-clause-parts c = c.separates-in-None.ensures ∙ last_parts c.args.text.now (grind (arith, c.if-is_empty.ensures, c.if-is_empty.false)) (c.in-None.ensures.none refl)
