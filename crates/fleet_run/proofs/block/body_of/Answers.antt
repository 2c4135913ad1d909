use Rattle.std.proofs.Common.{ℕ, Vec, Global}
use Rattle.fleet_run.specs.Blocks.{with_route}
use Rattle.fleet_run.specs.Texts.{texts_of}
use Rattle.fleet_run.proofs.LineLemmas.{notable, predicted_body, line_bodies}
use Rattle.fleet_run.proofs.block.body_of.Goals as goal

pub line_of-requires : goal.line_of-requires
line_of-requires g c = notable (with_route (texts_of c.args.texts) c.args.route.now) c.in-Err.ending.leap c.in-Err.ending.status c.in-Err.ensures.note

pub returns-in-Ok-clause-body : goal.returns-in-Ok-clause-body
returns-in-Ok-clause-body g c = predicted_body (with_route (texts_of c.args.texts) c.args.route.now) c.in-Ok.text.items c.in-Ok.ensures.done

pub returns-in-Err-clause-body : goal.returns-in-Err-clause-body
returns-in-Err-clause-body g c =
    line_bodies (with_route (texts_of c.args.texts) c.args.route.now) c.in-Err.ending.leap c.in-Err.ending.status (λ (line : Vec ℕ Global). line.items) c.line_of.result
    c.in-Err.ensures.cause c.in-Err.ensures.note c.line_of.ensures
