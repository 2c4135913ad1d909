use Rattle.std.proofs.Common.{refl, sym, subst, inr}
use Rattle.raim_base.specs.MemDeskState.{Each}
use Rattle.text_lines.specs.Lines.{Text}
use Rattle.flight_files.specs.Paths.{paths_of}
use Rattle.fleet_run.specs.Files.{AreRead}
use Rattle.fleet_run.specs.Texts.{texts_of}
use Rattle.fleet_run.proofs.StatusLemmas.{by_reading, by_blocks, ends_so}
use Rattle.fleet_run.proofs.fleet.answer_paths.Goals as goal

-- what stopped the reading
pub returns-in-Err-clause-cause : goal.returns-in-Err-clause-cause
returns-in-Err-clause-cause g c =
    by_reading (g.D.Desk.holds c.args.desk.now) (paths_of c.args.paths.now) (g.D.Desk.faults c.args.desk.now) (g.D.Desk.faults c.read_fleet.new.desk)
    (g.K.Sink.contents c.args.out.now) (g.K.Sink.contents c.args.out.now) (g.K.Sink.faults c.args.out.now) (g.K.Sink.faults c.args.out.now)
    c.in-Err.status c.in-Err.ensures.cause refl

-- one route is too many
pub returns-in-Some-clause-cause : goal.returns-in-Some-clause-cause
returns-in-Some-clause-cause g c =
    let texts = texts_of c.texts_in-texts.result in
    let read = subst (λ (t : Each Text). AreRead (g.D.Desk.holds c.args.desk.now) (paths_of c.args.paths.now) t) (sym c.texts_in-texts.ensures) c.in-Ok.ensures.ok in
    inr (refl, refl, record { texts = texts; read = read; excess = sym c.in-Some.ensures.line })

-- the blocks
pub returns-clause-cause : goal.returns-clause-cause
returns-clause-cause g c =
    let texts = texts_of c.texts_in-texts.result in
    let read = subst (λ (t : Each Text). AreRead (g.D.Desk.holds c.args.desk.now) (paths_of c.args.paths.now) t) (sym c.texts_in-texts.ensures) c.in-Ok.ensures.ok in
    by_blocks (g.D.Desk.holds c.args.desk.now) (paths_of c.args.paths.now) (g.D.Desk.faults c.args.desk.now) (g.D.Desk.faults c.read_fleet.new.desk)
    (g.K.Sink.contents c.args.out.now) (g.K.Sink.contents c.write_blocks.new.out) (g.K.Sink.faults c.args.out.now) (g.K.Sink.faults c.write_blocks.new.out)
    texts read (sym c.in_default.ensures.line) c.write_blocks.result c.write_blocks.ensures.cause

pub returns-clause-unchanged : goal.returns-clause-unchanged
returns-clause-unchanged g c d w m =
    absurd (ends_so (g.D.Desk.holds c.args.desk.now) (paths_of c.args.paths.now) (g.D.Desk.faults c.args.desk.now) (g.D.Desk.faults c.read_fleet.new.desk)
    (g.K.Sink.contents c.args.out.now) (g.K.Sink.contents c.write_blocks.new.out) (g.K.Sink.faults c.args.out.now) (g.K.Sink.faults c.write_blocks.new.out)
    (texts_of c.texts_in-texts.result) c.write_blocks.result c.write_blocks.ensures.cause d w m)

pub returns-clause-steps : goal.returns-clause-steps
returns-clause-steps g c =
    let texts = texts_of c.texts_in-texts.result in
    let read = subst (λ (t : Each Text). AreRead (g.D.Desk.holds c.args.desk.now) (paths_of c.args.paths.now) t) (sym c.texts_in-texts.ensures) c.in-Ok.ensures.ok in
    inr (texts, read, c.write_blocks.ensures.steps)
