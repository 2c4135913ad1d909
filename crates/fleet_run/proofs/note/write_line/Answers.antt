use Rattle.raim_base.proofs.GrowthLemmas.{grows, grows_whole}
use Rattle.fleet_run.proofs.note.write_line.Goals as goal

pub returns-clause-front : goal.returns-clause-front
returns-clause-front g c =
    grows (g.K.Sink.contents c.args.note.now) (g.K.Sink.contents c.write_all_counted.new.out) c.args.line.now c.write_all_counted.result c.write_all_counted.ensures.ok c.write_all_counted.ensures.err

pub returns-clause-whole : goal.returns-clause-whole
returns-clause-whole g c quiet =
    grows_whole (g.K.Sink.contents c.args.note.now) (g.K.Sink.contents c.write_all_counted.new.out) c.args.line.now c.write_all_counted.result _ c.write_all_counted.ensures.ok c.write_all_counted.ensures.cause.failed quiet
