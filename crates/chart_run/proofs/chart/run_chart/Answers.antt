use Rattle.std.proofs.Common.{map}
use Rattle.std.specs.String.{string_bytes}
use Rattle.raim_model.specs.declared.FileNo.TheVariants.{Route}
use Rattle.chart_run.specs.Words.{path_in}
use Rattle.chart_run.proofs.TopLemmas.{refused, settled, complete}
use Rattle.chart_run.proofs.chart.run_chart.Goals as goal

pub returns-clause-refused : goal.returns-clause-refused
returns-clause-refused g c =
    refused (g.D.Desk.holds c.args.desk.now) (g.D.Desk.faults c.args.desk.now Route) (g.D.Desk.faults c.answer_words-status.new.desk Route)
    (g.K.Sink.contents c.args.out.now) (g.K.Sink.contents c.answer_words-status.new.out) (g.K.Sink.faults c.args.out.now) (g.K.Sink.faults c.answer_words-status.new.out)
    (path_in (map string_bytes c.args.words.now)) c.answer_words-status.result c.answer_words-status.ensures.cause

pub returns-clause-settled : goal.returns-clause-settled
returns-clause-settled g c =
    settled (g.D.Desk.holds c.args.desk.now) (g.D.Desk.faults c.args.desk.now Route) (g.D.Desk.faults c.answer_words-status.new.desk Route)
    (g.K.Sink.contents c.args.out.now) (g.K.Sink.contents c.answer_words-status.new.out) (g.K.Sink.faults c.args.out.now) (g.K.Sink.faults c.answer_words-status.new.out)
    (path_in (map string_bytes c.args.words.now)) c.answer_words-status.result c.answer_words-status.ensures.cause

pub returns-clause-complete : goal.returns-clause-complete
returns-clause-complete g c =
    complete (g.D.Desk.holds c.args.desk.now) (g.D.Desk.faults c.args.desk.now Route) (g.D.Desk.faults c.answer_words-status.new.desk Route)
    (g.K.Sink.contents c.args.out.now) (g.K.Sink.contents c.answer_words-status.new.out) (g.K.Sink.faults c.args.out.now) (g.K.Sink.faults c.answer_words-status.new.out)
    (path_in (map string_bytes c.args.words.now)) c.answer_words-status.result c.answer_words-status.ensures.cause
