use Rattle.report_chart.proofs.FlightLemmas.{first_instant, last_instant, flight_span, all_within, countable}
use Rattle.report_chart.proofs.PageLemmas.{runs_grow}
use Rattle.report_chart.proofs.flight.push_runs.Goals as goal

pub push_sentence-requires-clause-first : goal.push_sentence-requires-clause-first
push_sentence-requires-clause-first c = first_instant c.args.span c.args.runs.now c.requires.span c.requires.runs

pub push_sentence-requires-clause-end : goal.push_sentence-requires-clause-end
push_sentence-requires-clause-end c = last_instant c.args.span c.args.runs.now c.requires.span c.requires.runs

pub push_details-requires : goal.push_details-requires
push_details-requires c = record {
  span = flight_span c.args.span c.args.runs.now c.requires.span c.requires.runs;
  within = all_within c.args.span c.args.runs.now c.requires.runs;
  countable = countable c.args.span c.args.runs.now c.requires.runs;
}

pub returns : goal.returns
returns c =
    runs_grow c.push_details.result c.args.span c.args.runs.now c.args.text.now.items c.push_sentence.new.text.items c.push_details.new.text.items
    c.in_ok-push_sentence.ensures c.push_details.ensures
