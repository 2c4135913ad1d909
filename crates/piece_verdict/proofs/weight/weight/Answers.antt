use Rattle.fix_interval.specs.Intervals.{ends}
use Rattle.piece_verdict.proofs.WeightLemmas.{weight_found, weight_low, weight_high}
use Rattle.piece_verdict.proofs.weight.weight.Goals as goal

pub returns-then-weight-prn-clause-not_negative : goal.returns-then-weight-prn-clause-not_negative
returns-then-weight-prn-clause-not_negative c =
    weight_low c.args.weights.now c.args.prn (ends c.from_dec.result) c.requires
    (weight_found c.args.weights.now c.args.prn c.loop-weight.weight-index _ (ends c.from_dec.result) c.loop-weight-test.true c.if-weight-prn.true c.from_dec.ensures.exact c.loop-weight.invariant)

pub returns-then-weight-prn-clause-at_most_one : goal.returns-then-weight-prn-clause-at_most_one
returns-then-weight-prn-clause-at_most_one c =
    weight_high c.args.weights.now c.args.prn (ends c.from_dec.result) c.requires
    (weight_found c.args.weights.now c.args.prn c.loop-weight.weight-index _ (ends c.from_dec.result) c.loop-weight-test.true c.if-weight-prn.true c.from_dec.ensures.exact c.loop-weight.invariant)
