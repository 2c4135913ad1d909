use Rattle.std.proofs.Common.{arith, ap, ◌∙◌}
use Rattle.std.proofs.lemmas.Int.{ints}
use Rattle.fix_interval.specs.Intervals.{ends, ends_64}
use Rattle.geom_laws.specs.Adjugate.{adjugate_of}
use Rattle.geom_inverse.specs.Views.{rows_ends}
use Rattle.slope_test.proofs.Detections.{detect_few, detect_singular, detect_undecided, detect_regular}
use Rattle.slope_test.proofs.detection.detect_by_sums.Goals as goal

pub returns-then-rows-lt5-clause-exact : goal.returns-then-rows-lt5-clause-exact
returns-then-rows-lt5-clause-exact c = detect_few c.args.shift c.args.rows.now (ends c.args.kappa) (omega arith)

pub returns-then-determinant-lt-LEAST-clause-exact : goal.returns-then-determinant-lt-LEAST-clause-exact
returns-then-determinant-lt-LEAST-clause-exact c =
    let d = c.of_all-determinant.ensures (rows_ends c.args.rows.now) c.requires.dets c.gram_of_sums-gram.ensures.exact in
    detect_singular c.args.shift c.args.rows.now (ends c.args.kappa) (ends_64 c.of_all-determinant.result) (omega arith) d (omega (arith, ints))

pub returns-then-determinant-lt-LEAST-2-clause-exact : goal.returns-then-determinant-lt-LEAST-2-clause-exact
returns-then-determinant-lt-LEAST-2-clause-exact c =
    let d = c.of_all-determinant.ensures (rows_ends c.args.rows.now) c.requires.dets c.gram_of_sums-gram.ensures.exact in
    detect_undecided c.args.shift c.args.rows.now (ends c.args.kappa) (ends_64 c.of_all-determinant.result) (omega arith) d (omega (arith, ints)) (omega (arith, ints))

pub slopes_told-requires-clause-adj : goal.slopes_told-requires-clause-adj
slopes_told-requires-clause-adj c = c.adjugate-adj.ensures.exact ∙ ap adjugate_of c.gram_of_sums-gram.ensures.exact

pub slopes_told-requires-clause-determinant : goal.slopes_told-requires-clause-determinant
slopes_told-requires-clause-determinant c = c.of_all-determinant.ensures (rows_ends c.args.rows.now) c.requires.dets c.gram_of_sums-gram.ensures.exact

pub returns-clause-exact : goal.returns-clause-exact
returns-clause-exact c =
    let d = c.of_all-determinant.ensures (rows_ends c.args.rows.now) c.requires.dets c.gram_of_sums-gram.ensures.exact in
    detect_regular c.args.shift c.args.rows.now (ends c.args.kappa) (ends_64 c.of_all-determinant.result) c.slopes_told.result (omega arith) d (omega (arith, ints)) (omega (arith, ints)) c.slopes_told.ensures.value
