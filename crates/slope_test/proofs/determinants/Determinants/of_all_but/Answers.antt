use Rattle.std.proofs.Common.{rules, ◌≡◌, arith, length, Some, None}
use Rattle.fix_interval.specs.Intervals.{ends_64}
use Rattle.geometry_laws.specs.Without.{without}
use Rattle.geom_inverse.specs.Views.{rows_ends}
use Rattle.slope_test.specs.Determinants.{IsDeterminant}
use Rattle.slope_test.proofs.Detections.{less_determinant}
use Rattle.slope_test.proofs.Stores.{each_set}
use Rattle.slope_test.proofs.determinants.Determinants.of_all_but.Goals as goal

pub returns-clause-value : goal.returns-clause-value
returns-clause-value c = less_determinant (ends_64 c.det_without-determinant.result) (rows_ends c.args.rows.now) c.args.i c.det_without-determinant.ensures.exact

pub returns-clause-known : goal.returns-clause-known
returns-clause-known c =
    let n : length c.args.self.now.without ≡ 32 = search rules in
    let place = c.requires.place in
    let few = c.requires.few in
    let worked_out = less_determinant (ends_64 c.det_without-determinant.result) (rows_ends c.args.rows.now) c.args.i c.det_without-determinant.ensures.exact in
    record {
      all = c.requires.known.all;
      without = each_set (λ k d. IsDeterminant d (without k (rows_ends c.args.rows.now))) c.args.self.now.without c.args.i (Some c.det_without-determinant.result) None (omega arith) worked_out c.requires.known.without;
    }
