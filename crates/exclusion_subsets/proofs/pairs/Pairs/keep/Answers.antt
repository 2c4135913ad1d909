use Rattle.std.proofs.Common.{◌≡◌, ◌<◌, ◌+◌, ◌*◌, arith, subst, ◌∙◌, None, rules, length}
use Rattle.std.specs.Prelude.{slice_index_or}
use Rattle.std.proofs.lemmas.List.{length-set, get_or_default}
use Rattle.geometry_laws.specs.Without.{without}
use Rattle.slope_test.specs.Determinants.{IsDeterminant}
use Rattle.exclusion_subsets.proofs.PairLemmas.{one_more}
use Rattle.exclusion_subsets.proofs.pairs.Pairs.keep.Goals as goal

pub loop-i-preserved : goal.loop-i-preserved
loop-i-preserved c =
    let size = c.loop-i.invariant.size in
    let from = c.loop-i.invariant.from in
    let test = c.loop-i-test.true in
    let least = c.min-i-end.ensures in
    let n : length c.args.dets.now.without ≡ 32 = search rules in
    let short : c.loop-i.i < 15 = omega arith in
    let x = slice_index_or c.args.dets.now.without c.loop-i.i c.index-dets-i.result in
    record {
      size = length-set c.loop-i.self.places (16 * (c.loop-i.i + 1) + c.args.j) x ∙ size;
      from = omega arith;
      known = λ rows pairs dets. one_more c.loop-i.self.places rows c.loop-i.i c.args.j x size from short
          (subst (λ d. IsDeterminant d (without c.loop-i.i (without c.args.j rows))) (get_or_default c.args.dets.now.without c.loop-i.i None c.index-dets-i.result (omega arith)) (dets.without c.loop-i.i))
          (c.loop-i.invariant.known rows pairs dets);
    }
