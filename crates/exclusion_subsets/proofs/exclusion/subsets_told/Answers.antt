use Rattle.std.proofs.Common.{◌≡◌, arith, refl, sym, ◌∙◌, length, ◌-◌}
use Rattle.std.specs.Prelude.{true, false}
use Rattle.std.proofs.lemmas.List.{length-set}
use Rattle.fix_interval.specs.Intervals.{ends}
use Rattle.geom_inverse.specs.Views.{rows_ends}
use Rattle.slope_test.specs.Named.{is_pass}
use Rattle.slope_test.proofs.Loops.{subsets_stop, subsets_more, subsets_all}
use Rattle.exclusion_subsets.proofs.Rests.{rest_is, rest_next}
use Rattle.exclusion_subsets.proofs.exclusion.subsets_told.Goals as goal

pub loop-j-init : goal.loop-j-init
loop-j-init c =
    let test = c.loop-i-test.false in
    record {
      size = c.loop-i.invariant.size;
      rest = record { low = λ k d p q. absurd (omega (arith, p)); high = λ k d p q. c.loop-i.invariant.rest.high k d p (omega (arith, q, test)) };
      passes = refl;
      known = c.requires.known;
      pairs = c.none-pairs.ensures (rows_ends c.args.rows.now);
    }

pub subset_told-verdict-requires-clause-rest : goal.subset_told-verdict-requires-clause-rest
subset_told-verdict-requires-clause-rest c =
    let s = c.requires.some in
    let f = c.requires.few in
    let n = c.loop-j.invariant.size in
    let p = c.loop-j-test.true in
    rest_is c.args.rows.now c.loop-j.rest c.loop-j.j (length c.args.rows.now - 1) (omega arith) (omega arith) (omega arith) c.loop-j.invariant.rest

pub returns-then-not-passes-clause-value : goal.returns-then-not-passes-clause-value
returns-then-not-passes-clause-value c =
    let f : is_pass c.subset_told-verdict.result ≡ false = sym c.passes.ensures ∙ c.if-not-passes.true in
    subsets_stop c.args.shift c.args.rows.now c.loop-j.j c.index-rows-0.result (ends c.args.kappa_less) c.subset_told-verdict.result c.loop-j-test.true (c.subset_told-verdict.ensures.verdict c.index-rows-0.result) f c.loop-j.invariant.passes

pub loop-j-preserved : goal.loop-j-preserved
loop-j-preserved c =
    let f : is_pass c.subset_told-verdict.result ≡ true = sym c.passes.ensures ∙ c.if-not-passes.false in
    let few = c.requires.few in
    let test = c.loop-j-test.true in
    record {
      size = length-set c.loop-j.rest c.loop-j.j c.index-rows-j.result ∙ c.loop-j.invariant.size;
      rest = rest_next c.args.rows.now c.loop-j.rest c.loop-j.j (length c.args.rows.now - 1) c.index-rows-j.result c.loop-j.invariant.size (omega arith) c.index-rows-j.is c.loop-j-test.true c.loop-j.invariant.rest;
      passes = subsets_more c.args.shift c.args.rows.now c.loop-j.j c.index-rows-j.result (ends c.args.kappa_less) c.subset_told-verdict.result c.loop-j-test.true (c.subset_told-verdict.ensures.verdict c.index-rows-j.result) f c.loop-j.invariant.passes;
      known = c.subset_told-verdict.ensures.known;
      pairs = c.subset_told-verdict.ensures.pairs;
    }

pub returns-clause-value : goal.returns-clause-value
returns-clause-value c = subsets_all c.args.shift c.args.rows.now c.loop-j.j (ends c.args.kappa_less) c.loop-j-test.false c.loop-j.invariant.passes
