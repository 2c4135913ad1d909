use Rattle.std.proofs.Common.{arith, sym, ◌∙◌, length, ◌-◌, inr}
use Rattle.std.proofs.lemmas.List.{length-set}
use Rattle.time_forms.specs.Programs.{form}
use Rattle.slope_forms.specs.Slopes.{detect_told}
use Rattle.list_forms.specs.Views.{told}
use Rattle.list_forms.proofs.Rests.{rest_is, rest_next}
use Rattle.list_forms.proofs.Lists.{lists_all, lists_stop, lists_more}
use Rattle.list_forms.proofs.exclusion.told_without_each.Goals as goal

pub loop-j-init : goal.loop-j-init
loop-j-init c =
    let test = c.loop-i-test.false in
    record {
      size = c.loop-i.invariant.size;
      rest = record { low = λ k d p q. absurd (omega (arith, p)); high = λ k d p q. c.loop-i.invariant.rest.high k d p (omega (arith, q, test)) };
      passes = λ k p. absurd (omega (arith, p));
    }

pub told_without-this-requires-clause-rest : goal.told_without-this-requires-clause-rest
told_without-this-requires-clause-rest c =
    let s = c.requires.some in
    let f = c.requires.few in
    let n = c.loop-j.invariant.size in
    let p = c.loop-j-test.true in
    rest_is c.args.rows.now c.loop-j.rest c.loop-j.j (length c.args.rows.now - 1) (omega arith) (omega arith) (omega arith) c.loop-j.invariant.rest

pub returns-then-not-passes : goal.returns-then-not-passes
returns-then-not-passes c =
    lists_stop (told c.told_without-this.result) (λ rest. detect_told c.args.shift rest (form c.args.kappa_less)) c.args.rows.now c.loop-j.j c.index-rows-0.result c.loop-j-test.true
    (sym c.passes.ensures ∙ c.if-not-passes.true) c.told_without-this.ensures c.loop-j.invariant.passes

pub loop-j-preserved : goal.loop-j-preserved
loop-j-preserved c =
    let few = c.requires.few in
    let test = c.loop-j-test.true in
    record {
      size = length-set c.loop-j.rest c.loop-j.j c.index-rows-j.result ∙ c.loop-j.invariant.size;
      rest = rest_next c.args.rows.now c.loop-j.rest c.loop-j.j (length c.args.rows.now - 1) c.index-rows-j.result c.loop-j.invariant.size (omega arith) c.index-rows-j.is c.loop-j-test.true c.loop-j.invariant.rest;
      passes = lists_more (told c.told_without-this.result) (λ rest. detect_told c.args.shift rest (form c.args.kappa_less)) c.args.rows.now c.loop-j.j (sym c.passes.ensures ∙ c.if-not-passes.false) c.told_without-this.ensures c.loop-j.invariant.passes;
    }

pub returns : goal.returns
returns c = inr (lists_all (λ rest. detect_told c.args.shift rest (form c.args.kappa_less)) c.args.rows.now c.loop-j.j c.loop-j-test.false c.loop-j.invariant.passes)
