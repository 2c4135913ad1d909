use Rattle.std.proofs.Common.{refl, sym, ◌∙◌}
use Rattle.slope_laws.specs.Slopes.{is_fails, is_straddles, is_overflows}
use Rattle.slope_test.proofs.Firsts.{first_more, first_same}
use Rattle.slope_test.proofs.tally.Tally.with.Goals as goal

pub returns-then-passes : goal.returns-then-passes
returns-then-passes c = λ outcome xs x t p o.
    let e = o ∙ c.passes.ensures c.if-passes.true in
    record {
      overflows = t.overflows ∙ sym (first_same is_overflows outcome xs x refl e);
      fails = t.fails ∙ sym (first_same is_fails outcome xs x refl e);
      straddles = t.straddles ∙ sym (first_same is_straddles outcome xs x refl e);
    }

pub returns : goal.returns
returns c = λ outcome xs x t p o. record {
  overflows = rw (first_more is_overflows outcome xs x, o, p, ← t.overflows, c.keep_first.ensures, c.overflows.ensures) refl;
  fails = rw (first_more is_fails outcome xs x, o, p, ← t.fails, c.keep_first-2.ensures, c.fails.ensures) refl;
  straddles = rw (first_more is_straddles outcome xs x, o, p, ← t.straddles, c.keep_first-3.ensures, c.straddles.ensures) refl;
}
