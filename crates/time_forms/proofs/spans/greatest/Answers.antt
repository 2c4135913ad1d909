use Rattle.std.proofs.Common.{arith, sym, subst, ◌≤ℤ◌}
use Rattle.std.proofs.lemmas.Int.{ints}
use Rattle.time_forms.specs.Forms.{greatest_of}
use Rattle.time_forms.specs.Programs.{form}
use Rattle.time_forms.proofs.FormSpans.{holds_hi, greatest_high}
use Rattle.time_forms.proofs.spans.greatest.Goals as goal

pub returns-clause-exact : goal.returns-clause-exact
unfolding greatest_of
returns-clause-exact c = omega (arith, ints)

pub returns-clause-holds : goal.returns-clause-holds
returns-clause-holds c h d e t p = subst (λ z. e.hi ≤ℤ z) (sym (returns-clause-exact c)) (greatest_high (form c.args.a) e.hi t (holds_hi p))
