use Rattle.std.proofs.Common.{arith, sym, subst, ◌≤ℤ◌}
use Rattle.std.proofs.lemmas.Int.{ints}
use Rattle.time_forms.specs.Forms.{least_of}
use Rattle.time_forms.specs.Programs.{form}
use Rattle.time_forms.proofs.FormSpans.{holds_lo, least_low}
use Rattle.time_forms.proofs.spans.least.Goals as goal

pub returns-clause-exact : goal.returns-clause-exact
unfolding least_of
returns-clause-exact c = omega (arith, ints)

pub returns-clause-holds : goal.returns-clause-holds
returns-clause-holds c h d e t p = subst (λ z. z ≤ℤ e.lo) (sym (returns-clause-exact c)) (least_low (form c.args.a) e.lo t (holds_lo p))
