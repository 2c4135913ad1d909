use Rattle.std.proofs.Common.{arith, sym, subst}
use Rattle.std.proofs.lemmas.Int.{ints}
use Rattle.fix_interval.specs.Sums.{neg_of}
use Rattle.time_forms.specs.Forms.{Holds}
use Rattle.time_forms.specs.Operations.{neg_form}
use Rattle.time_forms.specs.Programs.{form, IsFormWithin}
use Rattle.time_forms.proofs.Bits.{neg_within}
use Rattle.time_forms.proofs.FormSums.{same_form, neg_holds}
use Rattle.time_forms.proofs.sums.neg.Goals as goal

pub returns-clause-exact : goal.returns-clause-exact
unfolding neg_form
returns-clause-exact c = same_form (omega (arith, ints)) (omega (arith, ints)) (omega (arith, ints))

pub returns-clause-holds : goal.returns-clause-holds
returns-clause-holds c h d x p = subst (λ f. Holds h d f (neg_of x)) (sym (returns-clause-exact c)) (neg_holds (form c.args.a) x p)

pub returns-clause-small : goal.returns-clause-small
returns-clause-small c m p = subst (λ f. IsFormWithin f m) (sym (returns-clause-exact c)) (neg_within (form c.args.a) m p)
