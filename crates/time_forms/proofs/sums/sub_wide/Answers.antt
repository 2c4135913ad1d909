use Rattle.std.proofs.Common.{arith, sym, subst, ◌+◌}
use Rattle.std.proofs.lemmas.Int.{ints}
use Rattle.fix_interval.specs.Sums.{sub_of}
use Rattle.time_forms.specs.Forms.{Holds}
use Rattle.time_forms.specs.Operations.{sub_form}
use Rattle.time_forms.specs.Programs.{wide, IsFormWithin}
use Rattle.time_forms.proofs.FormSums.{same_form, sub_holds}
use Rattle.time_forms.proofs.Bits.{sub_within}
use Rattle.time_forms.proofs.sums.sub_wide.Goals as goal

pub returns-clause-exact : goal.returns-clause-exact
unfolding sub_form
returns-clause-exact c = same_form (omega (arith, ints)) (omega (arith, ints)) (omega (arith, ints))

pub returns-clause-small : goal.returns-clause-small
returns-clause-small c m n p q = subst (λ f. IsFormWithin f (m + n)) (sym (returns-clause-exact c)) (sub_within (wide c.args.a) (wide c.args.b) m n p q)

pub returns-clause-holds : goal.returns-clause-holds
returns-clause-holds c h d x y p q = subst (λ f. Holds h d f (sub_of x y)) (sym (returns-clause-exact c)) (sub_holds (wide c.args.a) (wide c.args.b) x y p q)
