use Rattle.std.proofs.Common.{rules, ap, ap₂, ◌∙◌, ◌^◌, ℤ}
use mir.Syntax.{w128}
use mir.Val.{SFits}
use lib.Dec.{lit≤}
use Rattle.whole_numbers.proofs.Casts.{plain}
use Rattle.trig_laws.specs.SinCos.{sin_cos_of}
use Rattle.time_forms.specs.Programs.{form}
use Rattle.time_forms.proofs.Bits.{centre_within, wider_bits}
use Rattle.orbit_forms.specs.Positions.{PairForm, PairHolds}
use Rattle.angle_forms.specs.Pairs.{IsPairWithin}
use Rattle.angle_forms.specs.Checked.{sines_at, checked_lines, checked_sin_cos}
use Rattle.angle_forms.proofs.Fits.{short-plain}
use Rattle.angle_forms.proofs.Steps.{if_pair}
use Rattle.angle_forms.proofs.Turned.{sin_cos_holds, sin_cos_small}
use Rattle.angle_forms.proofs.turns.sin_cos.Goals as goal

pub returns-clause-exact : goal.returns-clause-exact
unfolding checked_sin_cos
returns-clause-exact c =
    let s : SFits w128 c.slack_of.result = search rules in
    c.lines.ensures ∙ ap₂ (λ (p : PairForm) (k : ℤ). checked_lines p (form c.args.u) k)
    (c.sines_of_point.ensures.exact ∙ ap sines_at (short-plain c.args.u.centre (wider_bits (2 ^ 59) (2 ^ 60) (lit≤ tt) (centre_within c.requires))))
    (plain s ∙ c.slack_of.ensures.value)

pub returns-clause-holds : goal.returns-clause-holds
returns-clause-holds c h d a t k = if_pair _ (checked_sin_cos (form c.args.u)) (returns-clause-exact c) (λ p. PairHolds h d p (sin_cos_of a)) (λ p e. sin_cos_holds (form c.args.u) a p t k e)

pub returns-clause-small : goal.returns-clause-small
returns-clause-small c = if_pair _ (checked_sin_cos (form c.args.u)) (returns-clause-exact c) (λ p. IsPairWithin p (2 ^ 58)) (λ p e. sin_cos_small (form c.args.u) p e)
