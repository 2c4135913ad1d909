use Rattle.std.proofs.Common.{arith, ap₂, subst, ◌∙◌}
use Rattle.std.proofs.lemmas.Int.{ints}
use Rattle.fix_interval.specs.Intervals.{ends}
use Rattle.time_forms.specs.Programs.{form}
use Rattle.angle_forms.specs.Vectors.{vector_form}
use Rattle.look_forms.specs.Looks.{line_form}
use Rattle.verdict_forms.specs.Sights.{SightTold, sight_form}
use Rattle.verdict_forms.proofs.Sights.{sight_held}
use Rattle.site_forms.specs.Frames.{frame_form}
use Rattle.sight_forms.specs.Views.{component_form, sight_told, IsOrUnsure}
use Rattle.sight_forms.proofs.Along.{sight_or_unsure, tells_so, along-is}
use Rattle.sight_forms.proofs.looks.look.Goals as goal

pub steady-requires-2 : goal.steady-requires-2
steady-requires-2 c = let l = c.requires.weight_small.low in let h = c.requires.weight_small.high in record { low = omega (arith, ints); high = omega (arith, ints) }

pub returns-clause-exact : goal.returns-clause-exact
returns-clause-exact c =
    let line = c.line-line.ensures.exact ∙ ap₂ line_form c.named.ensures c.named-2.ensures in
    subst (λ (u : SightTold). IsOrUnsure (sight_told c.unwrap_or.result) u)
    (along-is (frame_form c.args.frame.now) (vector_form c.args.place.now) (component_form c.line-line.result) (ends c.args.mask) (ends c.args.weight) (form c.steady.result) (form c.steady-2.result) line c.steady.ensures.exact c.steady-2.ensures.exact)
    (sight_or_unsure c.along.result c.unwrap_or.result _ c.along.ensures c.unwrap_or.ensures)

pub returns-clause-holds : goal.returns-clause-holds
returns-clause-holds c h d f sat t v w meets =
    tells_so h d (sight_told c.unwrap_or.result) (sight_form (frame_form c.args.frame.now) (vector_form c.args.place.now) (ends c.args.mask) (ends c.args.weight)) _ (returns-clause-exact c)
    (sight_held (frame_form c.args.frame.now) f (vector_form c.args.place.now) sat (ends c.args.mask) (ends c.args.weight) t c.args.mask.ordered c.args.weight.ordered v w meets)
