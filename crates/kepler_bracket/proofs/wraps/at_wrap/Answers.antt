use Rattle.std.proofs.Common.{rules, ap, ◌∙◌}
use mir.Val.{SFits}
use mir.Syntax.{w64}
use Rattle.trig_enclose.proofs.Casts.{plain}
use Rattle.fix_interval.specs.Ends.{Ends}
use Rattle.fix_interval.specs.Intervals.{ends}
use Rattle.trig_laws.specs.SinCos.{sin_cos_of}
use Rattle.kepler_laws.specs.Anomalies.{anomalies_of}
use Rattle.kepler_laws.specs.EccentricSine.{wrapped_of, wrap_pair}
use Rattle.kepler_bracket.proofs.wraps.at_wrap.Goals as goal

pub returns : goal.returns
unfolding wrap_pair
returns c =
    let f : SFits w64 c.args.w = search rules in
    let e = c.wrapped.ensures.exact ∙ ap (λ z. wrapped_of (ends c.args.m) z) (plain f) in
    c.sin_cos.ensures.exact ∙ ap sin_cos_of (c.anomalies.ensures.exact ∙ ap (λ (a : Ends). anomalies_of (ends c.args.eps) a) e)
