-- The sine and the cosine of at most an eighth of a turn, from the radians and their square as the program has them.
use Rattle.std.proofs.Common.{◌≡◌, ap, sym, ◌∙◌}
use Rattle.fix_interval.specs.Ends.{Ends, IsInside}
use Rattle.fix_interval.specs.Products.{sqr_of}
use Rattle.trig_laws.specs.Quarter.{radians_of, sine_of, cosine_of, eighth_ends}
use Rattle.trig_laws.specs.Chains.{sine_ends, cosine_ends}
use Rattle.trig_laws.proofs.Ends.{sine-ends, cosine-ends}
use Rattle.fix_interval.specs.declared.Iv64.{Iv64}
use Rattle.trig_enclose.specs.declared.unit_iv.UnitIv.{UnitIv}
use Rattle.fix_interval.specs.Intervals.{ends_64}
use Rattle.trig_enclose.specs.Views.{unit_iv_ends}

pub sine-is : (r : Ends) (x : Iv64) (y : UnitIv) → IsInside r eighth_ends → ends_64 x ≡ radians_of r → unit_iv_ends y ≡ sqr_of (ends_64 x) → sine_ends (ends_64 x) y.lo y.hi ≡ sine_of r
sine-is r x y i e f = ap (λ (t : Ends). sine_ends t y.lo y.hi) e ∙ sym (sine-ends r y.lo y.hi i y.ordered y.unit (sym (f ∙ ap sqr_of e)))

pub cosine-is : (r : Ends) (x : Iv64) (y : UnitIv) → ends_64 x ≡ radians_of r → unit_iv_ends y ≡ sqr_of (ends_64 x) → cosine_ends y.lo y.hi ≡ cosine_of r
cosine-is r x y e f = sym (cosine-ends r y.lo y.hi y.ordered y.unit (sym (f ∙ ap sqr_of e)))
