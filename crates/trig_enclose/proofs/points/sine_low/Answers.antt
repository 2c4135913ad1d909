use Rattle.std.proofs.Common.{rules, arith, ap, sym, ◌∙◌, ◌≡◌, ℤ, pos, ◌-ℤ◌, true, false}
use mir.Val.{SFits}
use mir.Syntax.{w64}
use Rattle.std.proofs.lemmas.Int.{ints}
use Rattle.fix_interval.specs.Ends.{Ends}
use Rattle.fix_interval.specs.Sums.{sub_of, neg_of}
use Rattle.fix_interval.specs.Ranges.{point}
use Rattle.trig_laws.specs.Quarter.{sine_divisors}
use Rattle.trig_laws.specs.SinCos.{sin_cos_of}
use Rattle.trig_laws.specs.Chains.{nest_end, eighth_sine_low_of, eighth_sine_high_of, sine_ends, cosine_ends}
use Rattle.fix_interval.specs.Intervals.{ends_64}
use Rattle.trig_enclose.proofs.Casts.{plain}
use Rattle.trig_enclose.proofs.Turned.{not_turned, turned_once, turned_twice, turned_thrice, low_within}
use Rattle.trig_enclose.proofs.points.sine_low.Goals as goal

pub returns-then-place-eq0-clause-exact : goal.returns-then-place-eq0-clause-exact
returns-then-place-eq0-clause-exact c =
    let k : SFits w64 c.args.k = search rules in
    let p = c.place_of-place.result in
    let a : Ends = sine_ends (ends_64 p.radians) p.square.lo p.square.hi in
    let b : Ends = cosine_ends p.square.lo p.square.hi in
    let e = sym (ap (λ z. sin_cos_of (point z)) (plain k)) ∙ c.place_of-place.ensures.pair in
    let q : SFits w64 p.quarter = search rules in
    let x : SFits w64 p.radians.lo = search rules in
    let z : p.quarter ≡ pos 0 = omega (arith, ints, plain q) in
    let r : SFits w64 c.eighth_sine_low.result = search rules in
    plain r ∙ c.eighth_sine_low.ensures ∙ ap (λ (t : ℤ). eighth_sine_low_of t (nest_end false p.square.lo p.square.hi sine_divisors) (nest_end true p.square.lo p.square.hi sine_divisors)) (plain x) ∙ ap (λ (t : Ends). t.lo) (not_turned a b e z)

pub returns-then-place-eq1-clause-exact : goal.returns-then-place-eq1-clause-exact
returns-then-place-eq1-clause-exact c =
    let k : SFits w64 c.args.k = search rules in
    let p = c.place_of-place.result in
    let a : Ends = sine_ends (ends_64 p.radians) p.square.lo p.square.hi in
    let b : Ends = cosine_ends p.square.lo p.square.hi in
    let e = sym (ap (λ z. sin_cos_of (point z)) (plain k)) ∙ c.place_of-place.ensures.pair in
    let q : SFits w64 p.quarter = search rules in
    let z : p.quarter ≡ pos 1 = omega (arith, ints, plain q) in
    let r : SFits w64 c.eighth_cosine_low.result = search rules in
    plain r ∙ c.eighth_cosine_low.ensures ∙ ap (λ (t : Ends). t.lo) (turned_once a b e z)

pub returns-then-place-eq2-clause-exact : goal.returns-then-place-eq2-clause-exact
unfolding neg_of sub_of
returns-then-place-eq2-clause-exact c =
    let k : SFits w64 c.args.k = search rules in
    let p = c.place_of-place.result in
    let a : Ends = sine_ends (ends_64 p.radians) p.square.lo p.square.hi in
    let b : Ends = cosine_ends p.square.lo p.square.hi in
    let e = sym (ap (λ z. sin_cos_of (point z)) (plain k)) ∙ c.place_of-place.ensures.pair in
    let q : SFits w64 p.quarter = search rules in
    let x : SFits w64 p.radians.hi = search rules in
    let z : p.quarter ≡ pos 2 = omega (arith, ints, plain q) in
    let r : SFits w64 c.eighth_sine_high.result = search rules in
    let m : SFits w64 (pos 0 -ℤ c.eighth_sine_high.result) = search rules in
    rw (plain r, plain m) (ap (λ t. pos 0 -ℤ t) (c.eighth_sine_high.ensures.value ∙ ap (λ (t : ℤ). eighth_sine_high_of t (nest_end false p.square.lo p.square.hi sine_divisors) (nest_end true p.square.lo p.square.hi sine_divisors)) (plain x)) ∙ ap (λ (t : Ends). t.lo) (turned_twice a b e z))

pub returns-else-place-eq2-clause-exact : goal.returns-else-place-eq2-clause-exact
unfolding neg_of sub_of
returns-else-place-eq2-clause-exact c =
    let k : SFits w64 c.args.k = search rules in
    let p = c.place_of-place.result in
    let a : Ends = sine_ends (ends_64 p.radians) p.square.lo p.square.hi in
    let b : Ends = cosine_ends p.square.lo p.square.hi in
    let e = sym (ap (λ z. sin_cos_of (point z)) (plain k)) ∙ c.place_of-place.ensures.pair in
    let q : SFits w64 p.quarter = search rules in
    let z : p.quarter ≡ pos 3 = omega (arith, ints, plain q, c.place_of-place.ensures.quarter_low, c.place_of-place.ensures.quarter_high) in
    let r : SFits w64 c.eighth_cosine_high.result = search rules in
    let m : SFits w64 (pos 0 -ℤ c.eighth_cosine_high.result) = search rules in
    rw (plain r, plain m) (ap (λ t. pos 0 -ℤ t) c.eighth_cosine_high.ensures ∙ ap (λ (t : Ends). t.lo) (turned_thrice a b e z))

pub returns-then-place-eq0-clause-below : goal.returns-then-place-eq0-clause-below
returns-then-place-eq0-clause-below c = rw (returns-then-place-eq0-clause-exact c) (low_within c.args.k).1

pub returns-then-place-eq1-clause-below : goal.returns-then-place-eq1-clause-below
returns-then-place-eq1-clause-below c = rw (returns-then-place-eq1-clause-exact c) (low_within c.args.k).1
