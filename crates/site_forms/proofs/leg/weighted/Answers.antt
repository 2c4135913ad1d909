use Rattle.std.proofs.Common.{rules, refl, ap, ap₂, ◌∙◌, ◌≡◌, ℤ, ◌-ℤ◌, to_z, of_z}
use mir.Val.{SFits}
use mir.Syntax.{w64}
use Rattle.fix_interval.specs.Ends.{Ends}
use Rattle.fix_interval.specs.Intervals.{ends}
use Rattle.fix_interval.specs.Sums.{add_of}
use Rattle.site_laws.specs.Places.{times_of}
use Rattle.leg_place.proofs.Pieces.{plain}
use Rattle.site_forms.specs.Places.{weighted_of}
use Rattle.site_forms.proofs.leg.weighted.Goals as goal

-- the sum of both multiples
weights : (s e m : ℤ) (a b : Ends) → add_of (times_of a (e -ℤ m)) (times_of b (m -ℤ s)) ≡ weighted_of s e m a b
unfolding add_of
weights s e m a b = refl

pub returns-clause-exact : goal.returns-clause-exact
returns-clause-exact c =
    let l = c.args.leg.now in
    let s : SFits w64 l.start = search rules in
    let e : SFits w64 l.stop = search rules in
    let m : SFits w64 l.middle = search rules in
    let b : SFits w64 c.apart.result = search rules in
    let a : SFits w64 c.apart-2.result = search rules in
    let before : to_z w64 (of_z w64 c.apart.result) ≡ l.stop -ℤ l.middle = plain b ∙ rw (plain e, plain m) at c.apart.ensures in
    let after : to_z w64 (of_z w64 c.apart-2.result) ≡ l.middle -ℤ l.start = plain a ∙ rw (plain s, plain m) at c.apart-2.ensures in
    c.add.ensures.exact ∙ ap₂ add_of (c.times.ensures.exact ∙ ap (times_of (ends c.args.a)) before) (c.times-2.ensures.exact ∙ ap (times_of (ends c.args.b)) after)
    ∙ weights l.start l.stop l.middle (ends c.args.a) (ends c.args.b)
