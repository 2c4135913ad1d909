use Rattle.std.proofs.Common.{rules, arith, ap, ap₂, ◌∙◌, pos, ◌-ℤ◌, ◌≡◌, ◌≤ℤ◌, ◌<ℤ◌, ◌^◌, unsigned_abs}
use mir.Val.{SFits}
use mir.Syntax.{w64}
use Rattle.std.proofs.lemmas.Int.{ints}
use Rattle.fix_interval.specs.Ends.{Ends}
use Rattle.fix_interval.specs.Intervals.{ends, ends_64}
use Rattle.fix_interval.specs.Pairs.{hull_from}
use Rattle.trig_laws.specs.SinCos.{pair_at, nearest_quarter_of}
use Rattle.trig_laws.proofs.Quarters.{quarter_mono}
use Rattle.trig_laws.proofs.Encloses.{sin_cos_encloses, sin_cos_isotone}
use Rattle.trig_laws.proofs.Narrow.{sin_cos_narrow}
use Rattle.trig_enclose.proofs.Casts.{plain}
use Rattle.trig_enclose.proofs.Wholes.{whole_turn, part_turn}
use Rattle.trig_enclose.proofs.turns.sin_cos.Goals as goal

pub hull_over-requires-clause-order : goal.hull_over-requires-clause-order
hull_over-requires-clause-order c =
    let a : SFits w64 c.nearest_quarter-first.result = search rules in
    let b : SFits w64 c.nearest_quarter-last.result = search rules in
    let lo : SFits w64 c.in_64_bits-turns.result.lo = search rules in
    let hi : SFits w64 c.in_64_bits-turns.result.hi = search rules in
    let first = plain a ∙ c.nearest_quarter-first.ensures.value ∙ ap nearest_quarter_of (plain lo) in
    let last = plain b ∙ c.nearest_quarter-last.ensures.value ∙ ap nearest_quarter_of (plain hi) in
    rw (first, last) (quarter_mono c.in_64_bits-turns.result.lo c.in_64_bits-turns.result.hi c.in_64_bits-turns.result.ordered)

pub returns-then-u-ge-UNITS_IN_ONE-clause-exact : goal.returns-then-u-ge-UNITS_IN_ONE-clause-exact
returns-then-u-ge-UNITS_IN_ONE-clause-exact c =
    let w : pos (2 ^ 38) ≤ℤ (c.args.u.hi -ℤ c.args.u.lo) = omega (arith, ints) in
    whole_turn (ends c.args.u) w

pub returns-then-u-ge-UNITS_IN_ONE-clause-encloses : goal.returns-then-u-ge-UNITS_IN_ONE-clause-encloses
returns-then-u-ge-UNITS_IN_ONE-clause-encloses c = sin_cos_encloses (returns-then-u-ge-UNITS_IN_ONE-clause-exact c) c.args.u.ordered

pub returns-then-u-ge-UNITS_IN_ONE-clause-isotone : goal.returns-then-u-ge-UNITS_IN_ONE-clause-isotone
returns-then-u-ge-UNITS_IN_ONE-clause-isotone c = sin_cos_isotone (returns-then-u-ge-UNITS_IN_ONE-clause-exact c)

pub returns-else-u-ge-UNITS_IN_ONE-clause-exact : goal.returns-else-u-ge-UNITS_IN_ONE-clause-exact
returns-else-u-ge-UNITS_IN_ONE-clause-exact c =
    let a : SFits w64 c.nearest_quarter-first.result = search rules in
    let b : SFits w64 c.nearest_quarter-last.result = search rules in
    let lo : SFits w64 c.in_64_bits-turns.result.lo = search rules in
    let hi : SFits w64 c.in_64_bits-turns.result.hi = search rules in
    let u : Ends = ends c.args.u in
    let same : ends_64 c.in_64_bits-turns.result ≡ u = c.in_64_bits-turns.ensures in
    let first = plain a ∙ c.nearest_quarter-first.ensures.value ∙ ap nearest_quarter_of (plain lo) ∙ ap (λ (t : Ends). nearest_quarter_of t.lo) same in
    let last = plain b ∙ c.nearest_quarter-last.ensures.value ∙ ap nearest_quarter_of (plain hi) ∙ ap (λ (t : Ends). nearest_quarter_of t.hi) same in
    let w : (u.hi -ℤ u.lo) <ℤ pos (2 ^ 38) = omega (arith, ints) in
    c.hull_over.ensures
    ∙ ap₂ (λ x y. hull_from (pair_at (ends_64 c.in_64_bits-turns.result)) x (unsigned_abs (y -ℤ x))) first last
    ∙ ap (λ (t : Ends). hull_from (pair_at t) (nearest_quarter_of u.lo) (unsigned_abs (nearest_quarter_of u.hi -ℤ nearest_quarter_of u.lo))) same
    ∙ part_turn u w

pub returns-else-u-ge-UNITS_IN_ONE-clause-encloses : goal.returns-else-u-ge-UNITS_IN_ONE-clause-encloses
returns-else-u-ge-UNITS_IN_ONE-clause-encloses c = sin_cos_encloses (returns-else-u-ge-UNITS_IN_ONE-clause-exact c) c.args.u.ordered

pub returns-else-u-ge-UNITS_IN_ONE-clause-isotone : goal.returns-else-u-ge-UNITS_IN_ONE-clause-isotone
returns-else-u-ge-UNITS_IN_ONE-clause-isotone c = sin_cos_isotone (returns-else-u-ge-UNITS_IN_ONE-clause-exact c)

pub returns-else-u-ge-UNITS_IN_ONE-clause-narrow_sine : goal.returns-else-u-ge-UNITS_IN_ONE-clause-narrow_sine
returns-else-u-ge-UNITS_IN_ONE-clause-narrow_sine c = (sin_cos_narrow (returns-else-u-ge-UNITS_IN_ONE-clause-exact c) c.args.u.ordered).0

pub returns-else-u-ge-UNITS_IN_ONE-clause-narrow_cosine : goal.returns-else-u-ge-UNITS_IN_ONE-clause-narrow_cosine
returns-else-u-ge-UNITS_IN_ONE-clause-narrow_cosine c = (sin_cos_narrow (returns-else-u-ge-UNITS_IN_ONE-clause-exact c) c.args.u.ordered).1
