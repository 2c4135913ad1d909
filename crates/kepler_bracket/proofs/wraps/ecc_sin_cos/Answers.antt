use Rattle.std.proofs.Common.{rules, arith, ap, ap₂, ◌∙◌, pos, ◌-ℤ◌, ◌≤ℤ◌, ◌<ℤ◌, ◌^◌, unsigned_abs}
use mir.Val.{SFits}
use mir.Syntax.{w64, w128}
use Rattle.std.proofs.lemmas.Int.{ints}
use Rattle.whole_numbers.proofs.Casts.{plain}
use Rattle.trig_enclose.proofs.Casts.{plain as plain64}
use Rattle.fix_interval.specs.Ends.{Ends}
use Rattle.fix_interval.specs.Intervals.{ends}
use Rattle.fix_interval.specs.Pairs.{hull_from}
use Rattle.kepler_laws.specs.EccentricSine.{nearest_turn_of, wrap_pair}
use Rattle.kepler_laws.proofs.Wraps.{wrap_mono, ecc_encloses, ecc_isotone}
use Rattle.kepler_laws.proofs.Widths.{ecc_narrow}
use Rattle.kepler_bracket.proofs.Turns.{whole_turn, part_turn}
use Rattle.kepler_bracket.proofs.wraps.ecc_sin_cos.Goals as goal

pub hull_over-requires-clause-order : goal.hull_over-requires-clause-order
hull_over-requires-clause-order c =
    let a : SFits w64 c.nearest_turn-first.result = search rules in
    let b : SFits w64 c.nearest_turn-last.result = search rules in
    let lo : SFits w128 c.args.m.lo = search rules in
    let hi : SFits w128 c.args.m.hi = search rules in
    let first = plain64 a ∙ c.nearest_turn-first.ensures.value ∙ ap nearest_turn_of (plain lo) in
    let last = plain64 b ∙ c.nearest_turn-last.ensures.value ∙ ap nearest_turn_of (plain hi) in
    rw (first, last) (wrap_mono c.args.m.lo c.args.m.hi c.args.m.ordered)

pub returns-then-m-ge-UNITS_IN_ONE-clause-exact : goal.returns-then-m-ge-UNITS_IN_ONE-clause-exact
returns-then-m-ge-UNITS_IN_ONE-clause-exact c =
    let w : pos (2 ^ 38) ≤ℤ (c.args.m.hi -ℤ c.args.m.lo) = omega (arith, ints) in
    whole_turn (ends c.args.m) (ends c.args.eps) w

pub returns-else-m-ge-UNITS_IN_ONE-clause-exact : goal.returns-else-m-ge-UNITS_IN_ONE-clause-exact
returns-else-m-ge-UNITS_IN_ONE-clause-exact c =
    let a : SFits w64 c.nearest_turn-first.result = search rules in
    let b : SFits w64 c.nearest_turn-last.result = search rules in
    let m : Ends = ends c.args.m in
    let lo : SFits w128 c.args.m.lo = search rules in
    let hi : SFits w128 c.args.m.hi = search rules in
    let first = plain64 a ∙ c.nearest_turn-first.ensures.value ∙ ap nearest_turn_of (plain lo) in
    let last = plain64 b ∙ c.nearest_turn-last.ensures.value ∙ ap nearest_turn_of (plain hi) in
    let w : (m.hi -ℤ m.lo) <ℤ pos (2 ^ 38) = omega (arith, ints) in
    c.hull_over.ensures
    ∙ ap₂ (λ x y. hull_from (wrap_pair m (ends c.args.eps)) x (unsigned_abs (y -ℤ x))) first last
    ∙ part_turn m (ends c.args.eps) w

pub returns-then-m-ge-UNITS_IN_ONE-clause-encloses : goal.returns-then-m-ge-UNITS_IN_ONE-clause-encloses
returns-then-m-ge-UNITS_IN_ONE-clause-encloses c = ecc_encloses (returns-then-m-ge-UNITS_IN_ONE-clause-exact c) c.args.m.ordered record { low = c.requires.eps_low; ordered = c.args.eps.ordered; high = c.requires.eps_high }

pub returns-else-m-ge-UNITS_IN_ONE-clause-encloses : goal.returns-else-m-ge-UNITS_IN_ONE-clause-encloses
returns-else-m-ge-UNITS_IN_ONE-clause-encloses c = ecc_encloses (returns-else-m-ge-UNITS_IN_ONE-clause-exact c) c.args.m.ordered record { low = c.requires.eps_low; ordered = c.args.eps.ordered; high = c.requires.eps_high }

pub returns-then-m-ge-UNITS_IN_ONE-clause-isotone : goal.returns-then-m-ge-UNITS_IN_ONE-clause-isotone
returns-then-m-ge-UNITS_IN_ONE-clause-isotone c = ecc_isotone (returns-then-m-ge-UNITS_IN_ONE-clause-exact c)

pub returns-else-m-ge-UNITS_IN_ONE-clause-isotone : goal.returns-else-m-ge-UNITS_IN_ONE-clause-isotone
returns-else-m-ge-UNITS_IN_ONE-clause-isotone c = ecc_isotone (returns-else-m-ge-UNITS_IN_ONE-clause-exact c)

pub returns-else-m-ge-UNITS_IN_ONE-clause-narrow_sine : goal.returns-else-m-ge-UNITS_IN_ONE-clause-narrow_sine
returns-else-m-ge-UNITS_IN_ONE-clause-narrow_sine c n = (ecc_narrow (returns-else-m-ge-UNITS_IN_ONE-clause-exact c) c.args.m.ordered record { low = c.requires.eps_low; ordered = c.args.eps.ordered; high = c.requires.eps_high } n).0

pub returns-else-m-ge-UNITS_IN_ONE-clause-narrow_cosine : goal.returns-else-m-ge-UNITS_IN_ONE-clause-narrow_cosine
returns-else-m-ge-UNITS_IN_ONE-clause-narrow_cosine c n = (ecc_narrow (returns-else-m-ge-UNITS_IN_ONE-clause-exact c) c.args.m.ordered record { low = c.requires.eps_low; ordered = c.args.eps.ordered; high = c.requires.eps_high } n).1
