use Rattle.std.proofs.Common.{rules, arith, ap, ap₂, sym, subst, ◌∙◌, ◌≡◌, ℤ, pos, ◌+ℤ◌, ◌-ℤ◌, ◌≤ℤ◌, ◌<ℤ◌, unsigned_abs, to_z}
use mir.Val.{SFits}
use mir.Syntax.{w64}
use Rattle.std.proofs.lemmas.Int.{ints, to_z-of_z}
use Rattle.fix_interval.specs.Pairs.{pair_hull, hull_from}
use Rattle.fix_interval.proofs.EndPairs.{one_number, next_number}
use Rattle.fix_interval.proofs.pairs.hull_over.Goals as goal

pub loop-k-init : goal.loop-k-init
loop-k-init g c =
    let f : SFits w64 c.args.first = search rules in
    let l : SFits w64 c.args.last = search rules in
    let o = c.requires.order in
    rw (to_z-of_z w64 c.args.first f, to_z-of_z w64 c.args.last l) record {
      from = omega (arith, ints);
      to = o;
      hull = c.pair_at-pair.ensures ∙ ap (λ z. g.P.PairsOver.pair_of c.args.pairs.now z) (to_z-of_z w64 c.args.first f) ∙ one_number (g.P.PairsOver.pair_of c.args.pairs.now) c.args.first;
    }

pub pair_at-requires : goal.pair_at-requires
pair_at-requires g c =
    let i = c.loop-k.invariant in
    let f : SFits w64 c.args.first = search rules in
    let l : SFits w64 c.args.last = search rules in
    let k : ℤ = to_z w64 c.loop-k.k-bits in
    let test = rw (to_z-of_z w64 c.args.last l) at c.loop-k-test.true in
    let h : k <ℤ c.args.last = omega (arith, ints) in
    let n : SFits w64 (k +ℤ pos 1) = search rules in
    let from : c.args.first ≤ℤ k = rw (to_z-of_z w64 c.args.first f) at i.from in
    subst (λ z. g.P.PairsOver.meets c.args.pairs.now z) (sym (to_z-of_z w64 (k +ℤ pos 1) n)) (c.requires.each (k +ℤ pos 1) (after c.args.first k from) (upto k c.args.last h))
  where
    after : (f k : ℤ) → f ≤ℤ k → f ≤ℤ (k +ℤ pos 1)
    after f k h = omega (arith, ints)

    upto : (k l : ℤ) → k <ℤ l → (k +ℤ pos 1) ≤ℤ l
    upto k l h = omega (arith, ints)

pub loop-k-preserved : goal.loop-k-preserved
loop-k-preserved g c =
    let i = c.loop-k.invariant in
    let f : SFits w64 c.args.first = search rules in
    let l : SFits w64 c.args.last = search rules in
    let k : ℤ = to_z w64 c.loop-k.k-bits in
    let test = rw (to_z-of_z w64 c.args.last l) at c.loop-k-test.true in
    let h : k <ℤ c.args.last = omega (arith, ints) in
    let n : SFits w64 (k +ℤ pos 1) = search rules in
    let from : c.args.first ≤ℤ k = rw (to_z-of_z w64 c.args.first f) at i.from in
    let hull = rw (to_z-of_z w64 c.args.first f) at i.hull in
    let at = c.pair_at.ensures ∙ ap (λ z. g.P.PairsOver.pair_of c.args.pairs.now z) (to_z-of_z w64 (k +ℤ pos 1) n) in
    rw (to_z-of_z w64 c.args.first f, to_z-of_z w64 c.args.last l, to_z-of_z w64 (k +ℤ pos 1) n) record {
      from = omega (arith, ints);
      to = omega (arith, ints);
      hull = c.joined-pair.ensures ∙ ap₂ pair_hull hull at ∙ next_number (g.P.PairsOver.pair_of c.args.pairs.now) c.args.first k from;
    }

pub returns : goal.returns
returns g c =
    let i = c.loop-k.invariant in
    let f : SFits w64 c.args.first = search rules in
    let l : SFits w64 c.args.last = search rules in
    let k : ℤ = to_z w64 c.loop-k.k-bits in
    let hull = rw (to_z-of_z w64 c.args.first f) at i.hull in
    let to : k ≤ℤ c.args.last = rw (to_z-of_z w64 c.args.last l) at i.to in
    let stop = rw (to_z-of_z w64 c.args.last l) at c.loop-k-test.false in
    let e : k ≡ c.args.last = omega (arith, ints) in
    hull ∙ ap (λ z. hull_from (g.P.PairsOver.pair_of c.args.pairs.now) c.args.first (unsigned_abs (z -ℤ c.args.first))) e
