-- The laws of the judges in memory: a certain verdict is that of each piece inside.
use Rattle.std.specs.Prelude.{◌≡◌, ℤ, ◌≤ℤ◌, int_lt, Bool, true, false, if◌then◌else◌, ◌||◌}
use Rattle.std.proofs.Common.{ap, sym, ◌∙◌, refl, arith}
use Rattle.std.proofs.lemmas.Int.{ints, by_lt_z}
use Rattle.raim_model.specs.declared.Cmp.TheVariants.{Det}
use Rattle.raim_model.specs.declared.Verdict.{Verdict}
use Rattle.raim_model.specs.declared.Verdict.TheVariants.{Overflow, Undecided}
use Rattle.raim_model.specs.Judgements.{is_certain}
use Rattle.sample_judges.specs.Samples.{alternating, island}

pub alternating-settles : (over first last a b : ℤ) → is_certain (alternating over first last) ≡ true → first ≤ℤ a → a ≤ℤ b → b ≤ℤ last → alternating over a b ≡ alternating over first last
alternating-settles over first last a b certain low mid high = by_lt_z first last
    (λ lt. let long : int_lt first last ≡ true = grind (arith, ints) in let wrong = rw long at certain in cc)
    (λ le.
    let same : a ≡ first = omega (arith, ints) in
    let also : b ≡ last = omega (arith, ints) in
    ap (λ (t : ℤ). alternating over t b) same ∙ ap (alternating over first) also)

or_true : (b : Bool) (u v : Verdict) → (if b || true then u else v) ≡ u
or_true true u v = refl
or_true false u v = refl

open_is_open : (overflows : Bool) → is_certain (if overflows then Overflow 7 else Undecided Det) ≡ false
open_is_open true = refl
open_is_open false = refl

pub island-settles : (at : ℤ) (overflows : Bool) (first last a b : ℤ) → is_certain (island at overflows first last) ≡ true → first ≤ℤ a → a ≤ℤ b → b ≤ℤ last → island at overflows a b ≡ island at overflows first last
island-settles at overflows first last a b certain low mid high = by_lt_z last at
    (λ lt.
    let outer : int_lt last at ≡ true = grind (arith, ints) in
    let inner : int_lt b at ≡ true = grind (arith, ints) in
    rw (outer, inner) refl)
    (λ le. by_lt_z at first
    (λ lt.
    let outer : int_lt at first ≡ true = grind (arith, ints) in
    let inner : int_lt at a ≡ true = grind (arith, ints) in
    rw (outer, inner) (or_true (int_lt b at) _ _ ∙ sym (or_true (int_lt last at) _ _)))
    (λ ge.
    let left : int_lt last at ≡ false = grind (arith, ints) in
    let right : int_lt at first ≡ false = grind (arith, ints) in
    let wrong = rw (left, right) at certain in
    let known = open_is_open overflows in cc))
