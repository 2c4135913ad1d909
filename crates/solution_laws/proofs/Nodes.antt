-- The drift of a node, as sums of fractions.
use Rattle.std.specs.Prelude.{◌≡◌, ℤ, pos, ◌-ℤ◌, [], ◌∷◌}
use Rattle.std.proofs.Common.{arith, ap, ◌∙◌}
use Rattle.std.proofs.lemmas.Int.{ints}
use Rattle.fractions.specs.Fraction.{Fraction, whole, ◌+ᶠ◌, ◌-ᶠ◌, ◌*ᶠ◌}
use Rattle.fractions.proofs.Quote.{quote, identity}

at_once : (a r w k : Fraction) → a +ᶠ (r -ᶠ w) *ᶠ whole (pos 0) -ᶠ w *ᶠ k ≡ a -ᶠ w *ᶠ k
at_once a r w k = identity (a ∷ r ∷ w ∷ k ∷ []) (search quote depth 20) tt

pub at_its_time : (a r w k : Fraction) (toa : ℤ) → a +ᶠ (r -ᶠ w) *ᶠ whole (toa -ℤ toa) -ᶠ w *ᶠ k ≡ a -ᶠ w *ᶠ k
at_its_time a r w k toa = let e : toa -ℤ toa ≡ pos 0 = omega (arith, ints) in ap (λ z. a +ᶠ (r -ᶠ w) *ᶠ whole z -ᶠ w *ᶠ k) e ∙ at_once a r w k

drift : (a r w k x : Fraction) → a +ᶠ (r -ᶠ w) *ᶠ x -ᶠ w *ᶠ k -ᶠ (a -ᶠ w *ᶠ k) ≡ (r -ᶠ w) *ᶠ x
drift a r w k x = identity (a ∷ r ∷ w ∷ k ∷ x ∷ []) (search quote depth 20) tt

pub drifts : (a r w k x : Fraction) (toa : ℤ) → a +ᶠ (r -ᶠ w) *ᶠ x -ᶠ w *ᶠ k -ᶠ (a +ᶠ (r -ᶠ w) *ᶠ whole (toa -ℤ toa) -ᶠ w *ᶠ k) ≡ (r -ᶠ w) *ᶠ x
drifts a r w k x toa = ap (λ y. a +ᶠ (r -ᶠ w) *ᶠ x -ᶠ w *ᶠ k -ᶠ y) (at_its_time a r w k toa) ∙ drift a r w k x
