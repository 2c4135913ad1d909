-- A turn and the turn back, as products of fractions.
use Rattle.std.specs.Prelude.{◌≡◌, [], ◌∷◌}
use Rattle.fractions.specs.Fraction.{Fraction, ◌+ᶠ◌, ◌-ᶠ◌, ◌*ᶠ◌}
use Rattle.fractions.proofs.Quote.{quote, identity}

pub back_x : (x y s c : Fraction) → (x *ᶠ c -ᶠ y *ᶠ s) *ᶠ c +ᶠ (x *ᶠ s +ᶠ y *ᶠ c) *ᶠ s ≡ x *ᶠ (c *ᶠ c +ᶠ s *ᶠ s)
back_x x y s c = identity (x ∷ y ∷ s ∷ c ∷ []) (search quote depth 20) tt

pub back_y : (x y s c : Fraction) → (x *ᶠ s +ᶠ y *ᶠ c) *ᶠ c -ᶠ (x *ᶠ c -ᶠ y *ᶠ s) *ᶠ s ≡ y *ᶠ (c *ᶠ c +ᶠ s *ᶠ s)
back_y x y s c = identity (x ∷ y ∷ s ∷ c ∷ []) (search quote depth 20) tt
