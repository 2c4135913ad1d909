-- The directions at a receiver and its place, as products of sines and cosines: p and q are those of the latitude, s and c those of
-- the longitude.
use Rattle.std.specs.Prelude.{◌≡◌, [], ◌∷◌}
use Rattle.fractions.specs.Fraction.{Fraction, zeroᶠ, oneᶠ, ◌+ᶠ◌, ◌-ᶠ◌, ◌*ᶠ◌, neg}
use Rattle.fractions.proofs.Quote.{quote, identity}

pub east_and_north : (p q s c : Fraction) → neg s *ᶠ neg (p *ᶠ c) +ᶠ c *ᶠ neg (p *ᶠ s) +ᶠ zeroᶠ *ᶠ q ≡ zeroᶠ
east_and_north p q s c = identity (p ∷ q ∷ s ∷ c ∷ []) (search quote depth 20) tt

pub east_and_up : (p q s c : Fraction) → neg s *ᶠ (q *ᶠ c) +ᶠ c *ᶠ (q *ᶠ s) +ᶠ zeroᶠ *ᶠ p ≡ zeroᶠ
east_and_up p q s c = identity (p ∷ q ∷ s ∷ c ∷ []) (search quote depth 20) tt

pub north_and_up : (p q s c : Fraction) → neg (p *ᶠ c) *ᶠ (q *ᶠ c) +ᶠ neg (p *ᶠ s) *ᶠ (q *ᶠ s) +ᶠ q *ᶠ p ≡ p *ᶠ q *ᶠ (oneᶠ -ᶠ (c *ᶠ c +ᶠ s *ᶠ s))
north_and_up p q s c = identity (p ∷ q ∷ s ∷ c ∷ []) (search quote depth 20) tt

pub up_x : (p q s c : Fraction) → c *ᶠ q -ᶠ zeroᶠ *ᶠ neg (p *ᶠ s) ≡ q *ᶠ c
up_x p q s c = identity (p ∷ q ∷ s ∷ c ∷ []) (search quote depth 20) tt

pub up_y : (p q s c : Fraction) → zeroᶠ *ᶠ neg (p *ᶠ c) -ᶠ neg s *ᶠ q ≡ q *ᶠ s
up_y p q s c = identity (p ∷ q ∷ s ∷ c ∷ []) (search quote depth 20) tt

pub up_z : (p q s c : Fraction) → neg s *ᶠ neg (p *ᶠ s) -ᶠ c *ᶠ neg (p *ᶠ c) ≡ p *ᶠ (c *ᶠ c +ᶠ s *ᶠ s)
up_z p q s c = identity (p ∷ q ∷ s ∷ c ∷ []) (search quote depth 20) tt

pub line_across : (n q c : Fraction) → n *ᶠ q *ᶠ c ≡ n *ᶠ (q *ᶠ c)
line_across n q c = identity (n ∷ q ∷ c ∷ []) (search quote depth 20) tt

pub line_up : (n e h p : Fraction) → (n *ᶠ (oneᶠ -ᶠ e) +ᶠ h) *ᶠ p ≡ (n +ᶠ h) *ᶠ p -ᶠ n *ᶠ e *ᶠ p
line_up n e h p = identity (n ∷ e ∷ h ∷ p ∷ []) (search quote depth 20) tt
