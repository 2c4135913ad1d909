use Rattle.std.proofs.Common.{arith, rules, ap, ◌∙◌, ℕ, ℤ, pos, ◌^◌, ◌<◌, ◌≤◌, ◌-ℤ◌, ◌+ℤ◌, ◌*ℤ◌, ◌≤ℤ◌, ◌≡◌, to_z, of_z, ⊎_elim, [], ◌∷◌}
use Rattle.std.proofs.lemmas.Int.{ints}
use mir.Syntax.{w128}
use mir.Val.{SFits}
use lib.Dec.{lit≤}
use Rattle.whole_numbers.specs.Root.{root_of}
use Rattle.whole_numbers.proofs.Casts.{plain}
use Rattle.whole_numbers.proofs.Certificates.{at_most_scaled, not_negative}
use Rattle.whole_numbers.proofs.Integers.{≤ℤ_total, ≤ℤ_trans}
use Rattle.whole_numbers.proofs.Quote.{quote}
use Rattle.whole_numbers.proofs.Roots.{root_of_low}
use Rattle.time_forms.proofs.FormRoots.{root_some}
use Rattle.time_forms.proofs.shares.root.Goals as goal

-- a number is at most another whose square is not below its own
below_root : (n b : ℕ) → 0 < b → (pos n *ℤ pos n) ≤ℤ (pos b *ℤ pos b) → pos n ≤ℤ pos b
below_root n b some h = ⊎_elim (λ i. i) greater (≤ℤ_total (pos n) (pos b))
  where
    greater : pos b ≤ℤ pos n → pos n ≤ℤ pos b
    greater i = at_most_scaled (pos n ∷ pos b ∷ []) b some ((pos b *ℤ pos b -ℤ pos n *ℤ pos n) +ℤ pos n *ℤ (pos n -ℤ pos b)) (search not_negative) (search quote depth 20) tt

from_one : (z : ℤ) → pos 1 ≤ℤ z → pos 0 ≤ℤ z
from_one z p = omega (arith, ints)

root_small : (z : ℤ) → pos 1 ≤ℤ z → z ≤ℤ pos (2 ^ 126) → pos (root_of z) ≤ℤ pos (2 ^ 63)
root_small z p h = below_root (root_of z) (2 ^ 63) (lit≤ tt) (≤ℤ_trans _ z (pos (2 ^ 63) *ℤ pos (2 ^ 63)) (root_of_low z (from_one z p)) h)

-- the root, read again
is_root : (c : goal.After-whole_root) → to_z w128 (of_z w128 c.whole_root.result) ≡ pos (root_of c.args.z)
is_root c =
    let r : SFits w128 c.whole_root.result = search rules in
    let z : SFits w128 c.args.z = search rules in
    plain r ∙ c.whole_root.ensures ∙ ap (λ y. pos (root_of y)) (plain z)

pub returns-clause-positive : goal.returns-clause-positive
returns-clause-positive c = rw (is_root c) (up (root_of c.args.z) (root_some c.args.z c.requires.positive))
  where
    up : (n : ℕ) → 1 ≤ n → pos 1 ≤ℤ pos n
    up n h = omega (arith, ints)

pub returns-clause-small : goal.returns-clause-small
returns-clause-small c = rw (is_root c) (root_small c.args.z c.requires.positive c.requires.small)
