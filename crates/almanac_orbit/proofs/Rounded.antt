-- Products that are rounded outward, and constants of the code as their definitions have them.
use Rattle.std.specs.Prelude.{◌≡◌, ℕ, pos, ◌<◌, ◌≤ℤ◌, refl}
use Rattle.fix_interval.specs.Ends.{Ends}
use Rattle.fix_interval.specs.Decimals.{dec76_of}
use Rattle.fix_interval.specs.Quotients.{outward_of, scale_of}
use Rattle.fix_interval.proofs.EndInsides.{inside_self}
use Rattle.fix_interval.proofs.EndScales.{scale_isotone}
use Rattle.orbit_laws.specs.Angles.{three_tenths}
use Rattle.orbit_laws.specs.Elements.{product_of}
use Rattle.orbit_laws.proofs.Products.{product_isotone}

-- the ends keep their order
pub scale_ordered : (a : Ends) (p q : ℕ) → 0 < q → a.lo ≤ℤ a.hi → (scale_of a p q).lo ≤ℤ (scale_of a p q).hi
scale_ordered a p q h o = (scale_isotone p q h (inside_self a o)).ordered

pub product_ordered : (a b : Ends) (k : ℕ) → a.lo ≤ℤ a.hi → b.lo ≤ℤ b.hi → pos 0 ≤ℤ a.lo → pos 0 ≤ℤ b.lo → (product_of k a b).lo ≤ℤ (product_of k a b).hi
product_ordered a b k o p n m = (product_isotone k n m (inside_self a o) (inside_self b p)).ordered

-- 0.30 in numbers
pub three_tenths-is : dec76_of three_tenths ≡ record { lo = pos 22667359117774297025740; hi = pos 22667359117774297025741 }
unfolding dec76_of outward_of
three_tenths-is = refl
