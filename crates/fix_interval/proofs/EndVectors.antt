-- Vectors of ends: when they are equal, and inside one another.
use Rattle.std.specs.Prelude.{◌≡◌}
use Rattle.fix_interval.specs.Vectors.{VectorEnds, VectorInside}
use Rattle.fix_interval.proofs.EndInsides.{inside_self, inside_trans}

-- vectors are equal where their components are
pub same_vectors : {p q : VectorEnds} → p.x ≡ q.x → p.y ≡ q.y → p.z ≡ q.z → p ≡ q
same_vectors a b c = λ i. record { x = a i; y = b i; z = c i }

-- what is inside what is inside is inside
pub vector_trans : {p q r : VectorEnds} → VectorInside p q → VectorInside q r → VectorInside p r
vector_trans h k = record { x = inside_trans h.x k.x; y = inside_trans h.y k.y; z = inside_trans h.z k.z }

-- what is inside something is an interval in each component
pub vector_self : {p q : VectorEnds} → VectorInside p q → VectorInside p p
vector_self {p} h = record { x = inside_self p.x h.x.ordered; y = inside_self p.y h.y.ordered; z = inside_self p.z h.z.ordered }
