-- One quarter of the written evaluation holds each sine and cosine that the model admits there.
use Rattle.std.specs.Prelude.{◌≡◌, ℤ, pos, ◌^◌, ◌≤◌, ◌*ℤ◌, refl}
use Rattle.std.proofs.Common.{arith, ◌∙◌}
use Rattle.std.proofs.lemmas.Int.{ints}
use Rattle.std.proofs.lemmas.Nat.{pow_pos}
use lib.Dec.{lit≤}
use Rattle.fractions.specs.Fraction.{Fraction, ratio, whole, ◌*ᶠ◌}
use Rattle.fractions.proofs.Laws.{≤ᶠ_refl}
use Rattle.fractions.proofs.Ratios.{ratio-mul, ratio-same, neg-ratio}
use Rattle.raim_model.specs.Constants.{tau}
use Rattle.raim_model.specs.Level.{Level}
use Rattle.raim_model.specs.Sine.{quarter_of, turns_left, IsSineCosine}
use Rattle.fix_interval.specs.Ends.{Ends}
use Rattle.fix_interval.specs.Lies.{Lies}
use Rattle.fix_interval.proofs.EndBounds.{clamp_encloses}
use Rattle.fix_interval.proofs.EndSums.{sub_encloses}
use Rattle.series_laws.proofs.Turns.{IsEighth, turns_small, radians_small, between}
use Rattle.series_laws.proofs.Units.{sine_small, cosine_small}
use Rattle.trig_laws.specs.Quarter.{sine_of, cosine_of, left_of}
use Rattle.trig_laws.proofs.Eighths.{sine_encloses, cosine_encloses}
use Rattle.std.proofs.Common.{sym}

pub quarter_lies : (q : ℤ) → Lies record { lo = q *ℤ pos (2 ^ 36); hi = q *ℤ pos (2 ^ 36) } 38 (whole q *ᶠ ratio (pos 1) 4)
quarter_lies q = record { low = rw e (≤ᶠ_refl _); high = rw e (≤ᶠ_refl _) }
  where
    scales : (q : ℤ) → (q *ℤ pos 1) *ℤ pos (2 ^ 38) ≡ (q *ℤ pos (2 ^ 36)) *ℤ pos 4
    scales q = omega (arith, ints)

    e : whole q *ᶠ ratio (pos 1) 4 ≡ ratio (q *ℤ pos (2 ^ 36)) (2 ^ 38)
    e = ratio-mul q (pos 1) 1 4 (lit≤ tt) (lit≤ tt) ∙ ratio-same (q *ℤ pos 1) (q *ℤ pos (2 ^ 36)) 4 (2 ^ 38) (lit≤ tt) (pow_pos 38) (scales q)

left_lies : (a : Ends) (u : Fraction) → Lies a 38 u → Lies (left_of a (quarter_of u)) 38 (turns_left u)
unfolding left_of
left_lies a u l =
    let h : IsEighth (turns_left u) = turns_small u in
    clamp_encloses (pos (2 ^ 35)) refl 38 (turns_left u) (sub_encloses refl 38 u _ l (quarter_lies (quarter_of u))) (rw (sym (neg-ratio (pos (2 ^ 35)) (2 ^ 38)), eighth) h.low) (rw eighth h.high)
  where
    eighth : ratio (pos (2 ^ 35)) (2 ^ 38) ≡ ratio (pos 1) 8
    eighth = ratio-same (pos (2 ^ 35)) (pos 1) (2 ^ 38) 8 (pow_pos 38) (lit≤ tt) refl

-- at the quarter of u
pub quarter_encloses : (N : Level) (a : Ends) (u s c : Fraction) → Lies a 38 u → (p : IsSineCosine N u s c)
    → Lies (sine_of (left_of a (quarter_of u))) 38 p.sine × Lies (cosine_of (left_of a (quarter_of u))) 38 p.cosine
quarter_encloses N a u s c l p =
    let r = radians_small (turns_left u) (turns_small u) in
    let m : 8 ≤ N.terms = omega (arith, N.enough) in
    let i = between p.sine (sine_small N.terms (tau *ᶠ turns_left u) p.sine (omega arith) r p.near_sine) in
    let j = between p.cosine (cosine_small N.terms (tau *ᶠ turns_left u) p.cosine (omega arith) r p.near_cosine) in (
      sine_encloses N.terms (left_of a (quarter_of u)) (turns_left u) p.sine (omega arith) (left_lies a u l) r p.near_sine i.0 i.1,
      cosine_encloses N.terms (left_of a (quarter_of u)) (turns_left u) p.cosine m (left_lies a u l) r p.near_cosine j.0 j.1,
    )
