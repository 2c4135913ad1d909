-- The model has a sine and a cosine at each number of turns.
use Rattle.std.specs.Prelude.{zero, suc, ℤ, pos, negsuc, refl}
use Rattle.std.specs.Int.{int_rem_euclid}
use Rattle.fractions.specs.Fraction.{Fraction, zeroᶠ, ◌*ᶠ◌, neg, ◌≤ᶠ◌}
use Rattle.fractions.proofs.AbsoluteValues.{not_negative_abs}
use Rattle.fractions.proofs.Laws.{not_negative_product}
use Rattle.raim_model.specs.Constants.{tau}
use Rattle.raim_model.specs.Level.{Level}
use Rattle.raim_model.specs.Series.{sine_series, cosine_series, sine_remainder, cosine_remainder}
use Rattle.raim_model.specs.Sine.{quarter_of, turns_left, IsSineCosine, Turned}
use Rattle.series_laws.proofs.Bracket.{square_unit, sine_remainder-is, cosine_remainder-is}
use Rattle.series_laws.proofs.Nest.{rest_unit}
use Rattle.series_laws.proofs.Slow.{near_self}
use Rattle.series_laws.proofs.Turns.{turns_small, radians_small}

pub record HasPair (N : Level) (u : Fraction) : Type 0 where
  pub sine : Fraction
  pub cosine : Fraction
  pub pair : IsSineCosine N u sine cosine

record HasTurned (k : ℤ) (a b : Fraction) : Type 0 where
  s : Fraction
  c : Fraction
  turned : Turned k a b s c

has_turned : (k : ℤ) (a b : Fraction) → HasTurned k a b
has_turned (pos zero) a b = record { s = a; c = b; turned = (refl, refl) }
has_turned (pos (suc zero)) a b = record { s = b; c = neg a; turned = (refl, refl) }
has_turned (pos (suc (suc zero))) a b = record { s = neg a; c = neg b; turned = (refl, refl) }
has_turned (pos (suc (suc (suc n)))) a b = record { s = neg b; c = a; turned = (refl, refl) }
has_turned (negsuc n) a b = record { s = neg b; c = a; turned = (refl, refl) }

pub has_pair : (N : Level) (u : Fraction) → HasPair N u
has_pair N u =
    let x : Fraction = tau *ᶠ turns_left u in
    let U = square_unit x (radians_small (turns_left u) (turns_small u)) in
    let sn : zeroᶠ ≤ᶠ sine_remainder N.terms x = rw (sine_remainder-is N.terms x) (not_negative_product _ _ (not_negative_abs x) (rest_unit (x *ᶠ x) 1 N.terms U).low) in
    let cn : zeroᶠ ≤ᶠ cosine_remainder N.terms x = rw (cosine_remainder-is N.terms x) ((rest_unit (x *ᶠ x) 0 N.terms U).low) in
    let t = has_turned (int_rem_euclid (quarter_of u) (pos 4)) (sine_series N.terms x) (cosine_series N.terms x) in
    record {
      sine = t.s;
      cosine = t.c;
      pair = record {
        sine = sine_series N.terms x;
        cosine = cosine_series N.terms x;
        near_sine = near_self (sine_series N.terms x) (sine_remainder N.terms x) sn;
        near_cosine = near_self (cosine_series N.terms x) (cosine_remainder N.terms x) cn;
        turned = t.turned;
      };
    }
