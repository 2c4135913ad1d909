-- What the sine and the cosine of a form hold, where there is one.
use Rattle.std.proofs.Common.{arith, sym, subst, ◌≡◌, ◌^◌, ℤ, ℕ, pos, neg_ℤ, ◌≤ℤ◌, true, Some}
use Rattle.std.proofs.lemmas.Int.{ints}
use lib.Signed.{le_z}
use Rattle.fix_interval.specs.Ends.{Ends}
use Rattle.trig_laws.specs.SinCos.{sin_cos_of}
use Rattle.time_forms.specs.Forms.{Form, IsTime, Holds, size}
use Rattle.time_forms.proofs.Shorts.{both_hold}
use Rattle.time_forms.proofs.Known.{fixed_holds}
use Rattle.trig_laws.proofs.Encloses.{sin_cos_full}
use Rattle.orbit_forms.specs.Lines.{sine_slack, sine_form, cosine_form}
use Rattle.orbit_forms.specs.Positions.{PairForm, PairHolds, fixed_pair}
use Rattle.orbit_forms.proofs.SinCos.{sine_holds, cosine_holds}
use Rattle.angle_forms.specs.Pairs.{IsPairWithin}
use Rattle.angle_forms.specs.Checked.{is_little, short_lines, checked_lines, sines_at, checked_sin_cos}
use Rattle.angle_forms.proofs.Steps.{if_tested, at_most_z, AreLines, are_lines}

-- a sine and a cosine that stay hold those of the turns
pub fixed_pair_holds : {h : ℕ} {d : ℤ} (a : Ends) → a.lo ≤ℤ a.hi → PairHolds h d (fixed_pair (sin_cos_of a)) (sin_cos_of a)
fixed_pair_holds {h} {d} a o = let f = sin_cos_full a o in record { sine = fixed_holds h d (sin_cos_of a).sine f.sine.ordered; cosine = fixed_holds h d (sin_cos_of a).cosine f.cosine.ordered }

-- lines that there are, of turns that change little
pub record IsLittle (p q : PairForm) (u : Form) (k : ℤ) : Type 0 where
  pub little : size u.turning ≤ℤ pos (2 ^ 37)
  pub lines : AreLines p q u k

little_size : (z : ℤ) → true ≡ is_little z → size z ≤ℤ pos (2 ^ 37)
little_size z e =
    let b = both_hold (le_z (neg_ℤ (pos (2 ^ 37))) z) (le_z z (pos (2 ^ 37))) e in
    let l : neg_ℤ (pos (2 ^ 37)) ≤ℤ z = at_most_z b.0 in
    let h : z ≤ℤ pos (2 ^ 37) = at_most_z b.1 in
    omega (arith, ints)

pub checked_are : (p q : PairForm) (u : Form) (k : ℤ) → checked_lines p u k ≡ Some q → IsLittle p q u k
unfolding checked_lines
checked_are p q u k e = let t = if_tested (is_little u.turning) (short_lines p u k) q e in record { little = little_size u.turning t.0; lines = are_lines p q u k t.1 }

pub sin_cos_holds : {h : ℕ} {d : ℤ} (u : Form) (a : Ends) (p : PairForm) → IsTime h d → Holds h d u a → checked_sin_cos u ≡ Some p → PairHolds h d p (sin_cos_of a)
unfolding checked_sin_cos sine_form cosine_form
sin_cos_holds {h} {d} u a p t k e =
    let l = checked_are (sines_at u.centre) p u (sine_slack u) e in
    record {
      sine = subst (λ (f : Form). Holds h d f (sin_cos_of a).sine) (sym l.lines.sine) (sine_holds u a t l.little k);
      cosine = subst (λ (f : Form). Holds h d f (sin_cos_of a).cosine) (sym l.lines.cosine) (cosine_holds u a t l.little k);
    }

pub sin_cos_small : (u : Form) (p : PairForm) → checked_sin_cos u ≡ Some p → IsPairWithin p (2 ^ 58)
unfolding checked_sin_cos
sin_cos_small u p e = (checked_are (sines_at u.centre) p u (sine_slack u) e).lines.small
