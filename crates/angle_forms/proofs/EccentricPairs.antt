-- What the sine and the cosine of an eccentric anomaly's form hold, where there is one.
use Rattle.std.proofs.Common.{sym, subst, ◌≡◌, ◌^◌, ℕ, ℤ, pos, ◌≤ℤ◌, Some}
use Rattle.fix_interval.specs.Ends.{Ends, width_of}
use Rattle.kepler_laws.specs.Anomalies.{IsEccentricityInTurns}
use Rattle.kepler_laws.specs.EccentricSine.{ecc_sin_cos_of}
use Rattle.time_forms.specs.Forms.{Form, IsTime, Holds}
use Rattle.time_forms.specs.Programs.{short_of}
use Rattle.time_forms.proofs.Shorts.{short_same}
use Rattle.orbit_forms.specs.Anomalies.{anomaly_form, ecc_slack, ecc_sine_form, ecc_cosine_form}
use Rattle.orbit_forms.specs.Positions.{PairForm, PairHolds}
use Rattle.orbit_forms.proofs.EccentricForms.{ecc_sine_holds, ecc_cosine_holds}
use Rattle.angle_forms.specs.Pairs.{IsPairWithin}
use Rattle.angle_forms.specs.Checked.{sines_at, checked_ecc_sin_cos}
use Rattle.angle_forms.proofs.Steps.{then_some}
use Rattle.angle_forms.proofs.Turned.{IsLittle, checked_are}

-- the lines about the middle's eccentric anomaly
record IsEccentric (m : Form) (eps : Ends) (p : PairForm) : Type 0 where
  pub lines : IsLittle (sines_at (anomaly_form m eps).centre) p (anomaly_form m eps) (ecc_slack m)

ecc_are : (m : Form) (eps : Ends) (p : PairForm) → checked_ecc_sin_cos m eps ≡ Some p → IsEccentric m eps p
unfolding checked_ecc_sin_cos
ecc_are m eps p e = then_some _ (short_of (anomaly_form m eps)) p e (λ f s l.
    record { lines = subst (λ (g : Form). IsLittle (sines_at g.centre) p g (ecc_slack m)) (short_same (anomaly_form m eps) f s) (checked_are (sines_at f.centre) p f (ecc_slack m) l) })

pub ecc_sin_cos_holds : {h : ℕ} {d : ℤ} (m : Form) (eps a : Ends) (p : PairForm) → IsEccentricityInTurns eps → width_of eps ≤ℤ pos 4 → IsTime h d → Holds h d m a → checked_ecc_sin_cos m eps ≡ Some p → PairHolds h d p (ecc_sin_cos_of a eps)
unfolding ecc_sine_form ecc_cosine_form
ecc_sin_cos_holds {h} {d} m eps a p i n t k e =
    let l = (ecc_are m eps p e).lines in
    record {
      sine = subst (λ (f : Form). Holds h d f (ecc_sin_cos_of a eps).sine) (sym l.lines.sine) (ecc_sine_holds m eps a t i n l.little k);
      cosine = subst (λ (f : Form). Holds h d f (ecc_sin_cos_of a eps).cosine) (sym l.lines.cosine) (ecc_cosine_holds m eps a t i n l.little k);
    }

pub ecc_sin_cos_small : (m : Form) (eps : Ends) (p : PairForm) → checked_ecc_sin_cos m eps ≡ Some p → IsPairWithin p (2 ^ 58)
ecc_sin_cos_small m eps p e = (ecc_are m eps p e).lines.lines.small
