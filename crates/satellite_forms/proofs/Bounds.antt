-- Wider bounds, and the bounds of what an orbit keeps.
use Rattle.std.proofs.Common.{arith, ℕ, ◌≤◌, ◌*◌, ◌^◌}
use Rattle.std.proofs.lemmas.Int.{ints}
use lib.Dec.{lit≤}
use Rattle.raim_model.specs.declared.almanac.AlmRecord.{AlmRecord}
use Rattle.fix_interval.specs.declared.interval.Iv.{Iv}
use Rattle.fix_interval.specs.Intervals.{IsWithin}
use Rattle.fix_interval.proofs.EndInsides.{around_within, from_to_within}
use Rattle.time_forms.specs.Forms.{Form}
use Rattle.time_forms.specs.Programs.{IsFormWithin}
use Rattle.time_forms.proofs.Bits.{centre_within, turning_within, remainder_within, form_within, wider_bits}
use Rattle.orbit_forms.specs.Positions.{PairForm}
use Rattle.angle_forms.specs.Pairs.{IsPairWithin}
use Rattle.almanac_orbit.specs.declared.kept.Kept.{Kept}
use Rattle.almanac_orbit.specs.Kept.{IsKept}
use Rattle.almanac_orbit.proofs.KeptElements.{kept_bounded}

pub wider_form : {f : Form} (m n : ℕ) → m ≤ n → IsFormWithin f m → IsFormWithin f n
wider_form {f} m n h p = form_within f n (wider_bits m n h (centre_within p)) (wider_bits m n h (turning_within p)) (wider_bits m n h (remainder_within p))

pub wider_pair : {p : PairForm} (m n : ℕ) → m ≤ n → IsPairWithin p m → IsPairWithin p n
wider_pair m n h p = record { sine = wider_form m n h p.sine; cosine = wider_form m n h p.cosine }

pub wider_interval : {a : Iv} (m n : ℕ) → m ≤ n → IsWithin a m → IsWithin a n
wider_interval m n h p = let l = p.low in let u = p.high in record { low = omega (arith, ints); high = omega (arith, ints) }

-- the elements of an orbit
pub record IsKeptWithin (k : Kept) : Type 0 where
  pub semi_major_axis : IsWithin k.semi_major_axis (2 ^ 44)
  pub motion : IsWithin k.motion (2 ^ 52)
  pub eccentricity : IsWithin k.eccentricity (2 ^ 33)
  pub semi_minor_axis : IsWithin k.semi_minor_axis (2 ^ 44)
  pub mean_anomaly : IsWithin k.mean_anomaly (2 ^ 41)
  pub node : IsWithin k.node (2 ^ 41)
  pub drift : IsWithin k.drift (2 ^ 52)
  pub turned : IsWithin k.turned (2 ^ 80)

pub kept_within : (rec : AlmRecord) (k : Kept) → IsKept rec k → IsKeptWithin k
kept_within rec k i =
    let b = kept_bounded rec k i in
    record {
      semi_major_axis = from_to_within k.semi_major_axis (16 * 2 ^ 38) (49 * 2 ^ 38) (2 ^ 44) (lit≤ tt) b.semi_major_axis;
      motion = from_to_within k.motion 0 (2 ^ 52) (2 ^ 52) (lit≤ tt) b.motion;
      eccentricity = from_to_within k.eccentricity 0 (2 ^ 33) (2 ^ 33) (lit≤ tt) b.eccentricity;
      semi_minor_axis = around_within k.semi_minor_axis (50 * 2 ^ 38) (2 ^ 44) (lit≤ tt) b.semi_minor_axis;
      mean_anomaly = around_within k.mean_anomaly (2 ^ 41) (2 ^ 41) (lit≤ tt) b.mean_anomaly;
      node = around_within k.node (2 ^ 41) (2 ^ 41) (lit≤ tt) b.node;
      drift = around_within k.drift (2 ^ 51) (2 ^ 52) (lit≤ tt) b.drift;
      turned = around_within k.turned (2 ^ 80) (2 ^ 80) (lit≤ tt) b.turned;
    }
