-- The forms of sines and cosines, where each of their numbers fits 64 bits, and otherwise none.
use Rattle.std.specs.Prelude.{ℤ, pos, neg_ℤ, ◌^◌, Bool, if◌then◌else◌, ◌&&◌, Option, Some, None}
use lib.Signed.{le_z}
use Rattle.fix_interval.specs.Ends.{Ends}
use Rattle.fix_interval.specs.Ranges.{point}
use Rattle.trig_laws.specs.SinCos.{sin_cos_of}
use Rattle.time_forms.specs.Forms.{Form}
use Rattle.time_forms.specs.Operations.{neg_form}
use Rattle.time_forms.specs.Programs.{short_of}
use Rattle.orbit_forms.specs.Lines.{line_form, sine_slack}
use Rattle.orbit_forms.specs.Anomalies.{anomaly_form, ecc_slack}
use Rattle.orbit_forms.specs.Positions.{PairForm, fixed_pair}

-- what follows from a form, where there is one
infixl 10 ◌>>=◌
abbrev pub ◌>>=◌ : {A B : Type 0} → Option A → (A → Option B) → Option B
(Some x) >>= f = f x
None >>= f = None

-- a sine and a cosine along the lines of the turns u about their centre, where they are p, with k units more
unfoldable pub short_lines : PairForm → Form → ℤ → Option PairForm
short_lines p u k = do
  s ← short_of (line_form p.sine p.cosine u k)
  c ← short_of (line_form p.cosine (neg_form p.sine) u k)
  Some (record { sine = s; cosine = c })

-- whether turns change by at most half a turn either way
abbrev pub is_little : ℤ → Bool
is_little z = le_z (neg_ℤ (pos (2 ^ 37))) z && le_z z (pos (2 ^ 37))

unfoldable pub checked_lines : PairForm → Form → ℤ → Option PairForm
checked_lines p u k = if is_little u.turning then short_lines p u k else None

-- the sine and the cosine of one number of units
abbrev pub sines_at : ℤ → PairForm
sines_at z = fixed_pair (sin_cos_of (point z))

-- the sine and the cosine of the turns u
unfoldable pub checked_sin_cos : Form → Option PairForm
checked_sin_cos u = checked_lines (sines_at u.centre) u (sine_slack u)

-- the sine and the cosine of the eccentric anomaly, of a form of mean anomalies and an eccentricity in turns
unfoldable pub checked_ecc_sin_cos : Form → Ends → Option PairForm
checked_ecc_sin_cos m eps = do
  e ← short_of (anomaly_form m eps)
  checked_lines (sines_at e.centre) e (ecc_slack m)
