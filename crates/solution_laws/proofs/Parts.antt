-- A point verdict by the parts of the limits that it takes.
use Rattle.std.specs.Prelude.{◌≡◌, ℕ, pos, ◌-◌, Bool, List, length}
use Rattle.std.proofs.Common.{subst, sym}
use Rattle.fractions.specs.Fraction.{Fraction, ratio, ◌*ᶠ◌}
use Rattle.raim_model.specs.declared.limits.Limits.{Limits}
use Rattle.raim_model.specs.declared.verdict.Verdict.{Verdict}
use Rattle.raim_model.specs.Geometry.{Row, SquaredShift}
use Rattle.raim_model.specs.PointVerdict.{entry_or_last, reason_of, verdict_for, point_verdict}

-- the factor for n satellites, by the table of biases
abbrev pub factor : List ℕ → (alert_mm : ℕ) → ℕ → Fraction
factor biases alert_mm n = ratio (pos (entry_or_last biases (n - 5))) alert_mm *ᶠ ratio (pos (entry_or_last biases (n - 5))) alert_mm

abbrev pub verdict_by : SquaredShift → (exclude : Bool) → (biases : List ℕ) → (alert_mm : ℕ) → List Row → Verdict
verdict_by shift exclude biases alert_mm rows = verdict_for (reason_of shift exclude (factor biases alert_mm (length rows)) (factor biases alert_mm (length rows - 1)) rows)

pub by_parts : (shift : SquaredShift) (limits : Limits) (alert_mm : ℕ) (rows : List Row) (exclude : Bool) (biases : List ℕ) (v : Verdict)
    → limits.exclude ≡ exclude → limits.bias_mm.items ≡ biases → verdict_by shift exclude biases alert_mm rows ≡ v → point_verdict shift limits alert_mm rows ≡ v
by_parts shift limits alert_mm rows exclude biases v e f g =
    subst (λ t. verdict_for (reason_of shift t (factor limits.bias_mm.items alert_mm (length rows)) (factor limits.bias_mm.items alert_mm (length rows - 1)) rows) ≡ v) (sym e)
    (subst (λ t. verdict_by shift exclude t alert_mm rows ≡ v) (sym f) g)
