-- The verdict at a point of time: the slope test after R. G. Brown. Each satellite's squared horizontal slope, times the
-- squared bias, is held against the squared alert limit. Its exact form is this project's own.
use Rattle.std.specs.Prelude.{ℕ, ◌<◌, zero, suc, pos, ◌-◌, Bool, false, not, ◌||◌, if◌then◌else◌, nat_lt, List, [], ◌∷◌, length, map, Some, None}
use Rattle.std.specs.declared.option.Option.{Option}
use Rattle.fractions.specs.Fraction.{Fraction, ratio, ◌*ᶠ◌, is_at_most}
use Rattle.raim_model.specs.declared.limits.Limits.{Limits}
use Rattle.raim_model.specs.declared.verdict.Why.{Why}
use Rattle.raim_model.specs.declared.verdict.Why.TheVariants.{Few, Singular, Slope}
use Rattle.raim_model.specs.declared.verdict.Verdict.{Verdict}
use Rattle.raim_model.specs.declared.verdict.Verdict.TheVariants.{Available, Unavailable}
use Rattle.raim_model.specs.Constants.{least_determinant}
use Rattle.raim_model.specs.Geometry.{Row, Matrix, SquaredShift, normal_matrix, determinant, inverse_of, residual_share}

-- x < y, as a test
abbrev pub is_below : Fraction → Fraction → Bool
is_below x y = not (is_at_most y x)

-- whether the slope of the row g is too steep: kappa times its squared shift is above S_ii
unfoldable pub is_steep : SquaredShift → Fraction → Matrix → Row → Bool
is_steep shift kappa X g = is_below (residual_share X g) (kappa *ᶠ shift X g)

abbrev pub is_some_steep : SquaredShift → Fraction → Matrix → List Row → Bool
is_some_steep shift kappa X [] = false
is_some_steep shift kappa X (g ∷ gs) = is_steep shift kappa X g || is_some_steep shift kappa X gs

-- why a list of rows does not pass under the factor kappa, and None where it passes
unfoldable pub fault_of : SquaredShift → Fraction → List Row → Option Why
fault_of shift kappa rows =
    if is_below (determinant (normal_matrix rows)) least_determinant then Some Singular
    else if is_some_steep shift kappa (inverse_of (normal_matrix rows)) rows then Some Slope
    else None

-- the lists without one row, the first row removed first
abbrev pub without_one : List Row → List (List Row)
without_one [] = []
without_one (g ∷ gs) = gs ∷ map (λ hs. g ∷ hs) (without_one gs)

-- the first reason, if there is one, and else the second
abbrev pub or_else : Option Why → Option Why → Option Why
or_else None second = second
or_else (Some why) second = Some why

-- why the first list that does not pass does not
abbrev pub first_fault : SquaredShift → Fraction → List (List Row) → Option Why
first_fault shift kappa [] = None
first_fault shift kappa (rows ∷ rest) = or_else (fault_of shift kappa rows) (first_fault shift kappa rest)

-- the entry at place k, or the last one where k is past the end
abbrev pub entry_or_last : List ℕ → ℕ → ℕ
entry_or_last [] k = 0
entry_or_last (b ∷ []) k = b
entry_or_last (b ∷ c ∷ bs) zero = b
entry_or_last (b ∷ c ∷ bs) (suc k) = entry_or_last (c ∷ bs) k

-- the bias for n satellites, in millimetres: the first entry is that of five
abbrev pub bias_of : Limits → ℕ → ℕ
bias_of limits n = entry_or_last limits.bias_mm.items (n - 5)

-- kappa(n) = (bias(n) / alert)^2, for an alert limit in millimetres
abbrev pub kappa_of : Limits → (alert_mm : ℕ) → ℕ → Fraction
kappa_of limits alert_mm n = ratio (pos (bias_of limits n)) alert_mm *ᶠ ratio (pos (bias_of limits n)) alert_mm

-- how many satellites the test asks for
abbrev pub least_count : (exclude : Bool) → ℕ
least_count exclude = if exclude then 6 else 5

-- why the visible rows, in rising PRN, do not serve: too few; else what the whole list fails by under kappa; else, in
-- exclude mode, what the first list without one row fails by under kappa_less
unfoldable pub reason_of : SquaredShift → (exclude : Bool) → (kappa kappa_less : Fraction) → List Row → Option Why
reason_of shift exclude kappa kappa_less rows =
    if nat_lt (length rows) (least_count exclude) then Some Few
    else or_else (fault_of shift kappa rows) (if exclude then first_fault shift kappa_less (without_one rows) else None)

abbrev pub verdict_for : Option Why → Verdict
verdict_for None = Available
verdict_for (Some why) = Unavailable why

-- the point verdict of the n visible rows, under kappa(n) and kappa(n - 1), for a shift and its alert limit
abbrev pub point_verdict : SquaredShift → Limits → (alert_mm : ℕ) → List Row → Verdict
point_verdict shift limits alert_mm rows =
    verdict_for (reason_of shift limits.exclude (kappa_of limits alert_mm (length rows)) (kappa_of limits alert_mm (length rows - 1)) rows)

-- Fault detection needs five satellites: with fewer visible and usable ones it is unavailable, for the
-- reason Few.
abbrev pub IsTooFew : ℕ → Type 0
IsTooFew satellites = satellites < 5
