-- Bars lie side by side.
use Rattle.std.proofs.Common.{◌≡◌, ◌∙◌, sym, ap, subst, ℕ, ◌+◌, ◌-◌, ◌*◌, ◌/◌, ◌≤◌, ◌<◌, ℤ, pos, ◌≤ℤ◌, ◌<ℤ◌, ◌-ℤ◌, List, [], ◌∷◌, add-mul, one-mul, arith}
use Rattle.std.specs.Prelude.{unsigned_abs}
use Rattle.std.specs.List.{sum_by}
use Rattle.std.proofs.Math.Nat.{mul-div_cancel}
use Rattle.std.proofs.lemmas.Nat.{div-add-mod', mod_below, le-div}
use Rattle.std.proofs.lemmas.List.Sums.{sum_by-cons}
use Rattle.jiff_core.proofs.SignedLemmas.{signed_arith}
use Rattle.gps_week.proofs.CastLemmas.{unsigned_abs-not_negative}
use Rattle.raim_model.specs.declared.verdict.Run.{Run}
use Rattle.raim_model.specs.declared.span.Span.{Span}
use Rattle.report_chart.specs.Band.{band_units, ms_between, place, width}
use Rattle.report_chart.specs.Chart.{Follow}
use Rattle.report_chart.specs.Laws.{LieSideBySide, BarsFillTheBand, WidthsAddUp, PlacesAreShares}
use Rattle.report_chart.proofs.FlightLemmas.{forward}

-- milliseconds between two times, as a difference
pub between : (first end : ℤ) → first ≤ℤ end → pos (ms_between first end) ≡ end -ℤ first
between first end below = unsigned_abs-not_negative (end -ℤ first) (omega (arith, signed_arith, below))

pub some_ms : (first end : ℤ) → first <ℤ end → 0 < ms_between first end
some_ms first end below = go (ms_between first end) first end (between first end (omega (arith, signed_arith, below))) below
  where
    go : (n : ℕ) (first end : ℤ) → pos n ≡ end -ℤ first → first <ℤ end → 0 < n
    go n first end e below = omega (arith, signed_arith, e, below)

-- a quotient, by its product
share : (a n : ℕ) → 0 < n → (a / n * n ≤ a) × (a < (a / n + 1) * n)
share a n some =
    let whole = div-add-mod' a n in
    let rest = mod_below a n some in
    let next : (a / n + 1) * n ≡ a / n * n + n = add-mul (a / n) 1 n ∙ ap (λ (m : ℕ). a / n * n + m) (one-mul n) in
    (omega (arith, whole), subst (λ (m : ℕ). a < m) (sym next) (omega (arith, whole, rest)))

pub shares : PlacesAreShares
shares span t forward = share (band_units * ms_between span.first t) (ms_between span.first span.end) (some_ms span.first span.end forward)

-- a quotient rises with its dividend
quotients : (a b n : ℕ) → 0 < n → a ≤ b → a / n ≤ b / n
quotients a b n some below = le-div (a / n) b n some (omega (arith, (share a n some).0, below))

-- the places of a flight's two ends
place_first : (span : Span) → place span span.first ≡ 0
place_first span = ap (λ (z : ℤ). band_units * unsigned_abs z / ms_between span.first span.end) (nothing span.first) ∙ zero_share (ms_between span.first span.end)
  where
    nothing : (z : ℤ) → z -ℤ z ≡ pos 0
    nothing z = omega (arith, signed_arith)

    zero_share : (n : ℕ) → 0 / n ≡ 0
    zero_share n = omega arith

pub place_end : (span : Span) → span.first <ℤ span.end → place span span.end ≡ band_units
place_end span forward = mul-div_cancel band_units (some_ms span.first span.end forward)

-- a later time stands no farther left
pub place_rises : (span : Span) (first end : ℤ) → span.first <ℤ span.end → span.first ≤ℤ first → first ≤ℤ end → place span first ≤ place span end
place_rises span first end forward from below =
    let a = between span.first first from in
    let b = between span.first end (omega (arith, signed_arith, from, below)) in
    quotients (band_units * ms_between span.first first) (band_units * ms_between span.first end) (ms_between span.first span.end) (some_ms span.first span.end forward)
    (go (ms_between span.first first) (ms_between span.first end) span.first first end a b below)
  where
    go : (m n : ℕ) (start first end : ℤ) → pos m ≡ first -ℤ start → pos n ≡ end -ℤ start → first ≤ℤ end → band_units * m ≤ band_units * n
    go m n start first end p q below = let fewer : m ≤ n = omega (arith, signed_arith, p, q, below) in omega arith

-- the bars of runs that follow one another from a time on
side_by_side : (span : Span) (first : ℤ) (runs : List Run) → span.first <ℤ span.end → span.first ≤ℤ first → Follow first span.end runs → LieSideBySide span (place span first) runs
side_by_side span first [] forward from follow = ap (place span) follow ∙ place_end span forward
side_by_side span first (run ∷ more) forward from follow =
    let later : span.first ≤ℤ run.end = omega (arith, signed_arith, from, follow.1) in
    let rising : place span run.first ≤ place span run.end = place_rises span run.first run.end forward (omega (arith, signed_arith, from, follow.0)) (omega (arith, signed_arith, follow.0, follow.1)) in
    let ends : place span run.end ≡ place span run.first + width span run = up (place span run.first) (place span run.end) rising in (
      ap (place span) follow.0,
      subst (λ (x : ℕ). LieSideBySide span x more) ends (side_by_side span run.end more forward later follow.2),
    )
  where
    up : (a b : ℕ) → a ≤ b → b ≡ a + (b - a)
    up a b below = omega arith

pub fill : BarsFillTheBand
fill span runs is flight =
    subst (λ (x : ℕ). LieSideBySide span x runs) (place_first span)
    (side_by_side span span.first runs (forward span runs is flight.follow) (omega (arith, signed_arith)) flight.follow)

-- bars that lie side by side are as wide as what they fill
wide : (span : Span) (x : ℕ) (runs : List Run) → LieSideBySide span x runs → x + sum_by (width span) runs ≡ band_units
wide span x [] lie = omega (arith, lie)
wide span x (run ∷ more) lie =
    let rest = wide span (place span run.first + width span run) more lie.1 in
    let sum = sum_by-cons (width span) run more in
    go x (place span run.first) (width span run) (sum_by (width span) more) (sum_by (width span) (run ∷ more)) lie.0 rest sum
  where
    go : (x a w s t : ℕ) → a ≡ x → a + w + s ≡ band_units → t ≡ w + s → x + t ≡ band_units
    go x a w s t p q r = omega (arith, p, q, r)

pub widths : WidthsAddUp
widths span runs is flight = let all = wide span 0 runs (fill span runs is flight) in zero (sum_by (width span) runs) all
  where
    zero : (n : ℕ) → 0 + n ≡ band_units → n ≡ band_units
    zero n e = omega (arith, e)
