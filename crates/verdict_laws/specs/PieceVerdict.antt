-- The verdict on a piece of time of a flight, from what is seen of the satellites that are usable.
use Rattle.std.specs.Prelude.{ℕ, ◌*◌, ◌-◌, ℤ, pos, if◌then◌else◌, nat_lt, List, length, Some, None}
use Rattle.std.specs.declared.option.Option.{Option}
use Rattle.raim_model.specs.declared.almanac.AlmRecord.{AlmRecord}
use Rattle.raim_model.specs.declared.limits.Limits.{Limits}
use Rattle.raim_model.specs.declared.verdict.Why.TheVariants.{Few}
use Rattle.raim_model.specs.declared.verdict.Cmp.TheVariants.{Mask}
use Rattle.raim_model.specs.declared.verdict.Verdict.{Verdict}
use Rattle.raim_model.specs.declared.verdict.Verdict.TheVariants as verdict
use Rattle.raim_model.specs.PointVerdict.{bias_of, least_count}
use Rattle.raim_model.specs.Solution.{Case, usable}
use Rattle.fix_interval.specs.Ends.{Ends}
use Rattle.fix_interval.specs.Quotients.{from_ratio_of}
use Rattle.slope_laws.specs.Rows.{NamedRow}
use Rattle.slope_laws.specs.Slopes.{SlopeTest, detect_by}
use Rattle.slope_laws.specs.Subsets.{exclude_by}
use Rattle.verdict_laws.specs.Sights.{Sight, Sighted, sighted_over, count_possible, first_straddling, rows_seen}

-- the factor kappa(n), the squared bias of n satellites over the squared alert limit in millimetres, rounded outward
unfoldable pub kappa_over : Limits → (alert_mm : ℕ) → ℕ → Ends
kappa_over limits alert_mm n = from_ratio_of (pos (bias_of limits n * bias_of limits n)) (alert_mm * alert_mm)

-- the test of the n visible rows as the mode has it: under kappa(n), and in exclude mode also of each list without one row under
-- kappa(n - 1)
abbrev pub test_by : SlopeTest → Limits → (alert_mm : ℕ) → List NamedRow → Verdict
test_by test limits alert_mm rows =
    if limits.exclude then exclude_by test rows (kappa_over limits alert_mm (length rows)) (kappa_over limits alert_mm (length rows - 1))
    else detect_by test rows (kappa_over limits alert_mm (length rows))

-- undecided by the mask of a satellite that straddles it, if there is one, and else the next
abbrev pub unless_straddling : Option ℕ → Verdict → Verdict
unless_straddling (Some prn) next = verdict.Undecided (Mask prn)
unless_straddling None next = next

-- what is seen of the usable satellites, in rising PRN, gives the verdict: too few that may be visible; else undecided by the first
-- that straddles the mask; else what the test of the visible rows answers
unfoldable pub verdict_by : SlopeTest → Limits → (alert_mm : ℕ) → List Sighted → Verdict
verdict_by test limits alert_mm seen =
    if nat_lt (count_possible seen) (least_count limits.exclude) then verdict.Unavailable Few
    else unless_straddling (first_straddling seen) (test_by test limits alert_mm (rows_seen seen))

-- what is seen over the piece of the satellites that are usable at its first millisecond
abbrev pub seen_over : (AlmRecord → ℤ → ℤ → Sight) → Case → (first last : ℤ) → List Sighted
seen_over sight c first last = sighted_over (λ rec. sight rec first last) (usable c first)

-- the verdict on a piece inside one root piece, by a test of slopes, an alert limit in millimetres and what is seen of a satellite
-- over a piece
unfoldable pub piece_verdict_by : SlopeTest → (alert_mm : ℕ) → (AlmRecord → ℤ → ℤ → Sight) → Case → (first last : ℤ) → Verdict
piece_verdict_by test alert_mm sight c first last = verdict_by test c.limits alert_mm (seen_over sight c first last)
