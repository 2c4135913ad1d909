-- Refusals of a text and of its parts: want of memory, or the first line that is refused, and its cause.
use Rattle.std.specs.Prelude.{ℕ}
use Rattle.raim_model.specs.declared.TextWhy.{TextWhy}
use Rattle.raim_model.specs.declared.Refusal.{Refusal}
use Rattle.raim_model.specs.declared.Refusal.TheVariants.{Memory, Text as Refused}
use Rattle.text_lines.specs.Lines.{Text}
use Rattle.chart_text.specs.Flights.{RefusesFlight}
use Rattle.chart_text.specs.Blocks.{RefusesReason, RefusesBody, RefusesBlock}
use Rattle.chart_text.specs.Fleets.{RefusesFleet}
use Rattle.chart_text.specs.Charts.{RefusesChart}

-- want of memory, or a line and a cause of which this holds
abbrev pub IsRefusedBy : (ℕ → TextWhy → Type 0) → Refusal → Type 0
IsRefusedBy Refuses Memory = Unit {0}
IsRefusedBy Refuses (Refused fault) = Refuses fault.line fault.why

abbrev pub IsFlightRefused : Text → Refusal → Type 0
IsFlightRefused text refusal = IsRefusedBy (RefusesFlight text) refusal

abbrev pub IsReasonRefused : Text → Refusal → Type 0
IsReasonRefused body refusal = IsRefusedBy (RefusesReason body) refusal

abbrev pub IsBodyRefused : Text → Refusal → Type 0
IsBodyRefused body refusal = IsRefusedBy (RefusesBody body) refusal

abbrev pub IsBlockRefused : (number : ℕ) → Text → Refusal → Type 0
IsBlockRefused number text refusal = IsRefusedBy (RefusesBlock number text) refusal

abbrev pub IsFleetRefused : Text → Refusal → Type 0
IsFleetRefused text refusal = IsRefusedBy (RefusesFleet text) refusal

abbrev pub IsChartRefused : Text → Refusal → Type 0
IsChartRefused text refusal = IsRefusedBy (RefusesChart text) refusal
