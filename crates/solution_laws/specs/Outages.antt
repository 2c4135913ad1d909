-- An outage by its parts.
use Rattle.std.specs.Prelude.{ℕ, ℤ}
use Rattle.std.specs.declared.option.Option.{Option}
use Rattle.raim_model.specs.declared.outage.Outage.{Outage}

abbrev pub outage : ℕ → ℤ → Option ℤ → Outage
outage prn start end = record { prn = prn; start = start; end = end }
