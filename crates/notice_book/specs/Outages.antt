-- Entries as outages.
use Rattle.raim_model.specs.declared.Outage.{Outage}
use Rattle.notice_model.specs.declared.notice.Live.{Live}
use Rattle.notice_model.specs.declared.notice.UtcOutage.{UtcOutage}
use Rattle.notice_model.specs.Notices.{IsSatellite, IsSpan}

abbrev pub outage_of : Live → UtcOutage
outage_of e = record { prn = e.prn; start = e.start; end = e.end }

-- a satellite of GPS, times of UTC, and an end that is after the start
abbrev pub IsUtcOutage : UtcOutage → Type 0
IsUtcOutage o = IsSatellite o.prn × IsSpan o.start o.end

-- the outage at a count of no leap seconds, where GPS time and UTC have the same milliseconds
abbrev pub at_leap_zero : UtcOutage → Outage
at_leap_zero o = record { prn = o.prn; start = o.start; end = o.end }
