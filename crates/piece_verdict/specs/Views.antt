-- What is seen from a frame.
use Rattle.std.specs.Prelude.{ℤ, Bool, true, false, List}
use Rattle.std.specs.List.{filter}
use Rattle.raim_model.specs.declared.almanac.AlmRecord.{AlmRecord}
use Rattle.raim_model.specs.declared.limits.Weight.{Weight}
use Rattle.raim_model.specs.declared.outage.Outage.{Outage}
use Rattle.raim_model.specs.Usable.{is_usable}
use Rattle.fix_interval.specs.Ends.{Ends}
use Rattle.orbit_laws.specs.Positions.{position_of}
use Rattle.site_laws.specs.Frames.{FrameEnds}
use Rattle.site_laws.specs.Sights.{look_of}
use Rattle.verdict_laws.specs.Sights.{Sight, Sighted, sighted_over}
use Rattle.case_laws.specs.SightOver.{sight_given, weight_over}
use Rattle.site_laws.specs.Sights.{SightEnds, hidden}
use Rattle.piece_verdict.specs.Hidden.{is_marked, unless_marked}

-- how a satellite is seen from a frame, for the sine of the mask and the weights
abbrev pub seen_from : FrameEnds → (mask : Ends) → List Weight → (first last : ℤ) → AlmRecord → Sight
seen_from frame mask weights first last rec = sight_given (weight_over weights rec.prn) (look_of frame (position_of rec first last) mask)

-- the same where some are marked as hidden
abbrev pub seen_from_knowing : FrameEnds → (mask : Ends) → List Weight → (places : List Bool) → (first last : ℤ) → AlmRecord → Sight
seen_from_knowing frame mask weights places first last rec = unless_marked (is_marked places rec) (seen_from frame mask weights first last rec)

-- how those that are usable at first are
abbrev pub all_seen_from : FrameEnds → (mask : Ends) → List Weight → List Outage → (places : List Bool) → (first last : ℤ) → List AlmRecord → List Sighted
all_seen_from frame mask weights outages places first last records = sighted_over (seen_from_knowing frame mask weights places first last) (filter (is_usable outages first) records)

-- a look that is not made where the satellite is marked
abbrev pub look_unless : Bool → SightEnds → SightEnds
look_unless true look = hidden
look_unless false look = look
