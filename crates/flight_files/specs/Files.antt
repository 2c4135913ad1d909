-- What the four files of a prediction say, in the order in which they are read: limits, route, outages, almanac.
use Rattle.std.specs.Prelude.{◌≡◌, ◌≤◌, ◌<◌, ℕ, List, length, IfSome}
use Rattle.std.specs.declared.option.Option.{Option}
use Rattle.raim_model.specs.declared.AlmRecord.{AlmRecord}
use Rattle.raim_model.specs.declared.FileNo.{FileNo}
use Rattle.raim_model.specs.declared.FileNo.TheVariants as file
use Rattle.raim_model.specs.declared.Limits.{Limits}
use Rattle.raim_model.specs.declared.Outage.{Outage}
use Rattle.raim_model.specs.declared.Span.{Span}
use Rattle.raim_model.specs.declared.TextWhy.{TextWhy}
use Rattle.raim_model.specs.declared.Waypoint.{Waypoint}
use Rattle.raim_model.specs.Route.{flight_of}
use Rattle.raim_base.specs.MemDeskState.{Each, of_file}
use Rattle.raim_base.specs.Sizes.{longest_file}
use Rattle.text_lines.specs.Lines.{Text, lines_of}
use Rattle.text_lines.specs.Reading.{Refuses}
use Rattle.limits_text.specs.Limits.{limits_lines}
use Rattle.limits_text.specs.Answers.{SayLimits}
use Rattle.route_interp.specs.Routes.{route_lines}
use Rattle.route_interp.specs.Answers.{SayWaypoints}
use Rattle.outage_notice.specs.Outages.{outage_lines}
use Rattle.outage_notice.specs.Answers.{SayOutages}
use Rattle.alm_reader.specs.Almanacs.{SayAlmanacs, RefusesAlmanacs}

-- a file is no longer than a file may be, and this holds of its lines; of bytes that are not told nothing is said
abbrev pub HasLines : Option Text → (List Text → Type 0) → Type 0
HasLines told Are = IfSome told (λ bytes. (length bytes ≤ longest_file) × Are (lines_of bytes))

-- a file has more bytes than a file may have
abbrev pub IsTooLong : Option Text → Type 0
IsTooLong told = IfSome told (λ bytes. longest_file < length bytes)

-- what refuses the lines of each file, at a line for a cause: times of day have these leap seconds, and the almanac's
-- are those nearest to this flight
abbrev pub RefusesFile : FileNo → (leap : ℕ) → (flight : Span) → List Text → ℕ → TextWhy → Type 0
RefusesFile file.Limits leap flight = Refuses limits_lines
RefusesFile file.Route leap flight = Refuses (route_lines leap)
RefusesFile file.Outages leap flight = Refuses (outage_lines leap)
RefusesFile file.Almanac leap flight = RefusesAlmanacs flight

-- what each path holds, where it is told, and the four paths
module _ (holds : Text → Option Text) (paths : Each Text) where
  abbrev pub IsLimitsFile : Limits → Type 0
  IsLimitsFile limits = HasLines (holds paths.limits) (λ lines. SayLimits lines limits)

  abbrev pub IsRouteFile : (leap : ℕ) → List Waypoint → Type 0
  IsRouteFile leap route = HasLines (holds paths.route) (λ lines. SayWaypoints leap lines route)

  abbrev pub IsOutagesFile : (leap : ℕ) → List Outage → Type 0
  IsOutagesFile leap outages = HasLines (holds paths.outages) (λ lines. SayOutages leap lines outages)

  abbrev pub IsAlmanacFile : Span → List (List AlmRecord) → Type 0
  IsAlmanacFile flight almanacs = HasLines (holds paths.almanac) (λ lines. SayAlmanacs flight lines almanacs)

  -- all four files are accepted, and say this: route and outages under the leap seconds of the limits, the almanacs
  -- for the flight of the route
  pub record AreAcceptedFiles (limits : Limits) (route : List Waypoint) (outages : List Outage) (almanacs : List (List AlmRecord)) : Type 0 where
    pub limits_file : IsLimitsFile limits
    pub route_file : IsRouteFile limits.leap route
    pub outages_file : IsOutagesFile limits.leap outages
    pub almanac_file : IsAlmanacFile (flight_of route) almanacs

  -- the limits are accepted, and have these leap seconds
  pub record AreLimitsOf (leap : ℕ) : Type 0 where
    pub limits : Limits
    pub accepted : IsLimitsFile limits
    pub leap_is : leap ≡ limits.leap

  -- the route is accepted, and has this flight
  pub record IsRouteOf (leap : ℕ) (flight : Span) : Type 0 where
    pub route : List Waypoint
    pub accepted : IsRouteFile leap route
    pub flight_is : flight ≡ flight_of route

  -- the outages are accepted
  pub record AreOutagesOf (leap : ℕ) : Type 0 where
    pub outages : List Outage
    pub accepted : IsOutagesFile leap outages

  -- the files that are read before this one are accepted, with these leap seconds and this flight
  abbrev pub AreAcceptedBefore : FileNo → (leap : ℕ) → (flight : Span) → Type 0
  AreAcceptedBefore file.Limits leap flight = Unit {0}
  AreAcceptedBefore file.Route leap flight = AreLimitsOf leap
  AreAcceptedBefore file.Outages leap flight = AreLimitsOf leap × IsRouteOf leap flight
  AreAcceptedBefore file.Almanac leap flight = AreLimitsOf leap × IsRouteOf leap flight × AreOutagesOf leap

  -- this file is the first in the order that is refused, at this line for this cause
  pub record IsRefusedFirst (refused : FileNo) (line : ℕ) (why : TextWhy) : Type 0 where
    pub leap : ℕ
    pub flight : Span
    pub accepted : AreAcceptedBefore refused leap flight
    pub here : HasLines (holds (of_file paths refused)) (λ lines. RefusesFile refused leap flight lines line why)

  -- this file has more bytes than a file may have, and those before it are accepted
  pub record IsTooLongFirst (long : FileNo) : Type 0 where
    pub leap : ℕ
    pub flight : Span
    pub accepted : AreAcceptedBefore long leap flight
    pub here : IsTooLong (holds (of_file paths long))
