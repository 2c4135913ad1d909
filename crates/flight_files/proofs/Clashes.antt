-- A file is not both accepted and refused, or too long.
use Rattle.std.proofs.Common.{◌≡◌, ◌<◌, ℕ, List, [], ◌∷◌, filter_map, Option, Some, None, refl, sym, ap, ◌∙◌, subst, arith}
use Rattle.std.specs.Prelude.{IsSome}
use Rattle.raim_model.specs.declared.AlmRecord.{AlmRecord}
use Rattle.raim_model.specs.declared.FileNo.{FileNo}
use Rattle.raim_model.specs.declared.FileNo.TheVariants.{Limits, Route, Outages, Almanac}
use Rattle.raim_model.specs.declared.Limits.{Limits as LimitsFile}
use Rattle.raim_model.specs.declared.Outage.{Outage}
use Rattle.raim_model.specs.declared.Span.{Span}
use Rattle.raim_model.specs.declared.TextWhy.{TextWhy}
use Rattle.raim_model.specs.declared.Waypoint.{Waypoint}
use Rattle.raim_model.specs.Route.{flight_of}
use Rattle.raim_base.specs.MemDeskState.{Each, of_file}
use Rattle.text_lines.specs.Lines.{Text, lines_of}
use Rattle.text_lines.specs.Reading.{Refuses}
use Rattle.text_lines.proofs.ReadingLaws.{never_refused, refused_once, same_entries}
use Rattle.limits_text.specs.Limits.{limits_lines, leap_in}
use Rattle.limits_text.specs.Answers.{SayLimits}
use Rattle.route_interp.specs.Routes.{route_lines, points_in}
use Rattle.route_interp.specs.Answers.{SayWaypoints}
use Rattle.outage_notice.specs.Outages.{outage_lines}
use Rattle.outage_notice.specs.Answers.{SayOutages}
use Rattle.alm_reader.specs.Almanacs.{SayAlmanacs, RefusesAlmanacs}
use Rattle.alm_reader.proofs.OneReading.{one_reading}
use Rattle.flight_files.specs.Order.{place_of}
use Rattle.flight_files.specs.Files.{HasLines, IsTooLong, RefusesFile, IsLimitsFile, IsRouteFile, IsOutagesFile, IsAlmanacFile, AreAcceptedFiles, AreLimitsOf, IsRouteOf, AreOutagesOf, AreAcceptedBefore, IsRefusedFirst, IsTooLongFirst}

-- of told bytes two things hold at once
pub meet : (told : Option Text) (P Q : List Text → Type 0) → IsSome told → HasLines told P → HasLines told Q → (lines : List Text) × P lines × Q lines
meet None P Q some p q = cc
meet (Some bytes) P Q some (short, p) (short', q) = (lines_of bytes, p, q)

short_or_long : (told : Option Text) (P : List Text → Type 0) → IsSome told → HasLines told P → IsTooLong told → ⊥
short_or_long None P some p long = cc
short_or_long (Some bytes) P some (short, p) long = absurd (omega arith)

pub first_is : {A : Type 0} (x y : A) → x ∷ [] ≡ y ∷ [] → x ≡ y
first_is x y e = cc

leap_once : (lines : List Text) (some other : LimitsFile) → SayLimits lines some → SayLimits lines other → some.leap ≡ other.leap
leap_once lines some other s o =
    let same = same_entries limits_lines lines s.entries o.entries s.accepted.reads o.accepted.reads in
    first_is some.leap other.leap (sym s.same.leap ∙ ap (λ es. filter_map leap_in es) same ∙ o.same.leap)

pub route_once : (leap : ℕ) (lines : List Text) (some other : List Waypoint) → SayWaypoints leap lines some → SayWaypoints leap lines other → some ≡ other
route_once leap lines some other s o =
    s.same ∙ ap points_in (same_entries (route_lines leap) lines s.entries o.entries s.accepted.reads o.accepted.reads) ∙ sym o.same

module _ (holds : Text → Option Text) (paths : Each Text) (told : (file : FileNo) → IsSome (holds (of_file paths file))) where
  one_leap : (leap other : ℕ) → AreLimitsOf holds paths leap → AreLimitsOf holds paths other → leap ≡ other
  one_leap leap other a b =
      let both = meet (holds paths.limits) (λ lines. SayLimits lines a.limits) (λ lines. SayLimits lines b.limits) (told Limits) a.accepted b.accepted in
      a.leap_is ∙ leap_once both.0 a.limits b.limits both.1 both.2 ∙ sym b.leap_is

  one_flight : (leap : ℕ) (flight other : Span) → IsRouteOf holds paths leap flight → IsRouteOf holds paths leap other → flight ≡ other
  one_flight leap flight other a b =
      let both = meet (holds paths.route) (λ lines. SayWaypoints leap lines a.route) (λ lines. SayWaypoints leap lines b.route) (told Route) a.accepted b.accepted in
      a.flight_is ∙ ap flight_of (route_once leap both.0 a.route b.route both.1 both.2) ∙ sym b.flight_is

  one_flight_of : (leap other : ℕ) (flight span : Span) → leap ≡ other → IsRouteOf holds paths leap flight → IsRouteOf holds paths other span → flight ≡ span
  one_flight_of leap other flight span same a b = one_flight other flight span (subst (λ (l : ℕ). IsRouteOf holds paths l flight) same a) b

  -- the file is accepted, with these leap seconds and this flight
  abbrev IsAcceptedHere : FileNo → ℕ → Span → Type 0
  IsAcceptedHere Limits leap flight = (limits : LimitsFile) × IsLimitsFile holds paths limits
  IsAcceptedHere Route leap flight = (route : List Waypoint) × IsRouteFile holds paths leap route
  IsAcceptedHere Outages leap flight = (outages : List Outage) × IsOutagesFile holds paths leap outages
  IsAcceptedHere Almanac leap flight = (almanacs : List (List AlmRecord)) × IsAlmanacFile holds paths flight almanacs

  -- two pairs of leap seconds and flight are one, as far as reading this file hangs on them
  abbrev IsOneHere : FileNo → (leap other : ℕ) → (flight span : Span) → Type 0
  IsOneHere Limits leap other flight span = Unit {0}
  IsOneHere Route leap other flight span = leap ≡ other
  IsOneHere Outages leap other flight span = leap ≡ other
  IsOneHere Almanac leap other flight span = flight ≡ span

  one_here : (file : FileNo) (leap other : ℕ) (flight span : Span) → AreAcceptedBefore holds paths file leap flight → AreAcceptedBefore holds paths file other span → IsOneHere file leap other flight span
  one_here Limits leap other flight span a b = tt
  one_here Route leap other flight span a b = one_leap leap other a b
  one_here Outages leap other flight span a b = one_leap leap other a.0 b.0
  one_here Almanac leap other flight span a b = one_flight_of leap other flight span (one_leap leap other a.0 b.0) a.1 b.1

  accepted_moved : (file : FileNo) (leap other : ℕ) (flight span : Span) → IsOneHere file leap other flight span → IsAcceptedHere file leap flight → IsAcceptedHere file other span
  accepted_moved Limits leap other flight span same a = a
  accepted_moved Route leap other flight span same a = subst (λ (l : ℕ). IsAcceptedHere Route l flight) same a
  accepted_moved Outages leap other flight span same a = subst (λ (l : ℕ). IsAcceptedHere Outages l flight) same a
  accepted_moved Almanac leap other flight span same a = subst (λ (f : Span). IsAcceptedHere Almanac leap f) same a

  -- what the path of a file holds is refused, with these leap seconds and this flight
  abbrev IsRefusedHere : FileNo → ℕ → Span → ℕ → TextWhy → Type 0
  IsRefusedHere file leap flight line why = HasLines (holds (of_file paths file)) (λ lines. RefusesFile file leap flight lines line why)

  refused_moved : (file : FileNo) (leap other : ℕ) (flight span : Span) (line : ℕ) (why : TextWhy) → IsOneHere file leap other flight span → IsRefusedHere file leap flight line why → IsRefusedHere file other span line why
  refused_moved Limits leap other flight span line why same r = r
  refused_moved Route leap other flight span line why same r = subst (λ (l : ℕ). IsRefusedHere Route l flight line why) same r
  refused_moved Outages leap other flight span line why same r = subst (λ (l : ℕ). IsRefusedHere Outages l flight line why) same r
  refused_moved Almanac leap other flight span line why same r = subst (λ (f : Span). IsRefusedHere Almanac leap f line why) same r

  accepted_or_refused : (file : FileNo) (leap : ℕ) (flight : Span) (line : ℕ) (why : TextWhy) → IsAcceptedHere file leap flight → IsRefusedHere file leap flight line why → ⊥
  accepted_or_refused Limits leap flight line why (limits, a) r =
      let both = meet (holds paths.limits) (λ lines. SayLimits lines limits) (λ lines. Refuses limits_lines lines line why) (told Limits) a r in
      never_refused limits_lines both.0 both.1.entries line why both.1.accepted both.2
  accepted_or_refused Route leap flight line why (route, a) r =
      let both = meet (holds paths.route) (λ lines. SayWaypoints leap lines route) (λ lines. Refuses (route_lines leap) lines line why) (told Route) a r in
      never_refused (route_lines leap) both.0 both.1.entries line why both.1.accepted both.2
  accepted_or_refused Outages leap flight line why (outages, a) r =
      let both = meet (holds paths.outages) (λ lines. SayOutages leap lines outages) (λ lines. Refuses (outage_lines leap) lines line why) (told Outages) a r in
      never_refused (outage_lines leap) both.0 both.1.entries line why both.1.accepted both.2
  accepted_or_refused Almanac leap flight line why (almanacs, a) r =
      let both = meet (holds paths.almanac) (λ lines. SayAlmanacs flight lines almanacs) (λ lines. RefusesAlmanacs flight lines line why) (told Almanac) a r in
      (one_reading flight both.0).apart almanacs line why both.1 both.2

  accepted_or_long : (file : FileNo) (leap : ℕ) (flight : Span) → IsAcceptedHere file leap flight → IsTooLong (holds (of_file paths file)) → ⊥
  accepted_or_long Limits leap flight (limits, a) long = short_or_long (holds paths.limits) (λ lines. SayLimits lines limits) (told Limits) a long
  accepted_or_long Route leap flight (route, a) long = short_or_long (holds paths.route) (λ lines. SayWaypoints leap lines route) (told Route) a long
  accepted_or_long Outages leap flight (outages, a) long = short_or_long (holds paths.outages) (λ lines. SayOutages leap lines outages) (told Outages) a long
  accepted_or_long Almanac leap flight (almanacs, a) long = short_or_long (holds paths.almanac) (λ lines. SayAlmanacs flight lines almanacs) (told Almanac) a long

  once_here : (file : FileNo) (leap : ℕ) (flight : Span) (line other : ℕ) (why cause : TextWhy) → IsRefusedHere file leap flight line why → IsRefusedHere file leap flight other cause → (line ≡ other) × (why ≡ cause)
  once_here Limits leap flight line other why cause r q =
      let both = meet (holds paths.limits) (λ lines. Refuses limits_lines lines line why) (λ lines. Refuses limits_lines lines other cause) (told Limits) r q in
      refused_once limits_lines both.0 line other why cause both.1 both.2
  once_here Route leap flight line other why cause r q =
      let both = meet (holds paths.route) (λ lines. Refuses (route_lines leap) lines line why) (λ lines. Refuses (route_lines leap) lines other cause) (told Route) r q in
      refused_once (route_lines leap) both.0 line other why cause both.1 both.2
  once_here Outages leap flight line other why cause r q =
      let both = meet (holds paths.outages) (λ lines. Refuses (outage_lines leap) lines line why) (λ lines. Refuses (outage_lines leap) lines other cause) (told Outages) r q in
      refused_once (outage_lines leap) both.0 line other why cause both.1 both.2
  once_here Almanac leap flight line other why cause r q =
      let both = meet (holds paths.almanac) (λ lines. RefusesAlmanacs flight lines line why) (λ lines. RefusesAlmanacs flight lines other cause) (told Almanac) r q in
      (one_reading flight both.0).once line other why cause both.1 both.2

  -- the file stands in the way: those before it are accepted, and it is not
  pub record Hinders (file : FileNo) : Type 0 where
    pub leap : ℕ
    pub flight : Span
    pub before : AreAcceptedBefore holds paths file leap flight
    pub not : IsAcceptedHere file leap flight → ⊥

  pub refused_hinders : (file : FileNo) (line : ℕ) (why : TextWhy) → IsRefusedFirst holds paths file line why → Hinders file
  refused_hinders file line why r = record { leap = r.leap; flight = r.flight; before = r.accepted; not = λ a. accepted_or_refused file r.leap r.flight line why a r.here }

  pub long_hinders : (file : FileNo) → IsTooLongFirst holds paths file → Hinders file
  long_hinders file l = record { leap = l.leap; flight = l.flight; before = l.accepted; not = λ a. accepted_or_long file l.leap l.flight a l.here }

  -- this file and those before it are accepted
  abbrev IsPassed : FileNo → ℕ → Span → Type 0
  IsPassed file leap flight = AreAcceptedBefore holds paths file leap flight × IsAcceptedHere file leap flight

  passed : (file later : FileNo) (leap : ℕ) (flight : Span) → place_of file < place_of later → AreAcceptedBefore holds paths later leap flight → IsPassed file leap flight
  passed Limits Limits leap flight lt b = absurd (omega arith)
  passed Limits Route leap flight lt b = (tt, (b.limits, b.accepted))
  passed Limits Outages leap flight lt b = (tt, (b.0.limits, b.0.accepted))
  passed Limits Almanac leap flight lt b = (tt, (b.0.limits, b.0.accepted))
  passed Route Limits leap flight lt b = absurd (omega arith)
  passed Route Route leap flight lt b = absurd (omega arith)
  passed Route Outages leap flight lt b = (b.0, (b.1.route, b.1.accepted))
  passed Route Almanac leap flight lt b = (b.0, (b.1.route, b.1.accepted))
  passed Outages Limits leap flight lt b = absurd (omega arith)
  passed Outages Route leap flight lt b = absurd (omega arith)
  passed Outages Outages leap flight lt b = absurd (omega arith)
  passed Outages Almanac leap flight lt b = ((b.0, b.1), (b.2.outages, b.2.accepted))
  passed Almanac Limits leap flight lt b = absurd (omega arith)
  passed Almanac Route leap flight lt b = absurd (omega arith)
  passed Almanac Outages leap flight lt b = absurd (omega arith)
  passed Almanac Almanac leap flight lt b = absurd (omega arith)

  not_passed : (file : FileNo) (leap : ℕ) (flight : Span) → Hinders file → IsPassed file leap flight → ⊥
  not_passed file leap flight h p =
      h.not (accepted_moved file leap h.leap flight h.flight (one_here file leap h.leap flight h.flight p.0 h.before) p.1)

  -- no file behind one that stands in the way is reached
  pub not_beyond : (file later : FileNo) (leap : ℕ) (flight : Span) → Hinders file → place_of file < place_of later → AreAcceptedBefore holds paths later leap flight → ⊥
  not_beyond file later leap flight h lt b = not_passed file leap flight h (passed file later leap flight lt b)

  -- where all four are accepted none stands in the way
  pub none_hinders : (file : FileNo) (limits : LimitsFile) (route : List Waypoint) (outages : List Outage) (almanacs : List (List AlmRecord)) → AreAcceptedFiles holds paths limits route outages almanacs → Hinders file → ⊥
  none_hinders file limits route outages almanacs a h = not_passed file limits.leap (flight_of route) h (at file)
    where
      of_limits : AreLimitsOf holds paths limits.leap
      of_limits = record { limits = limits; accepted = a.limits_file; leap_is = refl }

      of_route : IsRouteOf holds paths limits.leap (flight_of route)
      of_route = record { route = route; accepted = a.route_file; flight_is = refl }

      of_outages : AreOutagesOf holds paths limits.leap
      of_outages = record { outages = outages; accepted = a.outages_file }

      at : (file : FileNo) → IsPassed file limits.leap (flight_of route)
      at Limits = (tt, (limits, a.limits_file))
      at Route = (of_limits, (route, a.route_file))
      at Outages = ((of_limits, of_route), (outages, a.outages_file))
      at Almanac = ((of_limits, of_route, of_outages), (almanacs, a.almanac_file))

  -- a file is refused at one line for one cause, and not too long besides
  pub refused_once_first : (file : FileNo) (line other : ℕ) (why cause : TextWhy) → IsRefusedFirst holds paths file line why → IsRefusedFirst holds paths file other cause → (line ≡ other) × (why ≡ cause)
  refused_once_first file line other why cause r q =
      let same = one_here file r.leap q.leap r.flight q.flight r.accepted q.accepted in
      once_here file q.leap q.flight line other why cause (refused_moved file r.leap q.leap r.flight q.flight line why same r.here) q.here

  pub refused_or_long : (file : FileNo) (line : ℕ) (why : TextWhy) → IsRefusedFirst holds paths file line why → IsTooLongFirst holds paths file → ⊥
  refused_or_long file line why r l = short_or_long (holds (of_file paths file)) (λ lines. RefusesFile file r.leap r.flight lines line why) (told file) r.here l.here
