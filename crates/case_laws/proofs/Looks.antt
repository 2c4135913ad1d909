-- What is seen over a piece encloses, is isotone, and narrow at single milliseconds.
use Rattle.std.specs.Prelude.{◌≡◌, ℤ, ◌^◌, ◌≤ℤ◌, ◌<ℤ◌, true, false, Some, refl}
use Rattle.std.proofs.Common.{arith, ap, sym, subst, ◌∙◌}
use Rattle.std.proofs.lemmas.Int.{ints}
use Rattle.raim_model.specs.declared.almanac.AlmRecord.{AlmRecord}
use Rattle.raim_model.specs.AlmanacRanges.{IsAlmRecord}
use Rattle.raim_model.specs.CaseCuts.{InRootPiece}
use Rattle.raim_model.specs.CaseRanges.{IsCase, IsListed}
use Rattle.raim_model.specs.Level.{Level}
use Rattle.raim_model.specs.Orbit.{satellite_position}
use Rattle.raim_model.specs.Receiver.{OnLeg, place_on, ReceiverSolution, Site, site}
use Rattle.raim_model.specs.Route.{flight_of}
use Rattle.raim_model.specs.Look.{direction_row}
use Rattle.raim_model.specs.Solution.{Case, Sighting, is_seen}
use Rattle.raim_model.specs.Weights.{weight_of}
use Rattle.flight_laws.specs.Legs.{Leg, leg_at}
use Rattle.flight_laws.proofs.Legs.{flight_leg}
use Rattle.fix_interval.specs.Ends.{Ends, IsInside}
use Rattle.fix_interval.specs.Lies.{Lies}
use Rattle.fix_interval.specs.Vectors.{VectorInside, VectorNarrow}
use Rattle.fix_interval.proofs.EndInsides.{inside_self}
use Rattle.orbit_laws.specs.Positions.{position_of}
use Rattle.orbit_laws.proofs.Positions.{position_encloses, position_isotone, position_width}
use Rattle.site_laws.specs.Places.{PlaceEnds, PlaceInside, IsNearEarth}
use Rattle.site_laws.specs.Frames.{frame_of}
use Rattle.site_laws.specs.Sights.{SightEnds, visible, hidden, straddle, DirectionLies, SightInside, LookChoice, look_of}
use Rattle.site_laws.proofs.FrameBounds.{frame_isotone}
use Rattle.site_laws.proofs.PlaceOver.{place_over_encloses, place_over_isotone, place_over_near_earth, place_over_narrow}
use Rattle.site_laws.proofs.LookEncloses.{look_hidden, look_visible}
use Rattle.site_laws.proofs.LookIsotone.{look_isotone}
use Rattle.site_laws.proofs.LookNarrow.{look_narrow}
use Rattle.geom_laws.proofs.Rows.{weighed_lies, weighed_inside}
use Rattle.verdict_laws.specs.Sights.{Straddles}
use Rattle.verdict_laws.specs.NearMask.{IsNearMask}
use Rattle.verdict_laws.specs.Hold.{Shows, LeavesSight, HoldsSights}
use Rattle.case_laws.specs.SightOver.{mask_of, weight_over, box_over, sight_given, sight_from, sight_on, sight_over}
use Rattle.case_laws.proofs.Weights.{weight_encloses, weight_self}
use Rattle.case_laws.proofs.Masks.{mask_encloses, mask_full, mask_narrow}
use Rattle.case_laws.proofs.Records.{record_of, applicable, in_reach}
use Rattle.case_laws.proofs.Stretches.{leg_over, leg_found, leg_points}

-- what a sighting and a receiver choose, as a look has it
choice : (c : Case) → IsCase c → (first last t : ℤ) → first ≤ℤ t → t ≤ℤ last → (N : Level) (leg : OnLeg c.route t) → leg.start.at ≤ℤ first → last <ℤ leg.stop.at → (receiver : ReceiverSolution N (place_on leg))
    → (rec : AlmRecord) → IsAlmRecord rec → (s : Sighting N c t (site receiver) rec)
    → LookChoice N (box_over record { start = leg.start; stop = leg.stop } first last) (position_of rec first last) (mask_of c.limits)
choice c i first last t low high N leg started not_over receiver rec r s =
    record {
      place = place_on leg;
      place_inside = place_over_encloses leg first last started low high not_over;
      receiver = receiver;
      satellite = satellite_position s.orbit;
      satellite_inside = position_encloses rec first last t r low high N s.orbit;
      sine = s.sine;
      sine_inside = mask_encloses c.limits N s.sine s.is_sine;
      range = s.range;
      is_range = s.is_range;
    }

-- what a look says of a choice, its sight shows
shows_given : (N : Level) (c : Case) (t : ℤ) (from : Site) (rec : AlmRecord) (s : Sighting N c t from rec) (k : Ends) → Lies k 38 (weight_of c.limits.weights.items rec.prn) → (w : SightEnds)
    → (w ≡ hidden → is_seen s ≡ false) → ((d : _) → w ≡ visible d → (is_seen s ≡ true) × DirectionLies d (direction_row from (satellite_position s.orbit) s.range)) → Shows (sight_given k w) s
shows_given N c t from rec s k l hidden h v = h refl
shows_given N c t from rec s k l straddle h v = tt
shows_given N c t from rec s k l (visible d) h v = let p = v d refl in (p.0, weighed_lies p.1.east p.1.north p.1.up l)

-- a sight shows each sighting
sight_encloses : (c : Case) → IsCase c → (first last t : ℤ) → InRootPiece c first last → first ≤ℤ t → t ≤ℤ last
    → (N : Level) (leg : OnLeg c.route t) (receiver : ReceiverSolution N (place_on leg)) (rec : AlmRecord) → IsListed c rec
    → (s : Sighting N c t (site receiver) rec) → Shows (sight_over c rec first last) s
unfolding leg_over choice
sight_encloses c i first last t p low high N leg receiver rec m s =
    let f : OnLeg c.route first = leg_over c first last t first p low high (omega (arith, ints)) (omega (arith, ints)) leg in
    let g : OnLeg c.route last = leg_over c first last t last p low high (omega (arith, ints)) (omega (arith, ints)) leg in
    let e : leg_at c.route first ≡ Some record { start = leg.start; stop = leg.stop } = leg_found c i first f in
    let w = leg_points c i t leg in
    let started : leg.start.at ≤ℤ first = f.started in
    let not_over : last <ℤ leg.stop.at = g.not_over in
    let near : IsNearEarth (box_over record { start = leg.start; stop = leg.stop } first last) = place_over_near_earth leg.start leg.stop first last w.0 w.1 started (omega (arith, ints)) not_over in
    let k = choice c i first last t low high N leg started not_over receiver rec (record_of c i rec m) s in
    subst (λ o. Shows (sight_on c.limits o rec first last) s) (sym e)
    (shows_given N c t (site receiver) rec s (weight_over c.limits.weights.items rec.prn) (weight_encloses c.limits.weights.items rec.prn) (look_of (frame_of (box_over record { start = leg.start; stop = leg.stop } first last)) (position_of rec first last) (mask_of c.limits))
    (λ q. look_hidden near q N k) (λ d q. look_visible near q N k))

-- ---- isotone
leaves_given : (k : Ends) → IsInside k k → (wide inside : SightEnds) → SightInside inside wide → LeavesSight (sight_given k wide) (sight_given k inside)
leaves_given k o straddle inside h = tt
leaves_given k o hidden inside h = ap (sight_given k) h
leaves_given k o (visible b) (visible a) h = weighed_inside h.east h.north h.up o
leaves_given k o (visible b) hidden h = absurd h
leaves_given k o (visible b) straddle h = absurd h

-- a sight is left to each piece inside
sight_isotone : (c : Case) → IsCase c → (first last a b : ℤ) → InRootPiece c first last → first ≤ℤ a → a ≤ℤ b → b ≤ℤ last
    → (rec : AlmRecord) → IsListed c rec → LeavesSight (sight_over c rec first last) (sight_over c rec a b)
unfolding leg_over
sight_isotone c i first last a b p low ordered high rec m =
    let s : (flight_of c.route).first ≤ℤ first = p.started in
    let o : last <ℤ (flight_of c.route).end = p.not_over in
    let f : OnLeg c.route first = flight_leg c first (record { started = s; not_over = omega (arith, ints) }) in
    let g : OnLeg c.route a = leg_over c first last first a p (omega (arith, ints)) (omega (arith, ints)) low (omega (arith, ints)) f in
    let h : OnLeg c.route last = leg_over c first last first last p (omega (arith, ints)) (omega (arith, ints)) (omega (arith, ints)) (omega (arith, ints)) f in
    let leg : Leg = record { start = f.start; stop = f.stop } in
    let w = leg_points c i first f in
    let started : f.start.at ≤ℤ first = f.started in
    let not_over : last <ℤ f.stop.at = h.not_over in
    let r : IsAlmRecord rec = record_of c i rec m in
    let near : IsNearEarth (box_over leg first last) = place_over_near_earth f.start f.stop first last w.0 w.1 started (omega (arith, ints)) not_over in
    let near_inside : IsNearEarth (box_over leg a b) = place_over_near_earth f.start f.stop a b w.0 w.1 (omega (arith, ints)) ordered (omega (arith, ints)) in
    let box : PlaceInside (box_over leg a b) (box_over leg first last) = place_over_isotone f.start f.stop a b first last started low ordered high not_over in
    let v : VectorInside (position_of rec a b) (position_of rec first last) = position_isotone rec a b first last r low ordered high in
    subst (λ x. LeavesSight (sight_on c.limits x rec first last) (sight_over c rec a b)) (sym (leg_found c i first f))
    (subst (λ x. LeavesSight (sight_from c.limits (frame_of (box_over leg first last)) rec first last) (sight_on c.limits x rec a b)) (sym (leg_found c i a g))
    (leaves_given (weight_over c.limits.weights.items rec.prn) (weight_self c.limits.weights.items rec.prn) (look_of (frame_of (box_over leg first last)) (position_of rec first last) (mask_of c.limits)) (look_of (frame_of (box_over leg a b)) (position_of rec a b) (mask_of c.limits))
    (look_isotone near_inside (frame_of (box_over leg first last)) (position_of rec first last) (mask_of c.limits) (frame_isotone refl (box_over leg first last) near box) v (inside_self (mask_of c.limits) (mask_full c.limits).ordered))))

-- ---- narrow
straddles_given : (k : Ends) (w : SightEnds) → sight_given k w ≡ Straddles → w ≡ straddle
straddles_given k straddle e = refl
straddles_given k hidden e = absurd (cc)
straddles_given k (visible d) e = absurd (cc)

-- over one millisecond it straddles only near equality
sight_narrow : (c : Case) → IsCase c → (t : ℤ) → InRootPiece c t t → (rec : AlmRecord) → IsListed c rec → sight_over c rec t t ≡ Straddles
    → (N : Level) (leg : OnLeg c.route t) (receiver : ReceiverSolution N (place_on leg)) (s : Sighting N c t (site receiver) rec) → IsNearMask s
unfolding choice
sight_narrow c i t p rec m e N leg receiver s =
    let w = leg_points c i t leg in
    let box : PlaceEnds = box_over record { start = leg.start; stop = leg.stop } t t in
    let r : IsAlmRecord rec = record_of c i rec m in
    let o : t ≤ℤ t = omega (arith, ints) in
    let near : IsNearEarth box = place_over_near_earth leg.start leg.stop t t w.0 w.1 leg.started o leg.not_over in
    let k = choice c i t t t o o N leg leg.started leg.not_over receiver rec r s in
    let n : VectorNarrow (position_of rec t t) (2 ^ 20) = position_width rec t r (applicable c i rec m t p.started p.not_over) in
    let f : sight_from c.limits (frame_of box) rec t t ≡ Straddles = ap (λ x. sight_on c.limits x rec t t) (sym (leg_found c i t leg)) ∙ e in
    let q : look_of (frame_of box) (position_of rec t t) (mask_of c.limits) ≡ straddle = straddles_given (weight_over c.limits.weights.items rec.prn) (look_of (frame_of box) (position_of rec t t) (mask_of c.limits)) f in
    look_narrow near (in_reach rec t t r o) (mask_full c.limits) (place_over_narrow leg.start leg.stop t leg.started leg.not_over) n (mask_narrow c.limits) q N k

-- so the verdicts that are given by it are right, and stay
pub sights_hold : (c : Case) → IsCase c → HoldsSights c (sight_over c)
sights_hold c i = record { encloses = sight_encloses c i; isotone = sight_isotone c i; narrow = sight_narrow c i }
