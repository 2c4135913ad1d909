-- Inside a root piece the same almanac is in force and the same satellites are usable at each millisecond.
use Rattle.std.specs.Prelude.{◌≡◌, ℕ, ℤ, ◌≤ℤ◌, ◌<ℤ◌, int_le, List, [], ◌∷◌, map, Contains, Some, None, refl, filter, length, ◌≤◌}
use Rattle.std.specs.List.{flat_map, AllByRecursion}
use Rattle.std.specs.declared.option.Option.{Option}
use Rattle.std.proofs.Common.{arith, ap, ◌∙◌, inl, inr}
use Rattle.std.proofs.lemmas.Int.{ints, by_lt_z}
use Rattle.std.proofs.lemmas.List.Elements.{Contains-append_left, Contains-append_right, filter_agree, All-filter, All-contains, All-contains_itself, recursion_from_All}
use Rattle.raim_model.specs.declared.almanac.AlmRecord.{AlmRecord}
use Rattle.raim_model.specs.declared.outage.Outage.{Outage}
use Rattle.raim_model.specs.Usable.{is_before_end, holds, is_out, is_usable}
use Rattle.raim_model.specs.AlmanacInForce.{in_force}
use Rattle.raim_model.specs.AlmanacRanges.{AreRecords}
use Rattle.raim_model.specs.Route.{flight_of}
use Rattle.raim_model.specs.Solution.{Case, usable}
use Rattle.raim_model.specs.CaseRanges.{IsCase, IsListed}
use Rattle.raim_model.specs.CaseCuts.{end_times, outage_times, InRootPiece, MayBeJudged}
use Rattle.almanac_laws.proofs.Nearest.{is_one, nearest_first}
use Rattle.almanac_laws.proofs.Handovers.{same_in_force}

-- none of the times is after first and up to last
abbrev pub Uncut : (first last : ℤ) → List ℤ → Type 0
Uncut first last times = (u : ℤ) → Contains times u → first <ℤ u → last <ℤ u

started_same : (start first last t : ℤ) → (first <ℤ start → last <ℤ start) → first ≤ℤ t → t ≤ℤ last → int_le start t ≡ int_le start first
started_same start first last t h low high = by_lt_z first start (λ p. let q = h p in grind (arith, ints)) (λ p. grind (arith, ints))

ended_same : (end : Option ℤ) (first last t : ℤ) → Uncut first last (end_times end) → first ≤ℤ t → t ≤ℤ last → is_before_end t end ≡ is_before_end first end
ended_same None first last t h low high = refl
ended_same (Some e) first last t h low high = by_lt_z first e (λ p. let q = h e (0, omega arith, refl) p in grind (arith, ints)) (λ p. grind (arith, ints))

holds_same : (o : Outage) (first last t : ℤ) → Uncut first last (outage_times o) → first ≤ℤ t → t ≤ℤ last → holds o t ≡ holds o first
holds_same o first last t h low high =
    let a : int_le o.start t ≡ int_le o.start first = started_same o.start first last t (h o.start (0, omega arith, refl)) low high in
    let b : is_before_end t o.end ≡ is_before_end first o.end = ended_same o.end first last t (λ u k. h u (Contains-append_right (o.start ∷ []) (end_times o.end) u k)) low high in
    rw (a, b) refl

is_out_same : (os : List Outage) (prn : ℕ) (first last t : ℤ) → Uncut first last (flat_map outage_times os) → first ≤ℤ t → t ≤ℤ last → is_out os prn t ≡ is_out os prn first
is_out_same [] prn first last t h low high = refl
is_out_same (o ∷ os) prn first last t h low high =
    let a : holds o t ≡ holds o first = holds_same o first last t (λ u k. h u (Contains-append_left (outage_times o) (flat_map outage_times os) u k)) low high in
    let b : is_out os prn t ≡ is_out os prn first = is_out_same os prn first last t (λ u k. h u (Contains-append_right (outage_times o) (flat_map outage_times os) u k)) low high in
    rw (a, b) refl

is_usable_same : (c : Case) (first last t : ℤ) → InRootPiece c first last → first ≤ℤ t → t ≤ℤ last → (rec : AlmRecord) → is_usable c.outages t rec ≡ is_usable c.outages first rec
unfolding is_usable
is_usable_same c first last t p low high rec =
    let e : is_out c.outages rec.prn t ≡ is_out c.outages rec.prn first = is_out_same c.outages rec.prn first last t (λ u k. p.uncut u (inl (Contains-append_right (map (λ w. w.at) c.route) (flat_map outage_times c.outages) u k))) low high in
    rw e refl

-- and the same almanac is in force
pub force_same : (c : Case) (first last t : ℤ) → InRootPiece c first last → first ≤ℤ t → t ≤ℤ last → in_force t c.almanacs ≡ in_force first c.almanacs
force_same c first last t p low high = same_in_force c.almanacs first last t (λ from h. p.uncut from (inr h)) low high

pub usable_same : (c : Case) (first last t : ℤ) → InRootPiece c first last → first ≤ℤ t → t ≤ℤ last → usable c t ≡ usable c first
usable_same c first last t p low high =
    filter_agree (is_usable c.outages t) (is_usable c.outages first) (is_usable_same c first last t p low high) (in_force t c.almanacs)
    ∙ ap (filter (is_usable c.outages first)) (force_same c first last t p low high)

-- the almanac in force is one of several
force_listed : (t : ℤ) (almanacs : List (List AlmRecord)) → 1 ≤ length almanacs → Contains almanacs (in_force t almanacs)
force_listed t [] h = absurd (omega arith)
force_listed t (a ∷ rest) h = is_one t (a ∷ rest) (in_force t (a ∷ rest)) (nearest_first t a rest)

-- what has a record is not empty
some_almanac : (t : ℤ) (almanacs : List (List AlmRecord)) (rec : AlmRecord) → Contains (in_force t almanacs) rec → 1 ≤ length almanacs
some_almanac t [] rec (k, p, e) = absurd (omega arith)
some_almanac t (a ∷ rest) rec m = omega arith

-- its records are those of an accepted almanac
pub records_in_force : (c : Case) → IsCase c → (t : ℤ) → AreRecords (flight_of c.route) (in_force t c.almanacs)
records_in_force c i t = All-contains (AreRecords (flight_of c.route)) c.almanacs (in_force t c.almanacs) i.almanacs.each (force_listed t c.almanacs i.almanacs.some)

-- a usable satellite has a record in an almanac
pub usable_recorded : (c : Case) (t : ℤ) → AllByRecursion (λ rec. IsListed c rec) (usable c t)
usable_recorded c t = recursion_from_All (λ rec. IsListed c rec) (usable c t) (All-filter (is_usable c.outages t) (λ rec. IsListed c rec) (in_force t c.almanacs) (λ k d p. listed (All-contains_itself (in_force t c.almanacs) k d p)))
  where
    listed : {rec : AlmRecord} → Contains (in_force t c.almanacs) rec → IsListed c rec
    listed {rec} m = record { almanac = in_force t c.almanacs; is = force_listed t c.almanacs (some_almanac t c.almanacs rec m); has = m }

pub inside_root : (c : Case) (first last a b : ℤ) → InRootPiece c first last → first ≤ℤ a → b ≤ℤ last → InRootPiece c a b
inside_root c first last a b p low high =
    let s = p.started in let o = p.not_over in
    record { started = omega (arith, ints); not_over = omega (arith, ints); uncut = λ t k after. let h : last <ℤ t = p.uncut t k (omega (arith, ints)) in omega (arith, ints) }

pub judged_inside : (c : Case) (first last a b : ℤ) → MayBeJudged c first last → first ≤ℤ a → b ≤ℤ last → MayBeJudged c a b
judged_inside c first last a b p low high = record { case = p.case; piece = inside_root c first last a b p.piece low high }
