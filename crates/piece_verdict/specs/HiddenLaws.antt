-- What satellites that are known to be hidden make of what is seen over a piece: it is sharper, and stays on each piece inside.
use Rattle.std.specs.Prelude.{◌≡◌, ℕ, ◌≤◌, ℤ, ◌≤ℤ◌, true, false, Bool, List, [], ◌∷◌, length, slice_index_or, Contains, Some, None, refl}
use Rattle.std.specs.declared.option.Option.{Option}
use Rattle.std.specs.List.{AllByRecursion}
use Rattle.std.proofs.Common.{arith, ap, sym, subst, ◌∙◌, inl, inr}
use Rattle.std.proofs.lemmas.Bool.{cases_Bool}
use Rattle.std.proofs.lemmas.Int.{ints}
use Rattle.std.proofs.lemmas.List.Elements.{All-filter, All-contains_itself, recursion_from_All}
use Rattle.raim_model.specs.declared.almanac.AlmRecord.{AlmRecord}
use Rattle.raim_model.specs.declared.verdict.Verdict.{Verdict}
use Rattle.raim_model.specs.AlmanacInForce.{in_force}
use Rattle.raim_model.specs.CaseCuts.{InRootPiece, MayBeJudged}
use Rattle.raim_model.specs.CaseRanges.{IsCase, IsListed}
use Rattle.raim_model.specs.Judgements.{is_certain}
use Rattle.raim_model.specs.Solution.{Case, usable}
use Rattle.raim_model.specs.Usable.{is_usable}
use Rattle.almanac_laws.proofs.Nearest.{is_one, nearest_first}
use Rattle.flight_laws.proofs.Usable.{usable_same, force_same}
use Rattle.slope_laws.specs.ShiftSlopes.{slopes_for}
use Rattle.slope_laws.proofs.ShiftSlopes.{shift_holds}
use Rattle.verdict_laws.specs.Hold.{LeavesSight, HoldsSights}
use Rattle.verdict_laws.specs.Sights.{Sight, Visible, Hidden, Straddles, Sighted, sighted_over, or_straddling, first_straddling}
use Rattle.verdict_laws.specs.PieceVerdict.{verdict_by, piece_verdict_by}
use Rattle.verdict_laws.proofs.Seen.{AllLeave, SameSeen, same_seen, verdict_left}
use Rattle.case_laws.specs.PieceVerdict.{seen_of}
use Rattle.case_laws.specs.SightOver.{sight_over}
use Rattle.case_laws.proofs.Looks.{sights_hold}
use Rattle.piece_verdict.specs.declared.alert.Alert.{Alert}
use Rattle.piece_verdict.specs.Alerts.{MayBeJudgedAgainst, shift_of, limit_of, verdict_against, verdict_knowing}
use Rattle.piece_verdict.specs.AlertLaws.{some_limit}
use Rattle.piece_verdict.specs.Hidden.{is_marked, unless_marked, KnowsHidden, sight_knowing, seen_knowing}

-- ---- the records of the almanac in force
-- that almanac is one of the case's
force_listed : (t : ℤ) (almanacs : List (List AlmRecord)) → 1 ≤ length almanacs → Contains almanacs (in_force t almanacs)
force_listed t [] h = absurd (omega arith)
force_listed t (a ∷ rest) h = is_one t (a ∷ rest) (in_force t (a ∷ rest)) (nearest_first t a rest)

pub listed_in_force : (c : Case) → IsCase c → (t : ℤ) (rec : AlmRecord) → Contains (in_force t c.almanacs) rec → IsListed c rec
listed_in_force c i t rec h = record { almanac = in_force t c.almanacs; is = force_listed t c.almanacs i.almanacs.some; has = h }

-- and has the usable ones
usable_in_force : (c : Case) (t : ℤ) → AllByRecursion (λ rec. Contains (in_force t c.almanacs) rec) (usable c t)
usable_in_force c t =
    recursion_from_All (λ rec. Contains (in_force t c.almanacs) rec) (usable c t)
    (All-filter (is_usable c.outages t) (λ rec. Contains (in_force t c.almanacs) rec) (in_force t c.almanacs) (λ k d p. All-contains_itself (in_force t c.almanacs) k d p))

-- ---- one satellite
-- a sight that is left to another is so where both may be marked
left_knowing : (b : Bool) (wide inside : Sight) → LeavesSight wide inside → LeavesSight (unless_marked b wide) (unless_marked b inside)
left_knowing true wide inside l = refl
left_knowing false wide inside l = l

-- what is hidden at some millisecond of the piece is not visible over it
sharper : (b : Bool) (w i self : Sight) → LeavesSight w self → w ≡ self → (b ≡ true → i ≡ Hidden) → LeavesSight w i → LeavesSight w (unless_marked b w)
sharper true (Visible r) i self s e h l = subst (λ x. LeavesSight (Visible r) x) (h refl) l
sharper true Hidden i self s e h l = refl
sharper true Straddles i self s e h l = tt
sharper false w i self s e h l = subst (λ x. LeavesSight w x) (sym e) s

-- what is marked is hidden at each millisecond
single : (b : Bool) (wide inside : Sight) → (b ≡ true → inside ≡ Hidden) → LeavesSight wide inside → LeavesSight (unless_marked b wide) inside
single true wide inside h l = h refl
single false wide inside h l = l

-- ---- a list of records
module _ (c : Case) (i : IsCase c) (first last : ℤ) (p : InRootPiece c first last) where
  -- over a piece inside
  knowing_leave : (places : List Bool) (a b : ℤ) → first ≤ℤ a → a ≤ℤ b → b ≤ℤ last → (recs : List AlmRecord) → AllByRecursion (λ rec. Contains (in_force first c.almanacs) rec) recs
      → AllLeave (λ rec. sight_knowing c places rec first last) (λ rec. sight_knowing c places rec a b) recs
  knowing_leave places a b low ordered high [] h = tt
  knowing_leave places a b low ordered high (rec ∷ recs) h =
      (left_knowing (is_marked places rec) (sight_over c rec first last) (sight_over c rec a b) ((sights_hold c i).isotone first last a b p low ordered high rec (listed_in_force c i first rec h.0)), knowing_leave places a b low ordered high recs h.1)

  -- what is known makes the sights sharper
  knowing_sharper : (places : List Bool) → first ≤ℤ last → KnowsHidden c places first last → (recs : List AlmRecord) → AllByRecursion (λ rec. Contains (in_force first c.almanacs) rec) recs
      → AllLeave (λ rec. sight_over c rec first last) (λ rec. sight_knowing c places rec first last) recs
  knowing_sharper places ordered k [] h = tt
  knowing_sharper places ordered k (rec ∷ recs) h =
      let m : IsListed c rec = listed_in_force c i first rec h.0 in
      let o : first ≤ℤ first = omega (arith, ints) in
      let e : last ≤ℤ last = omega (arith, ints) in (
        sharper (is_marked places rec) (sight_over c rec first last) (sight_over c rec first first) (sight_over c rec first last) ((sights_hold c i).isotone first last first last p o ordered e rec m) refl (λ b. k rec h.0 b first o ordered)
            ((sights_hold c i).isotone first last first first p o o ordered rec m),
        knowing_sharper places ordered k recs h.1,
      )

  -- and they are left to those of each millisecond
  knowing_single : (places : List Bool) (t : ℤ) → first ≤ℤ t → t ≤ℤ last → KnowsHidden c places first last → (recs : List AlmRecord) → AllByRecursion (λ rec. Contains (in_force first c.almanacs) rec) recs
      → AllLeave (λ rec. sight_knowing c places rec first last) (λ rec. sight_over c rec t t) recs
  knowing_single places t low high k [] h = tt
  knowing_single places t low high k (rec ∷ recs) h = (
    single (is_marked places rec) (sight_over c rec first last) (sight_over c rec t t) (λ b. k rec h.0 b t low high)
        ((sights_hold c i).isotone first last t t p low (omega (arith, ints)) high rec (listed_in_force c i first rec h.0)),
    knowing_single places t low high k recs h.1,
  )

-- where none straddles over a piece, the same are visible over each piece inside
pub knowing_inside : (c : Case) (places : List Bool) (first last a b : ℤ) → MayBeJudged c first last → first ≤ℤ a → a ≤ℤ b → b ≤ℤ last
    → first_straddling (seen_knowing c places first last) ≡ None → SameSeen (seen_knowing c places first last) (seen_knowing c places a b)
knowing_inside c places first last a b p low ordered high none =
    let f : AlmRecord → Sight = λ rec. sight_knowing c places rec first last in
    let g : AlmRecord → Sight = λ rec. sight_knowing c places rec a b in
    let e : usable c a ≡ usable c first = usable_same c first last a p.piece low (omega (arith, ints)) in
    let l : AllLeave f g (usable c first) = knowing_leave c p.case first last p.piece places a b low ordered high (usable c first) (usable_in_force c first) in
    subst (λ recs. SameSeen (sighted_over f (usable c first)) (sighted_over g recs)) (sym e) (same_seen f g (usable c first) l none)

-- ---- what is known more
-- of one satellite that does not straddle
more_here : (b n : Bool) (w i : Sight) → (b ≡ true → n ≡ true) → (n ≡ true → i ≡ Hidden) → LeavesSight w i → (prn : ℕ) (o : Option ℕ) → or_straddling prn (unless_marked b w) o ≡ None → unless_marked n w ≡ unless_marked b w
more_here true n w i kept h l prn o none = ap (λ x. unless_marked x w) (kept refl)
more_here false false w i kept h l prn o none = refl
more_here false true (Visible r) i kept h l prn o none = absurd (subst (λ x. LeavesSight (Visible r) x) (h refl) l)
more_here false true Hidden i kept h l prn o none = refl
more_here false true Straddles i kept h l prn o none = absurd (cc)

-- and the others
others_calm : (w : Sight) (prn : ℕ) (o : Option ℕ) → or_straddling prn w o ≡ None → o ≡ None
others_calm (Visible r) prn o e = e
others_calm Hidden prn o e = e
others_calm Straddles prn o e = absurd (cc)

more_same : (c : Case) (first last : ℤ) (before now : List Bool) → MayBeJudged c first last → first ≤ℤ last → ((rec : AlmRecord) → is_marked before rec ≡ true → is_marked now rec ≡ true) → KnowsHidden c now first last
    → (recs : List AlmRecord) → AllByRecursion (λ rec. Contains (in_force first c.almanacs) rec) recs → first_straddling (sighted_over (λ rec. sight_knowing c before rec first last) recs) ≡ None
    → sighted_over (λ rec. sight_knowing c now rec first last) recs ≡ sighted_over (λ rec. sight_knowing c before rec first last) recs
more_same c first last before now p ordered kept k [] h none = refl
more_same c first last before now p ordered kept k (rec ∷ recs) h none =
    let o : first ≤ℤ first = omega (arith, ints) in
    let f : AlmRecord → Sight = λ rec. sight_knowing c before rec first last in
    let g : AlmRecord → Sight = λ rec. sight_knowing c now rec first last in
    let e : g rec ≡ f rec = more_here (is_marked before rec) (is_marked now rec) (sight_over c rec first last) (sight_over c rec first first) (kept rec) (λ b. k rec h.0 b first o ordered)
    ((sights_hold c p.case).isotone first last first first p.piece o o ordered rec (listed_in_force c p.case first rec h.0)) rec.prn (first_straddling (sighted_over f recs)) none in
    let r : sighted_over g recs ≡ sighted_over f recs = more_same c first last before now p ordered kept k recs h.1 (others_calm (f rec) rec.prn (first_straddling (sighted_over f recs)) none) in
    ap (λ w. record { prn = rec.prn; sight = w } ∷ sighted_over g recs) e ∙ ap (λ ss. record { prn = rec.prn; sight = f rec } ∷ ss) r

-- where none straddles, more satellites that are known to be hidden change nothing of what is seen
pub seen_same : (c : Case) (first last : ℤ) (before now : List Bool) → MayBeJudged c first last → first ≤ℤ last → ((rec : AlmRecord) → is_marked before rec ≡ true → is_marked now rec ≡ true) → KnowsHidden c now first last
    → first_straddling (seen_knowing c before first last) ≡ None → seen_knowing c now first last ≡ seen_knowing c before first last
seen_same c first last before now p ordered kept k none = more_same c first last before now p ordered kept k (usable c first) (usable_in_force c first) none

-- ---- where nothing is known
no_marks : (sight : AlmRecord → Sight) (places : List Bool) → ((rec : AlmRecord) → is_marked places rec ≡ false) → (recs : List AlmRecord)
    → sighted_over (λ rec. unless_marked (is_marked places rec) (sight rec)) recs ≡ sighted_over sight recs
no_marks sight places none [] = refl
no_marks sight places none (rec ∷ recs) =
    ap (λ b. record { prn = rec.prn; sight = unless_marked b (sight rec) } ∷ sighted_over (λ rec. unless_marked (is_marked places rec) (sight rec)) recs) (none rec)
    ∙ ap (λ ss. record { prn = rec.prn; sight = sight rec } ∷ ss) (no_marks sight places none recs)

-- it is what is seen
pub seen_plainly : (c : Case) (places : List Bool) (first last : ℤ) → ((k : ℕ) → slice_index_or places k false ≡ false) → seen_knowing c places first last ≡ seen_of c first last
seen_plainly c places first last none = no_marks (λ rec. sight_over c rec first last) places (λ rec. none _) (usable c first)

pub verdict_plainly : (alert : Alert) (c : Case) (places : List Bool) (first last : ℤ) → ((k : ℕ) → slice_index_or places k false ≡ false) → verdict_knowing alert c places first last ≡ verdict_against alert c first last
unfolding piece_verdict_by
verdict_plainly alert c places first last none = ap (λ seen. verdict_by (slopes_for (shift_of alert)) c.limits (limit_of alert c) seen) (seen_plainly c places first last none)

-- ---- the verdict
-- where the written verdict of the piece is certain, so is that of what is known
pub verdict_sharper : (alert : Alert) (c : Case) (places : List Bool) (first last : ℤ) → MayBeJudgedAgainst alert c first last → first ≤ℤ last → KnowsHidden c places first last
    → is_certain (verdict_against alert c first last) ≡ true → verdict_knowing alert c places first last ≡ verdict_against alert c first last
unfolding piece_verdict_by
verdict_sharper alert c places first last p ordered k certain =
    verdict_left (slopes_for (shift_of alert)) (shift_holds (shift_of alert)) c.limits (limit_of alert c) (some_limit alert p.held c p.judged.case) (λ rec. sight_over c rec first last) (λ rec. sight_knowing c places rec first last) (usable c first)
    (knowing_sharper c p.judged.case first last p.judged.piece places ordered k (usable c first) (usable_in_force c first)) certain

-- a certain verdict by what is known is that of each millisecond
pub verdict_each : (alert : Alert) (c : Case) (places : List Bool) (first last t : ℤ) → MayBeJudgedAgainst alert c first last → KnowsHidden c places first last → first ≤ℤ t → t ≤ℤ last
    → is_certain (verdict_knowing alert c places first last) ≡ true → verdict_against alert c t t ≡ verdict_knowing alert c places first last
unfolding piece_verdict_by
verdict_each alert c places first last t p k low high certain =
    ap (λ recs. verdict_by (slopes_for (shift_of alert)) c.limits (limit_of alert c) (sighted_over (λ rec. sight_over c rec t t) recs)) (usable_same c first last t p.judged.piece low high)
    ∙ verdict_left (slopes_for (shift_of alert)) (shift_holds (shift_of alert)) c.limits (limit_of alert c) (some_limit alert p.held c p.judged.case) (λ rec. sight_knowing c places rec first last) (λ rec. sight_over c rec t t) (usable c first)
    (knowing_single c p.judged.case first last p.judged.piece places t low high k (usable c first) (usable_in_force c first)) certain

-- and of one millisecond it is the written one
one_marked : (b : Bool) (w : Sight) → (b ≡ true → w ≡ Hidden) → unless_marked b w ≡ w
one_marked true w h = sym (h refl)
one_marked false w h = refl

one_same : (c : Case) (places : List Bool) (t : ℤ) → KnowsHidden c places t t → (recs : List AlmRecord) → AllByRecursion (λ rec. Contains (in_force t c.almanacs) rec) recs
    → sighted_over (λ rec. sight_knowing c places rec t t) recs ≡ sighted_over (λ rec. sight_over c rec t t) recs
one_same c places t k [] h = refl
one_same c places t k (rec ∷ recs) h =
    let o : t ≤ℤ t = omega (arith, ints) in
    ap (λ w. record { prn = rec.prn; sight = w } ∷ sighted_over (λ rec. sight_knowing c places rec t t) recs) (one_marked (is_marked places rec) (sight_over c rec t t) (λ b. k rec h.0 b t o o))
    ∙ ap (λ ss. record { prn = rec.prn; sight = sight_over c rec t t } ∷ ss) (one_same c places t k recs h.1)

pub verdict_single : (alert : Alert) (c : Case) (places : List Bool) (t : ℤ) → KnowsHidden c places t t → verdict_knowing alert c places t t ≡ verdict_against alert c t t
unfolding piece_verdict_by
verdict_single alert c places t k = ap (λ seen. verdict_by (slopes_for (shift_of alert)) c.limits (limit_of alert c) seen) (one_same c places t k (usable c t) (usable_in_force c t))
