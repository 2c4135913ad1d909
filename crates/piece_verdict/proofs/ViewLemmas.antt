-- What is seen of one satellite more.
use Rattle.std.specs.Prelude.{◌≡◌, ℕ, ◌+◌, ◌<◌, ◌≤◌, ℤ, Bool, true, false, List, [], ◌∷◌, ◌++◌, map, take, drop, length, slice_index_or, Some, refl}
use Rattle.std.specs.declared.option.Option.{Option}
use Rattle.std.specs.List.{filter}
use Rattle.std.proofs.Common.{arith, ap, sym, subst, ◌∙◌, cond}
use Rattle.std.proofs.lemmas.List.{take_all, take-append-drop, map-append, append-nil}
use Rattle.std.proofs.lemmas.List.Elements.{filter_more, filter-append}
use Rattle.raim_model.specs.declared.almanac.AlmRecord.{AlmRecord}
use Rattle.raim_model.specs.declared.limits.Weight.{Weight}
use Rattle.raim_model.specs.declared.outage.Outage.{Outage}
use Rattle.raim_model.specs.Usable.{is_usable}
use Rattle.fix_interval.specs.Ends.{Ends}
use Rattle.orbit_laws.specs.Positions.{position_of}
use Rattle.site_laws.specs.Frames.{FrameEnds}
use Rattle.site_laws.specs.Sights.{SightEnds, look_of}
use Rattle.verdict_laws.specs.Sights.{Sight, Visible, Hidden, Straddles, Sighted, count_possible, or_straddling, first_straddling}
use Rattle.case_laws.specs.SightOver.{sight_given, weight_over}
use Rattle.piece_verdict.specs.declared.seen.Seen.{Seen}
use Rattle.piece_verdict.specs.Seen.{IsSeen}
use Rattle.piece_verdict.specs.Looks.{AreLooks}
use Rattle.piece_verdict.specs.declared.looks.Looks.TheVariants.{Straddle}
use Rattle.piece_verdict.specs.Hidden.{is_marked, unless_marked}
use Rattle.piece_verdict.specs.Views.{seen_from, seen_from_knowing, look_unless, all_seen_from}

-- a record more, which the filter keeps or not
kept : (p : AlmRecord → Bool) (recs : List AlmRecord) (i : ℕ) (rec : AlmRecord) → i < length recs → rec ≡ slice_index_or recs i rec
    → filter p (take (i + 1) recs) ≡ filter p (take i recs) ++ cond (p rec) (rec ∷ []) []
kept p recs i rec q e = filter_more p recs i rec q ∙ ap (λ x. filter p (take i recs) ++ cond (p x) (x ∷ []) []) (sym e)

-- what is given of a look that is not made where the satellite is marked
given_unless : (b : Bool) (k : Ends) (look : SightEnds) → sight_given k (look_unless b look) ≡ unless_marked b (sight_given k look)
given_unless true k look = refl
given_unless false k look = refl

-- a satellite that counts
pub seen_step : (recs : List AlmRecord) (outages : List Outage) (weights : List Weight) (frame : FrameEnds) (mask : Ends) (places : List Bool) (first last : ℤ) (i : ℕ) (rec : AlmRecord) (prn : ℕ) (k : Ends) (old new : Seen) (w : SightEnds)
    → i < length recs → rec ≡ slice_index_or recs i rec → is_usable outages first rec ≡ true → prn ≡ rec.prn → k ≡ weight_over weights prn → w ≡ look_unless (is_marked places rec) (look_of frame (position_of rec first last) mask)
    → ((seen : List Sighted) → IsSeen old seen → IsSeen new (seen ++ record { prn = prn; sight = sight_given k w } ∷ []))
    → IsSeen old (all_seen_from frame mask weights outages places first last (take i recs)) → IsSeen new (all_seen_from frame mask weights outages places first last (take (i + 1) recs))
seen_step recs outages weights frame mask places first last i rec prn k old new w p e u n h l step s =
    let f : AlmRecord → Sighted = λ rec. record { prn = rec.prn; sight = seen_from_knowing frame mask weights places first last rec } in
    let us : AlmRecord → Bool = is_usable outages first in
    let front : List AlmRecord = filter us (take i recs) in
    let more : filter us (take (i + 1) recs) ≡ front ++ rec ∷ [] = kept us recs i rec p e ∙ ap (λ b. front ++ cond b (rec ∷ []) []) u in
    let m : all_seen_from frame mask weights outages places first last (take (i + 1) recs) ≡ map f front ++ record { prn = prn; sight = sight_given k w } ∷ [] =
    ap (map f) more ∙ map-append f front (rec ∷ [])
    ∙ ap (λ x. map f front ++ record { prn = rec.prn; sight = x } ∷ []) (sym (given_unless (is_marked places rec) (weight_over weights rec.prn) (look_of frame (position_of rec first last) mask)))
    ∙ ap (λ x. map f front ++ record { prn = rec.prn; sight = sight_given (weight_over weights rec.prn) x } ∷ []) (sym l)
    ∙ ap (λ q. map f front ++ record { prn = q; sight = sight_given (weight_over weights q) w } ∷ []) (sym n)
    ∙ ap (λ x. map f front ++ record { prn = prn; sight = sight_given x w } ∷ []) (sym h) in
    subst (λ xs. IsSeen new xs) (sym m) (step (map f front) s)

-- one that does not
pub seen_skip : (recs : List AlmRecord) (outages : List Outage) (weights : List Weight) (frame : FrameEnds) (mask : Ends) (places : List Bool) (first last : ℤ) (i : ℕ) (rec : AlmRecord) (old : Seen)
    → i < length recs → rec ≡ slice_index_or recs i rec → is_usable outages first rec ≡ false
    → IsSeen old (all_seen_from frame mask weights outages places first last (take i recs)) → IsSeen old (all_seen_from frame mask weights outages places first last (take (i + 1) recs))
seen_skip recs outages weights frame mask places first last i rec old p e u s =
    let f : AlmRecord → Sighted = λ rec. record { prn = rec.prn; sight = seen_from_knowing frame mask weights places first last rec } in
    let us : AlmRecord → Bool = is_usable outages first in
    let same : filter us (take (i + 1) recs) ≡ filter us (take i recs) = kept us recs i rec p e ∙ ap (λ b. filter us (take i recs) ++ cond b (rec ∷ []) []) u ∙ append-nil (filter us (take i recs)) in
    subst (λ xs. IsSeen old xs) (sym (ap (map f) same)) s

-- all of them
pub seen_all : (recs : List AlmRecord) (outages : List Outage) (weights : List Weight) (frame : FrameEnds) (mask : Ends) (places : List Bool) (first last : ℤ) (i : ℕ) (old : Seen) → length recs ≤ i
    → IsSeen old (all_seen_from frame mask weights outages places first last (take i recs)) → IsSeen old (all_seen_from frame mask weights outages places first last recs)
seen_all recs outages weights frame mask places first last i old p s = subst (λ rs. IsSeen old (all_seen_from frame mask weights outages places first last rs)) (take_all i recs p) s

-- ---- what is settled by the first ones
-- those that may be visible
count_front : (xs ys : List Sighted) → count_possible xs ≤ count_possible (xs ++ ys)
count_front [] ys = omega arith
count_front (x ∷ xs) ys = let h = count_front xs ys in omega arith

-- the first that straddles
first_front : (xs ys : List Sighted) (prn : ℕ) → first_straddling xs ≡ Some prn → first_straddling (xs ++ ys) ≡ Some prn
first_front [] ys prn e = absurd (cc)
first_front (x ∷ xs) ys prn e = step x.prn x.sight (first_straddling xs) (first_straddling (xs ++ ys)) (λ f. first_front xs ys prn f) e
  where
    step : (p : ℕ) (w : Sight) (front all : Option ℕ) → (front ≡ Some prn → all ≡ Some prn) → or_straddling p w front ≡ Some prn → or_straddling p w all ≡ Some prn
    step p (Visible row) front all h e = h e
    step p Hidden front all h e = h e
    step p Straddles front all h e = e

-- where enough of the first ones may be visible and one of them straddles, it is so with all
pub straddle_stays : (recs : List AlmRecord) (outages : List Outage) (weights : List Weight) (frame : FrameEnds) (mask : Ends) (places : List Bool) (first last : ℤ) (i needed prn : ℕ)
    → AreLooks needed (all_seen_from frame mask weights outages places first last (take i recs)) (Straddle prn) → AreLooks needed (all_seen_from frame mask weights outages places first last recs) (Straddle prn)
straddle_stays recs outages weights frame mask places first last i needed prn h =
    let f : AlmRecord → Sighted = λ rec. record { prn = rec.prn; sight = seen_from_knowing frame mask weights places first last rec } in
    let us : AlmRecord → Bool = is_usable outages first in
    let front : List Sighted = map f (filter us (take i recs)) in
    let rest : List Sighted = map f (filter us (drop i recs)) in
    let e : front ++ rest ≡ all_seen_from frame mask weights outages places first last recs =
    sym (map-append f (filter us (take i recs)) (filter us (drop i recs))) ∙ ap (map f) (sym (filter-append us (take i recs) (drop i recs)) ∙ ap (filter us) (take-append-drop i recs)) in
    let le = count_front front rest in
    let few = h.0 in
    subst (λ xs. AreLooks needed xs (Straddle prn)) e (omega arith, first_front front rest prn h.1)
