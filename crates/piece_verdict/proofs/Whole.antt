-- What is seen over a piece of a case, and the verdict that it gives.
use Rattle.std.specs.Prelude.{◌≡◌, ℕ, ◌+◌, ◌<◌, ◌≤◌, ℤ, ◌≤ℤ◌, ◌<ℤ◌, Bool, List, [], ◌∷◌, map, length, slice_index_or, All, AllPairs, Some, None, refl}
use Rattle.std.specs.List.{filter}
use Rattle.std.proofs.Common.{arith, ap, sym, subst, ◌∙◌}
use Rattle.std.proofs.lemmas.Int.{ints}
use Rattle.std.proofs.lemmas.Bool.{lt-ltb, le-ltb}
use Rattle.std.proofs.lemmas.List.{length-map, get_or_default}
use Rattle.raim_model.specs.declared.almanac.AlmRecord.{AlmRecord}
use Rattle.raim_model.specs.declared.verdict.Why.TheVariants.{Few}
use Rattle.raim_model.specs.declared.verdict.Cmp.TheVariants.{Mask}
use Rattle.raim_model.specs.declared.verdict.Verdict.{Verdict}
use Rattle.raim_model.specs.declared.verdict.Verdict.TheVariants as verdict
use Rattle.raim_model.specs.AlmanacInForce.{in_force}
use Rattle.raim_model.specs.AlmanacRanges.{IsApplicable, AreRecords}
use Rattle.raim_model.specs.CaseRanges.{IsCase}
use Rattle.raim_model.specs.PointVerdict.{least_count}
use Rattle.raim_model.specs.Route.{flight_of}
use Rattle.raim_model.specs.Solution.{Case}
use Rattle.raim_model.specs.Usable.{is_usable}
use Rattle.flight_laws.proofs.Usable.{records_in_force}
use Rattle.fix_interval.specs.Ends.{Ends}
use Rattle.site_laws.specs.Frames.{FrameEnds}
use Rattle.slope_laws.specs.Rows.{NamedRow}
use Rattle.slope_laws.specs.ShiftSlopes.{slopes_for}
use Rattle.verdict_laws.specs.Sights.{Sight, Visible, Hidden, Straddles, Sighted, sighted_over, one_if_possible, count_possible, or_straddling, first_straddling, with_row, rows_seen}
use Rattle.verdict_laws.specs.PieceVerdict.{test_by, verdict_by, piece_verdict_by}
use Rattle.case_laws.specs.SightOver.{mask_of, sight_over}
use Rattle.piece_verdict.specs.declared.alert.Alert.{Alert}
use Rattle.piece_verdict.specs.Alerts.{shift_of, limit_of, verdict_knowing}
use Rattle.piece_verdict.specs.Hidden.{is_marked, unless_marked, sight_knowing, seen_knowing}
use Rattle.piece_verdict.specs.Views.{seen_from, seen_from_knowing, all_seen_from}

-- ---- what is seen
-- sights that are the same for each record
same_sights : (f g : AlmRecord → Sight) → ((rec : AlmRecord) → f rec ≡ g rec) → (recs : List AlmRecord) → sighted_over f recs ≡ sighted_over g recs
same_sights f g e [] = refl
same_sights f g e (rec ∷ recs) = ap (λ w. record { prn = rec.prn; sight = w } ∷ sighted_over f recs) (e rec) ∙ ap (λ ss. record { prn = rec.prn; sight = g rec } ∷ ss) (same_sights f g e recs)

-- what is seen from the frame of the satellites of the almanac in force is what is seen over the piece
pub seen_whole : (c : Case) (places : List Bool) (first last : ℤ) (frame : FrameEnds) (mask : Ends) (recs : List AlmRecord) → recs ≡ in_force first c.almanacs → mask ≡ mask_of c.limits
    → ((rec : AlmRecord) → seen_from frame (mask_of c.limits) c.limits.weights.items first last rec ≡ sight_over c rec first last)
    → all_seen_from frame mask c.limits.weights.items c.outages places first last recs ≡ seen_knowing c places first last
seen_whole c places first last frame mask recs r m e =
    ap (λ rs. all_seen_from frame mask c.limits.weights.items c.outages places first last rs) r
    ∙ ap (λ x. all_seen_from frame x c.limits.weights.items c.outages places first last (in_force first c.almanacs)) m
    ∙ same_sights (seen_from_knowing frame (mask_of c.limits) c.limits.weights.items places first last) (λ rec. sight_knowing c places rec first last) (λ rec. ap (unless_marked (is_marked places rec)) (e rec)) (filter (is_usable c.outages first) (in_force first c.almanacs))

-- the records at the place of the almanac in force are its records
pub force_here : (c : Case) (place : ℕ) (u : ℤ) (here recs : List AlmRecord) → place < length c.almanacs → slice_index_or c.almanacs place [] ≡ in_force u c.almanacs
    → here ≡ slice_index_or c.almanacs place here → recs ≡ here → recs ≡ in_force u c.almanacs
force_here c place u here recs p f h r = r ∙ h ∙ get_or_default c.almanacs place here [] p ∙ f

-- the records of the almanac in force may be asked at each millisecond of the flight
pub all_applicable : (c : Case) → IsCase c → (recs : List AlmRecord) (u t : ℤ) → recs ≡ in_force u c.almanacs → (flight_of c.route).first ≤ℤ t → t <ℤ (flight_of c.route).end → All (λ rec. IsApplicable rec t) recs
all_applicable c i recs u t e low high = rw e (λ k d p. let a = r.at_first k d p in let b = r.at_end k d p in let x = a.not_before in let y = b.not_after in record { not_before = omega (arith, ints); not_after = omega (arith, ints) })
  where
    r : AreRecords (flight_of c.route) (in_force u c.almanacs)
    r = records_in_force c i u

-- and are few
pub few_records : (c : Case) → IsCase c → (recs : List AlmRecord) (u : ℤ) → recs ≡ in_force u c.almanacs → length recs ≤ 32
few_records c i recs u e = rw e (records_in_force c i u).few

-- of rising numbers, from 1 on
pub rising_records : (c : Case) → IsCase c → (recs : List AlmRecord) (u : ℤ) → recs ≡ in_force u c.almanacs → AllPairs (λ before after. before.prn < after.prn) recs
rising_records c i recs u e = subst (λ rs. AllPairs (λ before after. before.prn < after.prn) rs) (sym e) (records_in_force c i u).rising

pub some_records : (c : Case) → IsCase c → (recs : List AlmRecord) (u : ℤ) → recs ≡ in_force u c.almanacs → All (λ rec. 1 ≤ rec.prn) recs
some_records c i recs u e = subst (λ rs. All (λ rec. 1 ≤ rec.prn) rs) (sym e) (λ k d p. ((records_in_force c i u).each k d p).prn.0)

-- where none straddles, the possible ones have rows
rows_count : (seen : List Sighted) → first_straddling seen ≡ None → length (rows_seen seen) ≡ count_possible seen
rows_count [] h = refl
rows_count (s ∷ ss) h = step s.prn s.sight ss h (rows_count ss)
  where
    step : (p : ℕ) (w : Sight) (ss : List Sighted) → or_straddling p w (first_straddling ss) ≡ None → (first_straddling ss ≡ None → length (rows_seen ss) ≡ count_possible ss) → length (with_row p w (rows_seen ss)) ≡ one_if_possible w + count_possible ss
    step p (Visible r) ss h k = let e = k h in omega arith
    step p Hidden ss h k = let e = k h in omega arith
    step p Straddles ss h k = absurd (cc)

-- so there are enough of them
pub enough_rows : (seen : List Sighted) (rows : List NamedRow) (n : ℕ) → n ≤ count_possible seen → first_straddling seen ≡ None → rows ≡ rows_seen seen → n ≤ length rows
enough_rows seen rows n h s e = let c = rows_count seen s in let l = ap length e in omega arith

-- ---- the verdict
-- too few
pub is_few : (alert : Alert) (c : Case) (hidden : List Bool) (first last : ℤ) → count_possible (seen_knowing c hidden first last) < least_count c.limits.exclude → verdict.Unavailable Few ≡ verdict_knowing alert c hidden first last
unfolding piece_verdict_by verdict_by
is_few alert c hidden first last h = rw (lt-ltb (count_possible (seen_knowing c hidden first last)) (least_count c.limits.exclude) h) refl

-- one straddles
pub is_masked : (alert : Alert) (c : Case) (hidden : List Bool) (first last : ℤ) (prn : ℕ) → least_count c.limits.exclude ≤ count_possible (seen_knowing c hidden first last) → first_straddling (seen_knowing c hidden first last) ≡ Some prn → verdict.Undecided (Mask prn) ≡ verdict_knowing alert c hidden first last
unfolding piece_verdict_by verdict_by
is_masked alert c hidden first last prn h e = rw (le-ltb (count_possible (seen_knowing c hidden first last)) (least_count c.limits.exclude) h, e) refl

-- the rows are tested
pub is_tested : (alert : Alert) (c : Case) (hidden : List Bool) (first last : ℤ) (rows : List NamedRow) (v : Verdict) → least_count c.limits.exclude ≤ count_possible (seen_knowing c hidden first last) → first_straddling (seen_knowing c hidden first last) ≡ None
    → rows ≡ rows_seen (seen_knowing c hidden first last) → v ≡ test_by (slopes_for (shift_of alert)) c.limits (limit_of alert c) rows → v ≡ verdict_knowing alert c hidden first last
unfolding piece_verdict_by verdict_by
is_tested alert c hidden first last rows v h s e t =
    rw (le-ltb (count_possible (seen_knowing c hidden first last)) (least_count c.limits.exclude) h, s) (t ∙ ap (λ rs. test_by (slopes_for (shift_of alert)) c.limits (limit_of alert c) rs) e)
