-- The laws that a judge of pieces owes.
use Rattle.std.specs.Prelude.{◌≡◌, ℕ, ◌≤◌, ◌-◌, ℤ, ◌+◌, ◌≤ℤ◌, ◌<ℤ◌, true, false, Bool, List, [], ◌∷◌, length, slice_index_or, Contains, Some, None}
use Rattle.std.specs.declared.option.Option.{Option}
use Rattle.std.proofs.Common.{arith, sym, subst, ◌∙◌}
use Rattle.std.proofs.lemmas.Int.{ints}
use Rattle.std.proofs.lemmas.List.Elements.{All-contains_itself}
use Rattle.raim_model.specs.declared.almanac.AlmRecord.{AlmRecord}
use Rattle.raim_model.specs.AlmanacInForce.{in_force}
use Rattle.raim_model.specs.CaseRanges.{IsListed}
use Rattle.raim_model.specs.CaseCuts.{MayBeJudged}
use Rattle.raim_model.specs.Judgements.{is_certain}
use Rattle.raim_model.specs.Route.{time_at}
use Rattle.raim_model.specs.Solution.{Case}
use Rattle.flight_laws.proofs.Usable.{judged_inside, force_same}
use Rattle.almanac_laws.proofs.Nearest.{is_one, nearest_first}
use Rattle.verdict_laws.specs.Hold.{LeavesSight, HoldsSights}
use Rattle.raim_model.specs.CaseRanges.{IsCase}
use Rattle.piece_verdict.specs.declared.alert.Alert.{Alert}
use Rattle.piece_verdict.specs.declared.alert.Alert.TheVariants.{Horizontal, Vertical}
use Rattle.piece_verdict.specs.declared.known.Known.{Known}
use Rattle.piece_verdict.specs.Alerts.{IsAlert, MayBeJudgedAgainst, shift_of, limit_of, verdict_against}
use Rattle.piece_verdict.specs.declared.here.Here.{Here}
use Rattle.piece_verdict.specs.Here.{IsHere, KnowsHere}
use Rattle.piece_verdict.specs.LegLaws.{through}
use Rattle.piece_verdict.specs.Hidden.{KnowsHidden, seen_knowing}
use Rattle.piece_verdict.specs.AlertLaws.{some_limit}
use Rattle.piece_verdict.specs.HiddenLaws.{knowing_inside}
use Rattle.piece_verdict.specs.Known.{IsSure, rows_over, factor_for, KnowsSlopes, KnowsLists, Knows}
use Rattle.slope_laws.specs.Rows.{NamedRowsInside}
use Rattle.slope_laws.proofs.Kept.{inside_length}
use Rattle.slope_test.specs.Marks.{SlopesPass, ListsPass}
use Rattle.slope_test.proofs.MarkLemmas.{slopes_stay, lists_stay}
use Rattle.verdict_laws.proofs.Factors.{kappa_inside}
use Rattle.verdict_laws.proofs.Seen.{SameSeen}
use Rattle.slope_laws.specs.ShiftSlopes.{slopes_for}
use Rattle.slope_laws.proofs.ShiftSlopes.{shift_holds}
use Rattle.verdict_laws.proofs.Pieces.{piece_settles, seen_inside}
use Rattle.case_laws.specs.PieceVerdict.{seen_of}
use Rattle.case_laws.specs.SightOver.{sight_over}
use Rattle.case_laws.proofs.Looks.{sights_hold}

-- a piece inside one that may be judged may be judged
pub case_inherits : (alert : Alert) (c : Case) (first last a b : ℤ) → MayBeJudgedAgainst alert c first last → first ≤ℤ a → b ≤ℤ last → MayBeJudgedAgainst alert c a b
case_inherits alert c first last a b p low high = record { judged = judged_inside c first last a b p.judged low high; held = p.held }

-- a certain verdict is that of each piece inside
pub case_settles : (alert : Alert) (c : Case) (first last a b : ℤ) → MayBeJudgedAgainst alert c first last → is_certain (verdict_against alert c first last) ≡ true → first ≤ℤ a → a ≤ℤ b → b ≤ℤ last
    → verdict_against alert c a b ≡ verdict_against alert c first last
case_settles alert c first last a b p certain low ordered high =
    piece_settles (slopes_for (shift_of alert)) (shift_holds (shift_of alert)) c (limit_of alert c) (some_limit alert p.held c p.judged.case) (sight_over c) (sights_hold c p.judged.case) first last a b p.judged.piece certain low ordered high

-- the satellites that are hidden over a piece are so over each piece inside
pub hidden_stays : (c : Case) (places : List Bool) (first last a b : ℤ) → MayBeJudged c first last → KnowsHidden c places first last → first ≤ℤ a → a ≤ℤ b → b ≤ℤ last → KnowsHidden c places a b
hidden_stays c places first last a b p knows low ordered high =
    let e : in_force a c.almanacs ≡ in_force first c.almanacs = force_same c first last a p.piece low (omega (arith, ints)) in
    λ rec h m t from to. knows rec (subst (λ recs. Contains recs rec) e h) m t (omega (arith, ints)) (omega (arith, ints))

-- where each usable satellite is visible or hidden throughout, it is so over each piece inside, with the same rows inside
same_inside : (c : Case) (hidden marks : List Bool) (first last a b : ℤ) → MayBeJudged c first last → IsSure c hidden marks first last → first ≤ℤ a → a ≤ℤ b → b ≤ℤ last
    → (i : ℕ) → slice_index_or marks i false ≡ true → SameSeen (seen_knowing c hidden first last) (seen_knowing c hidden a b)
same_inside c hidden marks first last a b p sure low ordered high i t = knowing_inside c hidden first last a b p low ordered high (sure i t)

-- the slopes that pass over a piece do so over each piece inside
slopes_inside : (alert : Alert) (c : Case) (hidden marks : List Bool) (first last a b : ℤ) → MayBeJudgedAgainst alert c first last → KnowsSlopes alert c hidden marks first last → first ≤ℤ a → a ≤ℤ b → b ≤ℤ last → KnowsSlopes alert c hidden marks a b
slopes_inside alert c hidden marks first last a b p knows low ordered high =
    let same = same_inside c hidden marks first last a b p.judged knows.sure low ordered high in
    record {
      sure = λ i t. (same i t).none;
      pass = λ i row lt t.
          let inside : NamedRowsInside (rows_over c hidden a b) (rows_over c hidden first last) = (same i t).rows in
          let n : length (rows_over c hidden a b) ≡ length (rows_over c hidden first last) = inside_length (rows_over c hidden a b) (rows_over c hidden first last) inside in
          subst (λ m. SlopesPass (shift_of alert) (rows_over c hidden a b) (factor_for alert c m) marks) (sym n)
          (slopes_stay (shift_of alert) (rows_over c hidden a b) (rows_over c hidden first last) (factor_for alert c (length (rows_over c hidden first last))) marks (kappa_inside c.limits (limit_of alert c) (length (rows_over c hidden first last)) (some_limit alert p.held c p.judged.case)) inside knows.pass)
          i row lt t;
    }

-- and so do the lists without a row
lists_inside : (alert : Alert) (c : Case) (hidden marks : List Bool) (first last a b : ℤ) → MayBeJudgedAgainst alert c first last → KnowsLists alert c hidden marks first last → first ≤ℤ a → a ≤ℤ b → b ≤ℤ last → KnowsLists alert c hidden marks a b
lists_inside alert c hidden marks first last a b p knows low ordered high =
    let same = same_inside c hidden marks first last a b p.judged knows.sure low ordered high in
    record {
      sure = λ i t. (same i t).none;
      pass = λ i lt t.
          let inside : NamedRowsInside (rows_over c hidden a b) (rows_over c hidden first last) = (same i t).rows in
          let n : length (rows_over c hidden a b) ≡ length (rows_over c hidden first last) = inside_length (rows_over c hidden a b) (rows_over c hidden first last) inside in
          subst (λ m. ListsPass (shift_of alert) (rows_over c hidden a b) (factor_for alert c (m - 1)) marks) (sym n)
          (lists_stay (shift_of alert) (rows_over c hidden a b) (rows_over c hidden first last) (factor_for alert c (length (rows_over c hidden first last) - 1)) marks (kappa_inside c.limits (limit_of alert c) (length (rows_over c hidden first last) - 1) (some_limit alert p.held c p.judged.case)) inside knows.pass)
          i lt t;
    }

-- the leg and the almanac in force are the same on each piece inside
here_inside : (c : Case) (here : Here) (first last a b : ℤ) → MayBeJudged c first last → IsHere c here first → first ≤ℤ a → a ≤ℤ b → b ≤ℤ last → IsHere c here a
here_inside c here first last a b p h low ordered high =
    let s = h.started in
    let n : last <ℤ time_at c.route (here.leg + 1) = through c first last p.piece (omega (arith, ints)) here.leg h.within h.started h.not_over in
    record {
      within = h.within;
      started = omega (arith, ints);
      not_over = omega (arith, ints);
      listed = h.listed;
      serves = h.serves ∙ sym (force_same c first last a p.piece low (omega (arith, ints)));
    }

here_stays : (c : Case) (here : Option Here) (first last a b : ℤ) → MayBeJudged c first last → KnowsHere c here first → first ≤ℤ a → a ≤ℤ b → b ≤ℤ last → KnowsHere c here a
here_stays c None first last a b p h low ordered high = tt
here_stays c (Some here) first last a b p h low ordered high = here_inside c here first last a b p h low ordered high

-- what is known of a piece is known of each piece inside
pub known_stays : (alert : Alert) (c : Case) (known : Known) (first last a b : ℤ) → MayBeJudgedAgainst alert c first last → Knows alert c known first last → first ≤ℤ a → a ≤ℤ b → b ≤ℤ last → Knows alert c known a b
known_stays alert c known first last a b p knows low ordered high = record {
  here = here_stays c known.here first last a b p.judged knows.here low ordered high;
  hidden = hidden_stays c known.hidden.places first last a b p.judged knows.hidden low ordered high;
  slopes = slopes_inside alert c known.hidden.places known.slopes.places first last a b p knows.slopes low ordered high;
  lists = lists_inside alert c known.hidden.places known.lists.places first last a b p knows.lists low ordered high;
}
