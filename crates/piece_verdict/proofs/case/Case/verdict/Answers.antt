use Rattle.std.proofs.Common.{◌≤◌, ◌-◌, sym, subst, ap, ◌∙◌, length, List}
use Rattle.std.proofs.lemmas.Int.{to_z-of_z}
use Rattle.std.proofs.lemmas.List.{length-map}
use Rattle.raim_model.specs.AlmanacInForce.{in_force}
use Rattle.raim_model.specs.PointVerdict.{least_count}
use Rattle.raim_model.specs.Solution.{Case}
use Rattle.slope_laws.specs.ShiftSlopes.{slopes_for}
use Rattle.geom_inverse.specs.declared.row.Row.{Row}
use Rattle.slope_test.specs.Marks.{SlopesPass, ListsPass}
use Rattle.slope_test.specs.Named.{named, named_row}
use Rattle.verdict_laws.specs.PieceVerdict.{kappa_over, test_by}
use Rattle.case_laws.specs.SightOver.{sight_over}
use Rattle.piece_verdict.specs.Alerts.{shift_of, limit_for}
use Rattle.piece_verdict.specs.Hidden.{KnowsHidden, AddsHidden, seen_knowing}
use Rattle.piece_verdict.specs.Looks.{AreLooks}
use Rattle.piece_verdict.specs.Seen.{looks_with}
use Rattle.piece_verdict.proofs.HiddenLemmas.{hidden_known}
use Rattle.piece_verdict.proofs.KnownLemmas.{slopes_kept, lists_kept, slopes_known, lists_known, slopes_more, lists_more}
use Rattle.piece_verdict.proofs.Whole.{is_few, is_masked, is_tested, enough_rows}
use Rattle.piece_verdict.proofs.case.Case.verdict.Goals as goal

pub returns-in-Few-clause-value : goal.returns-in-Few-clause-value
returns-in-Few-clause-value c =
    let f = c.ranges.first in
    let l = c.ranges.last in
    let h = subst (λ r. AreLooks (least_count c.args.self.now.limits.exclude) (seen_knowing c.args.self.now c.args.known.now.hidden.places c.args.first c.args.last) (looks_with r c.looked.new.seen)) c.in-Few.is (simp to_z-of_z at c.looked.ensures.looks) in
    is_few c.args.alert c.args.self.now c.args.known.now.hidden.places c.args.first c.args.last h

pub returns-in-Straddle-clause-value : goal.returns-in-Straddle-clause-value
returns-in-Straddle-clause-value c =
    let f = c.ranges.first in
    let l = c.ranges.last in
    let h = subst (λ r. AreLooks (least_count c.args.self.now.limits.exclude) (seen_knowing c.args.self.now c.args.known.now.hidden.places c.args.first c.args.last) (looks_with r c.looked.new.seen)) c.in-Straddle.is (simp to_z-of_z at c.looked.ensures.looks) in
    is_masked c.args.alert c.args.self.now c.args.known.now.hidden.places c.args.first c.args.last c.in-Straddle.prn h.0 h.1

pub test-requires-clause-enough : goal.test-requires-clause-enough
test-requires-clause-enough c =
    let f = c.ranges.first in
    let l = c.ranges.last in
    let h = subst (λ r. AreLooks (least_count c.args.self.now.limits.exclude) (seen_knowing c.args.self.now c.args.known.now.hidden.places c.args.first c.args.last) (looks_with r c.looked.new.seen)) c.in-Rows.is (simp to_z-of_z at c.looked.ensures.looks) in
    let e : least_count c.args.self.now.limits.exclude ≤ length (named c.looked.new.seen.rows.items) = enough_rows (seen_knowing c.args.self.now c.args.known.now.hidden.places c.args.first c.args.last) (named c.looked.new.seen.rows.items) (least_count c.args.self.now.limits.exclude) h.0 h.1 h.2 in
    let n : least_count c.args.self.now.limits.exclude ≤ length c.looked.new.seen.rows.items = subst (λ m. least_count c.args.self.now.limits.exclude ≤ m) (length-map c.looked.new.seen.rows.items named_row) e in
    subst (λ xs. least_count c.self.inside.limits.exclude ≤ length xs) (sym c.as_slice.ensures.value)
    (subst (λ (x : Case). least_count x.limits.exclude ≤ length c.looked.new.seen.rows.items) (sym c.self.view_is) n)

pub returns-in-Rows-clause-value : goal.returns-in-Rows-clause-value
returns-in-Rows-clause-value c =
    let f = c.ranges.first in
    let l = c.ranges.last in
    let h = subst (λ r. AreLooks (least_count c.args.self.now.limits.exclude) (seen_knowing c.args.self.now c.args.known.now.hidden.places c.args.first c.args.last) (looks_with r c.looked.new.seen)) c.in-Rows.is (simp to_z-of_z at c.looked.ensures.looks) in
    is_tested c.args.alert c.args.self.now c.args.known.now.hidden.places c.args.first c.args.last (named c.looked.new.seen.rows.items) c.test.result h.0 h.1 h.2
    (c.test.ensures.value ∙ ap (λ (x : Case). test_by (slopes_for (shift_of c.args.alert)) x.limits (limit_for c.args.alert x.limits) (named c.as_slice.result.now)) c.self.view_is ∙ ap (λ rs. test_by (slopes_for (shift_of c.args.alert)) c.args.self.now.limits (limit_for c.args.alert c.args.self.now.limits) (named rs)) c.as_slice.ensures.value)

-- the rows that are kept are those that are seen
pub test-requires-clause-slopes : goal.test-requires-clause-slopes
test-requires-clause-slopes c =
    let f = c.ranges.first in
    let l = c.ranges.last in
    let h = subst (λ r. AreLooks (least_count c.args.self.now.limits.exclude) (seen_knowing c.args.self.now c.args.known.now.hidden.places c.args.first c.args.last) (looks_with r c.looked.new.seen)) c.in-Rows.is (simp to_z-of_z at c.looked.ensures.looks) in
    subst (λ (rs : List Row). SlopesPass (shift_of c.args.alert) (named rs) (kappa_over c.self.inside.limits (limit_for c.args.alert c.self.inside.limits) (length rs)) c.args.known.now.slopes.places) (sym c.as_slice.ensures.value)
    (subst (λ (x : Case). SlopesPass (shift_of c.args.alert) (named c.looked.new.seen.rows.items) (kappa_over x.limits (limit_for c.args.alert x.limits) (length c.looked.new.seen.rows.items)) c.args.known.now.slopes.places) (sym c.self.view_is)
    (slopes_kept c.args.alert c.args.self.now c.args.known.now.hidden.places c.args.first c.args.last c.looked.new.seen.rows.items c.args.known.now.slopes.places h.2 c.requires.known.slopes))

pub test-requires-clause-lists : goal.test-requires-clause-lists
test-requires-clause-lists c =
    let f = c.ranges.first in
    let l = c.ranges.last in
    let h = subst (λ r. AreLooks (least_count c.args.self.now.limits.exclude) (seen_knowing c.args.self.now c.args.known.now.hidden.places c.args.first c.args.last) (looks_with r c.looked.new.seen)) c.in-Rows.is (simp to_z-of_z at c.looked.ensures.looks) in
    subst (λ (rs : List Row). ListsPass (shift_of c.args.alert) (named rs) (kappa_over c.self.inside.limits (limit_for c.args.alert c.self.inside.limits) (length rs - 1)) c.args.known.now.lists.places) (sym c.as_slice.ensures.value)
    (subst (λ (x : Case). ListsPass (shift_of c.args.alert) (named c.looked.new.seen.rows.items) (kappa_over x.limits (limit_for c.args.alert x.limits) (length c.looked.new.seen.rows.items - 1)) c.args.known.now.lists.places) (sym c.self.view_is)
    (lists_kept c.args.alert c.args.self.now c.args.known.now.hidden.places c.args.first c.args.last c.looked.new.seen.rows.items c.args.known.now.lists.places h.2 c.requires.known.lists))

pub returns-in-Rows-clause-known : goal.returns-in-Rows-clause-known
returns-in-Rows-clause-known c =
    let f = c.ranges.first in
    let l = c.ranges.last in
    let h = subst (λ r. AreLooks (least_count c.args.self.now.limits.exclude) (seen_knowing c.args.self.now c.args.known.now.hidden.places c.args.first c.args.last) (looks_with r c.looked.new.seen)) c.in-Rows.is (simp to_z-of_z at c.looked.ensures.looks) in
    let a : AddsHidden (λ rec. sight_over c.args.self.now rec c.args.first c.args.last) (in_force c.args.first c.args.self.now.almanacs) c.args.known.now.hidden.places c.looked.new.known.places = simp to_z-of_z at c.looked.ensures.known in
    let k : KnowsHidden c.args.self.now c.looked.new.known.places c.args.first c.args.last = hidden_known c.args.self.now c.args.first c.args.last c.args.known.now.hidden.places c.looked.new.known.places c.requires.rule c.requires.known.hidden a in
    record {
      here = simp to_z-of_z at c.here-here.ensures;
      hidden = k;
      slopes = slopes_more c.args.alert c.args.self.now c.args.known.now.hidden.places c.looked.new.known.places c.test.new.slopes.places c.args.first c.args.last c.requires.rule c.requires.ordered a.kept k
          (slopes_known c.args.alert c.args.self.now c.args.known.now.hidden.places c.args.first c.args.last c.looked.new.seen.rows.items c.test.new.slopes.places h.1 h.2
          (subst (λ (x : Case). SlopesPass (shift_of c.args.alert) (named c.looked.new.seen.rows.items) (kappa_over x.limits (limit_for c.args.alert x.limits) (length c.looked.new.seen.rows.items)) c.test.new.slopes.places) c.self.view_is
          (subst (λ (rs : List Row). SlopesPass (shift_of c.args.alert) (named rs) (kappa_over c.self.inside.limits (limit_for c.args.alert c.self.inside.limits) (length rs)) c.test.new.slopes.places) c.as_slice.ensures.value c.test.ensures.slopes)));
      lists = lists_more c.args.alert c.args.self.now c.args.known.now.hidden.places c.looked.new.known.places c.test.new.lists.places c.args.first c.args.last c.requires.rule c.requires.ordered a.kept k
          (lists_known c.args.alert c.args.self.now c.args.known.now.hidden.places c.args.first c.args.last c.looked.new.seen.rows.items c.test.new.lists.places h.1 h.2
          (subst (λ (x : Case). ListsPass (shift_of c.args.alert) (named c.looked.new.seen.rows.items) (kappa_over x.limits (limit_for c.args.alert x.limits) (length c.looked.new.seen.rows.items - 1)) c.test.new.lists.places) c.self.view_is
          (subst (λ (rs : List Row). ListsPass (shift_of c.args.alert) (named rs) (kappa_over c.self.inside.limits (limit_for c.args.alert c.self.inside.limits) (length rs - 1)) c.test.new.lists.places) c.as_slice.ensures.value c.test.ensures.lists)));
    }

pub returns-in-Few-clause-known : goal.returns-in-Few-clause-known
returns-in-Few-clause-known c =
    let f = c.ranges.first in
    let l = c.ranges.last in
    let a : AddsHidden (λ rec. sight_over c.args.self.now rec c.args.first c.args.last) (in_force c.args.first c.args.self.now.almanacs) c.args.known.now.hidden.places c.looked.new.known.places = simp to_z-of_z at c.looked.ensures.known in
    let k : KnowsHidden c.args.self.now c.looked.new.known.places c.args.first c.args.last = hidden_known c.args.self.now c.args.first c.args.last c.args.known.now.hidden.places c.looked.new.known.places c.requires.rule c.requires.known.hidden a in
    record {
      here = simp to_z-of_z at c.here-here.ensures;
      hidden = k;
      slopes = slopes_more c.args.alert c.args.self.now c.args.known.now.hidden.places c.looked.new.known.places c.args.known.now.slopes.places c.args.first c.args.last c.requires.rule c.requires.ordered a.kept k c.requires.known.slopes;
      lists = lists_more c.args.alert c.args.self.now c.args.known.now.hidden.places c.looked.new.known.places c.args.known.now.lists.places c.args.first c.args.last c.requires.rule c.requires.ordered a.kept k c.requires.known.lists;
    }

pub returns-in-Straddle-clause-known : goal.returns-in-Straddle-clause-known
returns-in-Straddle-clause-known c =
    let f = c.ranges.first in
    let l = c.ranges.last in
    let a : AddsHidden (λ rec. sight_over c.args.self.now rec c.args.first c.args.last) (in_force c.args.first c.args.self.now.almanacs) c.args.known.now.hidden.places c.looked.new.known.places = simp to_z-of_z at c.looked.ensures.known in
    let k : KnowsHidden c.args.self.now c.looked.new.known.places c.args.first c.args.last = hidden_known c.args.self.now c.args.first c.args.last c.args.known.now.hidden.places c.looked.new.known.places c.requires.rule c.requires.known.hidden a in
    record {
      here = simp to_z-of_z at c.here-here.ensures;
      hidden = k;
      slopes = slopes_more c.args.alert c.args.self.now c.args.known.now.hidden.places c.looked.new.known.places c.args.known.now.slopes.places c.args.first c.args.last c.requires.rule c.requires.ordered a.kept k c.requires.known.slopes;
      lists = lists_more c.args.alert c.args.self.now c.args.known.now.hidden.places c.looked.new.known.places c.args.known.now.lists.places c.args.first c.args.last c.requires.rule c.requires.ordered a.kept k c.requires.known.lists;
    }
