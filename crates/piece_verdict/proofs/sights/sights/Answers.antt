use Rattle.std.proofs.Common.{◌≡◌, arith, ap, refl, sym, subst, take, length, slice_index_or, ◌∙◌}
use Rattle.std.specs.Prelude.{List, IfSome}
use Rattle.verdict_laws.specs.Sights.{Sighted}
use Rattle.std.proofs.lemmas.Int.{to_z-of_z}
use Rattle.std.proofs.lemmas.List.{length-map}
use Rattle.slope_test.specs.Named.{named_row}
use Rattle.piece_verdict.proofs.HiddenLemmas.{hidden_given_of, adds_more, adds_none}
use Rattle.raim_model.specs.AlmanacRanges.{IsApplicable}
use Rattle.fix_interval.specs.Intervals.{ends}
use Rattle.case_laws.specs.SightOver.{weight_over}
use Rattle.wgs_position.specs.Frames.{frame_ends}
use Rattle.elev_mask.specs.Sights.{sight_ends}
use Rattle.piece_verdict.proofs.ViewLemmas.{seen_step, seen_skip, seen_all, straddle_stays}
use Rattle.piece_verdict.specs.Looks.{AreLooks}
use Rattle.piece_verdict.specs.declared.looks.Looks.TheVariants.{Straddle}
use Rattle.piece_verdict.specs.Views.{seen_from, all_seen_from}
use Rattle.piece_verdict.proofs.sights.sights.Goals.{then-usable_at, else-usable_at}
use Rattle.piece_verdict.proofs.sights.sights.Goals as goal

pub sight_knowing-sight-requires-clause-first_applicable :
    goal.sight_knowing-sight-requires-clause-first_applicable
sight_knowing-sight-requires-clause-first_applicable c =
    let f = c.ranges.first in
    simp to_z-of_z (subst (λ rec. IsApplicable rec c.args.first) (sym c.satellite-item.is) (c.requires.first_applicable c.loop-satellite.satellite-index c.satellite-item.result c.loop-satellite-test.true))

pub sight_knowing-sight-requires-clause-last_applicable : goal.sight_knowing-sight-requires-clause-last_applicable
sight_knowing-sight-requires-clause-last_applicable c =
    let f = c.ranges.last in
    simp to_z-of_z (subst (λ rec. IsApplicable rec c.args.last) (sym c.satellite-item.is) (c.requires.last_applicable c.loop-satellite.satellite-index c.satellite-item.result c.loop-satellite-test.true))

pub loop-satellite-preserved : goal.loop-satellite-preserved
loop-satellite-preserved c =
    let rows = c.loop-satellite.invariant.rows in
    let possible = c.loop-satellite.invariant.possible in
    elim c.if-usable_at.branch [
      | then-usable_at w ↦ rw (w.seen-is, w.known-is) (record {
        seen = seen_step c.args.satellites.now c.args.outages.now c.args.weights.now (frame_ends c.args.frame.now) (ends c.args.mask) _ _ _ c.loop-satellite.satellite-index c.satellite-item.result w.prn-prn.result (ends w.weight.result) c.loop-satellite.seen w.add.new.self (sight_ends w.sight_knowing-sight.result)
            c.loop-satellite-test.true c.satellite-item.is (sym c.usable_at.ensures ∙ w.if-usable_at.true) w.prn-prn.ensures w.weight.ensures.exact w.sight_knowing-sight.ensures.exact w.add.ensures.seen c.loop-satellite.invariant.seen;
        known = adds_more (seen_from (frame_ends c.args.frame.now) (ends c.args.mask) c.args.weights.now _ _) c.args.satellites.now _ c.loop-satellite.known.places w.sight_knowing-sight.new.known.places c.loop-satellite.satellite-index c.satellite-item.result c.requires.rising c.requires.some
            c.loop-satellite-test.true c.satellite-item.is (λ m. hidden_given_of (weight_over c.args.weights.now c.satellite-item.result.prn) _ (w.sight_knowing-sight.ensures.found m)) w.sight_knowing-sight.ensures.kept w.sight_knowing-sight.ensures.others c.loop-satellite.invariant.known;
        rows = let a = w.add.ensures.rows in omega arith;
        possible = let a = w.add.ensures.possible in omega arith;
      })
      | else-usable_at w ↦ rw (w.seen-is, w.known-is) (record {
        seen = seen_skip c.args.satellites.now c.args.outages.now c.args.weights.now (frame_ends c.args.frame.now) (ends c.args.mask) _ _ _ c.loop-satellite.satellite-index c.satellite-item.result c.loop-satellite.seen
            c.loop-satellite-test.true c.satellite-item.is (sym c.usable_at.ensures ∙ w.if-usable_at.false) c.loop-satellite.invariant.seen;
        known = c.loop-satellite.invariant.known;
        rows = omega arith;
        possible = omega arith;
      })
    ]

pub returns-in-Some-clause-looks : goal.returns-in-Some-clause-looks
returns-in-Some-clause-looks c =
    let f = c.ranges.first in
    let l = c.ranges.last in
    let h = simp to_z-of_z at c.loop-satellite.invariant.seen in
    let xs : List Sighted = all_seen_from (frame_ends c.args.frame.now) (ends c.args.mask) c.args.weights.now c.args.outages.now c.args.known.now.places c.args.first c.args.last (take c.loop-satellite.satellite-index c.args.satellites.now) in
    straddle_stays c.args.satellites.now c.args.outages.now c.args.weights.now (frame_ends c.args.frame.now) (ends c.args.mask) c.args.known.now.places c.args.first c.args.last c.loop-satellite.satellite-index c.args.needed c.in-Some.straddling
    (subst (λ o. IfSome o (λ prn. AreLooks c.args.needed xs (Straddle prn))) c.in-Some.is (c.settles.ensures xs h))

pub returns-clause-looks : goal.returns-clause-looks
returns-clause-looks c =
    let f = c.ranges.first in
    let l = c.ranges.last in
    let h = simp to_z-of_z at c.loop-satellite.invariant.seen in
    c.found.ensures _ (seen_all c.args.satellites.now c.args.outages.now c.args.weights.now (frame_ends c.args.frame.now) (ends c.args.mask) c.args.known.now.places c.args.first c.args.last c.loop-satellite.satellite-index c.loop-satellite.seen c.loop-satellite-test.false h)

pub loop-satellite-init : goal.loop-satellite-init
loop-satellite-init c =
    let f = c.ranges.first in
    let l = c.ranges.last in
    let r = ap length c.requires.none.rows in
    let n = length-map c.args.seen.now.rows.items named_row in
    let p = c.requires.none.possible in
    record { seen = c.requires.none; known = adds_none _ _ _; rows = omega arith; possible = omega arith }

pub returns-in-Some-clause-known : goal.returns-in-Some-clause-known
returns-in-Some-clause-known c =
    let f = c.ranges.first in
    let l = c.ranges.last in
    simp to_z-of_z at c.loop-satellite.invariant.known

pub returns-clause-known : goal.returns-clause-known
returns-clause-known c =
    let f = c.ranges.first in
    let l = c.ranges.last in
    simp to_z-of_z at c.loop-satellite.invariant.known
