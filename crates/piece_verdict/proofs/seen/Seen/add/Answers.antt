use Rattle.std.proofs.Common.{arith, rules, ◌≡◌, ◌++◌, ◌∷◌, [], length, refl, sym, ap, ◌∙◌}
use Rattle.fix_interval.specs.Intervals.{ends}
use Rattle.site_laws.specs.Sights.{visible}
use Rattle.verdict_laws.specs.Sights.{Hidden, Straddles, rows_seen}
use Rattle.case_laws.specs.SightOver.{sight_given}
use Rattle.geom_inverse.specs.Views.{row_ends}
use Rattle.slope_test.specs.Named.{named}
use Rattle.elev_mask.specs.Sights.{sight_ends, direction_ends}
use Rattle.piece_verdict.specs.Seen.{first_kept}
use Rattle.piece_verdict.proofs.SeenLemmas.{rows_more, rows_same, count_more, first_same, first_more, named_more, direction_within, row_given}
use Rattle.piece_verdict.proofs.seen.Seen.add.Goals as goal

pub weighed-requires-clause-small : goal.weighed-requires-clause-small
weighed-requires-clause-small c =
    let n : length c.in-Visible.direction ≡ 3 = search rules in
    direction_within c.in-Visible.direction n (c.requires.bound (direction_ends c.in-Visible.direction) (ap sight_ends c.in-Visible.is))

pub returns-in-Visible-clause-seen : goal.returns-in-Visible-clause-seen
returns-in-Visible-clause-seen c = λ seen h.
    let n : length c.in-Visible.direction ≡ 3 = search rules in
    let d = direction_ends c.in-Visible.direction in
    let row = row_given c.in-Visible.direction c.weighed.result (ends c.args.k) n c.weighed.ensures.exact in
    let p = h.possible in
    rw c.in-Visible.is (record {
      rows = ap named c.push.ensures.items ∙ named_more c.args.self.now.rows.items c.weighed.result
          ∙ ap (λ xs. xs ++ record { prn = c.weighed.result.prn; ends = row_ends c.weighed.result } ∷ []) h.rows
          ∙ ap (λ q. rows_seen seen ++ record { prn = q; ends = row_ends c.weighed.result } ∷ []) c.weighed.ensures.prn
          ∙ ap (λ q. rows_seen seen ++ record { prn = c.args.prn; ends = q } ∷ []) row
          ∙ sym (rows_more seen c.args.prn _);
      possible = let m = count_more seen c.args.prn (sight_given (ends c.args.k) (visible d)) in omega arith;
      straddling = h.straddling ∙ sym (first_same seen c.args.prn (sight_given (ends c.args.k) (visible d)) refl);
    })

pub returns-in-Straddle-clause-seen : goal.returns-in-Straddle-clause-seen
returns-in-Straddle-clause-seen c = λ seen h.
    let p = h.possible in
    rw c.in-Straddle.is (record {
      rows = h.rows ∙ sym (rows_same seen c.args.prn Straddles refl);
      possible = let m = count_more seen c.args.prn Straddles in omega arith;
      straddling = c.keep_first-self.ensures ∙ ap (λ o. first_kept o c.args.prn) h.straddling ∙ sym (first_more seen c.args.prn);
    })

pub returns-in-Hidden-clause-seen : goal.returns-in-Hidden-clause-seen
returns-in-Hidden-clause-seen c = λ seen h.
    let p = h.possible in
    rw c.in-Hidden.is (record {
      rows = h.rows ∙ sym (rows_same seen c.args.prn Hidden refl);
      possible = let m = count_more seen c.args.prn Hidden in omega arith;
      straddling = h.straddling ∙ sym (first_same seen c.args.prn Hidden refl);
    })
