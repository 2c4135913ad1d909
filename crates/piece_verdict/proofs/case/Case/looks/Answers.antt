use Rattle.std.proofs.Common.{sym, subst, ◌∙◌}
use Rattle.std.proofs.lemmas.Int.{to_z-of_z}
use Rattle.raim_model.specs.PointVerdict.{least_count}
use Rattle.case_laws.specs.PieceVerdict.{seen_of}
use Rattle.slope_test.specs.Named.{named}
use Rattle.piece_verdict.specs.Looks.{AreLooks}
use Rattle.piece_verdict.specs.HiddenLaws.{seen_plainly}
use Rattle.piece_verdict.specs.Seen.{looks_with}
use Rattle.piece_verdict.proofs.LooksLemmas.{few_rows, rows_lie, prns_are, looks_leave}
use Rattle.piece_verdict.proofs.case.Case.looks.Goals as goal

pub returns-clause-exact : goal.returns-clause-exact
returns-clause-exact g c =
    let f = c.ranges.first in
    let l = c.ranges.last in
    subst (λ r. AreLooks (least_count c.args.self.now.limits.exclude) (seen_of c.args.self.now c.args.first c.args.last) r) (sym c.looks.ensures) (subst (λ seen. AreLooks (least_count c.args.self.now.limits.exclude) seen (looks_with c.looked-found.result c.looked-found.new.seen)) (seen_plainly c.args.self.now c.none-known.result.places c.args.first c.args.last c.none-known.ensures.unmarked) (simp to_z-of_z at c.looked-found.ensures.looks))

pub returns-clause-few : goal.returns-clause-few
returns-clause-few g c e N t s low high =
    let f = c.ranges.first in
    let l = c.ranges.last in
    let h = subst (λ r. AreLooks (least_count c.args.self.now.limits.exclude) (seen_of c.args.self.now c.args.first c.args.last) r) (sym c.looks.ensures ∙ e) (subst (λ seen. AreLooks (least_count c.args.self.now.limits.exclude) seen (looks_with c.looked-found.result c.looked-found.new.seen)) (seen_plainly c.args.self.now c.none-known.result.places c.args.first c.args.last c.none-known.ensures.unmarked) (simp to_z-of_z at c.looked-found.ensures.looks)) in
    few_rows c.args.self.now c.requires.rule.case c.args.first c.args.last t c.requires.rule.piece low high N s (least_count c.args.self.now.limits.exclude) h

pub returns-clause-satellites : goal.returns-clause-satellites
returns-clause-satellites g c rows e N t s low high =
    let f = c.ranges.first in
    let l = c.ranges.last in
    let h = subst (λ r. AreLooks (least_count c.args.self.now.limits.exclude) (seen_of c.args.self.now c.args.first c.args.last) r) (sym c.looks.ensures ∙ e) (subst (λ seen. AreLooks (least_count c.args.self.now.limits.exclude) seen (looks_with c.looked-found.result c.looked-found.new.seen)) (seen_plainly c.args.self.now c.none-known.result.places c.args.first c.args.last c.none-known.ensures.unmarked) (simp to_z-of_z at c.looked-found.ensures.looks)) in
    prns_are c.args.self.now c.requires.rule.case c.args.first c.args.last t c.requires.rule.piece low high N s (named rows.items) h.1 h.2

pub returns-clause-rows : goal.returns-clause-rows
returns-clause-rows g c rows e N t s low high =
    let f = c.ranges.first in
    let l = c.ranges.last in
    let h = subst (λ r. AreLooks (least_count c.args.self.now.limits.exclude) (seen_of c.args.self.now c.args.first c.args.last) r) (sym c.looks.ensures ∙ e) (subst (λ seen. AreLooks (least_count c.args.self.now.limits.exclude) seen (looks_with c.looked-found.result c.looked-found.new.seen)) (seen_plainly c.args.self.now c.none-known.result.places c.args.first c.args.last c.none-known.ensures.unmarked) (simp to_z-of_z at c.looked-found.ensures.looks)) in
    rows_lie c.args.self.now c.requires.rule.case c.args.first c.args.last t c.requires.rule.piece low high N s (named rows.items) h.1 h.2

pub returns-clause-isotone : goal.returns-clause-isotone
returns-clause-isotone g c a b inside low ordered high h =
    let f = c.ranges.first in
    let l = c.ranges.last in
    looks_leave c.args.self.now c.requires.rule.case c.args.first c.args.last a b c.requires.rule.piece low ordered high (least_count c.args.self.now.limits.exclude) c.looks.result inside (subst (λ r. AreLooks (least_count c.args.self.now.limits.exclude) (seen_of c.args.self.now c.args.first c.args.last) r) (sym c.looks.ensures) (subst (λ seen. AreLooks (least_count c.args.self.now.limits.exclude) seen (looks_with c.looked-found.result c.looked-found.new.seen)) (seen_plainly c.args.self.now c.none-known.result.places c.args.first c.args.last c.none-known.ensures.unmarked) (simp to_z-of_z at c.looked-found.ensures.looks))) h
