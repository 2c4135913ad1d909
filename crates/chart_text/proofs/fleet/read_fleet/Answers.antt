use Rattle.std.proofs.Common.{rules, ◌≡◌, ℕ, length, ◌+◌, ap, sym, subst, ◌∙◌}
use Rattle.chart_text.specs.LineNumbers.{lines_in}
use Rattle.chart_text.specs.Refusals.{IsFleetRefused}
use Rattle.chart_text.proofs.FleetLemmas.{read_more, refused_next}
use Rattle.chart_text.proofs.fleet.read_fleet.Goals as goal

pub loop-rest-preserved : goal.loop-rest-preserved
loop-rest-preserved c =
    let len : c.len.result ≡ length c.loop-rest.rows.items = search rules in
    read_more c.loop-rest.rows.items c.push.new.self.items c.in-Ok.row c.args.text.now c.loop-rest.rest.now c.in-Ok.after.now (c.len.result + 1) c.loop-rest.invariant
    (ap (λ (n : ℕ). n + 1) len) c.in-Ok.ensures.block c.in-Ok.ensures.sayable c.in-Ok.ensures.row c.in-Ok.ensures.next c.in-Ok-push.ensures.items

pub returns-in-Err-clause-refused : goal.returns-in-Err-clause-refused
returns-in-Err-clause-refused c =
    let len : c.len.result ≡ length c.loop-rest.rows.items = search rules in
    subst (IsFleetRefused c.args.text.now) (sym c.behind.ensures)
    (refused_next c.loop-rest.rows.items c.args.text.now c.loop-rest.rest.now (c.len.result + 1) c.loop-rest.invariant (ap (λ (n : ℕ). n + 1) len)
    c.in-Err.refusal c.lines_in.result (c.lines_in.ensures ∙ ap lines_in c.split_at.ensures.front) c.in-Err.ensures.refused)
