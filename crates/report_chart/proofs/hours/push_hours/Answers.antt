use Rattle.std.proofs.Common.{rules, ◌≡◌, ◌≤◌, ◌+◌, ℕ, FitsSigned, w64, subst, arith}
use Rattle.std.specs.Prelude.{codes}
use Rattle.std.proofs.lemmas.Int.{to_z-of_z}
use Rattle.report_chart.specs.Hours.{hour_from, hour_until}
use Rattle.report_chart.proofs.HourLemmas.{hour_step, hours_meet, hours_end}
use Rattle.report_chart.proofs.hours.push_hours.Goals as goal

pub loop-hour-preserved : goal.loop-hour-preserved
loop-hour-preserved c =
    let first : FitsSigned w64 c.args.span.first = search rules in
    let from = simp to_z-of_z at c.hour_from-hour.ensures in
    let after : hour_from c.args.span.first ≤ c.loop-hour.hour = subst (λ (n : ℕ). n ≤ c.loop-hour.hour) from c.loop-hour.auto.hour in
    hour_step c.args.span (hour_from c.args.span.first) c.loop-hour.hour c.args.text.now.items (codes "<ol class=hours>\n") c.loop-hour.text.items c.push_hour.new.text.items
    after c.loop-hour.invariant c.in_ok-push_hour.ensures

pub returns : goal.returns
returns c =
    let first : FitsSigned w64 c.args.span.first = search rules in
    let end : FitsSigned w64 c.args.span.end = search rules in
    let from : c.hour_from-hour.result ≡ hour_from c.args.span.first = simp to_z-of_z at c.hour_from-hour.ensures in
    let until : c.hour_until-hour-end.result ≡ hour_until c.args.span.end = simp to_z-of_z at c.hour_until-hour-end.ensures in
    let meet = hours_meet c.args.span c.requires in
    let all : c.loop-hour.hour ≡ c.hour_until-hour-end.result + 1 = last c.loop-hour.hour c.hour_from-hour.result c.hour_until-hour-end.result _ _ from until meet c.loop-hour.auto.hour-end c.loop-hour-test.false in
    hours_end c.push-2.result c.args.span c.hour_until-hour-end.result c.loop-hour.hour c.args.text.now.items (codes "<ol class=hours>\n") c.loop-hour.text.items c.push-2.new.text.items
    (codes "</ol>\n<p class=utc>hours of UTC\n") until all c.loop-hour.invariant c.push-2.ensures
  where
    last : (hour from until a b : ℕ) → from ≡ a → until ≡ b → a ≤ b + 1 → (from ≤ until + 1 → hour ≤ until + 1) → until + 1 ≤ hour → hour ≡ until + 1
    last hour from until a b p q meet below above = omega (arith, p, q, meet, below, above)
