use Rattle.std.proofs.Common.{◌≡◌, ℤ, subst, to_z, of_z, w64, arith}
use Rattle.gps_week.specs.GpsTime.{SpellsInstant}
use Rattle.gps_week.proofs.CastLemmas.{instant_kept}
use Rattle.report_chart.specs.Appended.{Appended}
use Rattle.report_chart.proofs.PageLemmas.{sentence_grows}
use Rattle.report_chart.proofs.flight.push_sentence.Goals as goal

pub returns : goal.returns
returns c =
    let span = c.args.span in
    let kept : to_z w64 (of_z w64 span.first) ≡ span.first = instant_kept 0 span.first (omega arith) c.requires.first in
    let late : to_z w64 (of_z w64 span.end) ≡ span.end = instant_kept 0 span.end (omega arith) c.requires.end in
    let first : Appended (λ more. SpellsInstant more 0 span.first) c.push.new.text.items c.push_time.new.text.items =
    subst (λ (ms : ℤ). Appended (λ more. SpellsInstant more 0 ms) c.push.new.text.items c.push_time.new.text.items) kept c.in_ok-push_time.ensures in
    let end : Appended (λ more. SpellsInstant more 0 span.end) c.push-2.new.text.items c.push_time-2.new.text.items =
    subst (λ (ms : ℤ). Appended (λ more. SpellsInstant more 0 ms) c.push-2.new.text.items c.push_time-2.new.text.items) late c.in_ok-push_time-2.ensures in
    sentence_grows c.push-3.result span c.args.text.now.items c.push.new.text.items c.push_time.new.text.items c.push-2.new.text.items c.push_time-2.new.text.items c.push-3.new.text.items
    c.in_ok-push.ensures first c.in_ok-push-2.ensures end c.push-3.ensures
