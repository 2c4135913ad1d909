use Rattle.std.proofs.Common.{◌≡◌, ◌<◌, ◌+◌, ℤ, pos, length, take, drop, get_or, subst, sym, arith, to_z, of_z, w64}
use Rattle.std.proofs.Math.Seq.{split_at}
use Rattle.std.proofs.lemmas.List.{take_all}
use Rattle.std.proofs.lemmas.List.Elements.{All-take}
use Rattle.raim_model.specs.declared.verdict.Run.{Run}
use Rattle.raim_model.specs.declared.verdict.Verdict.TheVariants.{Available}
use Rattle.gps_week.proofs.CastLemmas.{instant_kept}
use Rattle.report_text.specs.Report.{IsPrintable, IsReadable}
use Rattle.report_chart.specs.Chart.{IsFlight}
use Rattle.chart_text.proofs.FlightLemmas.{ArePassed, passed_more, broken_here, flight_of}
use Rattle.chart_text.proofs.flight.first_break.Goals as goal

pub returns-in-Some-clause-some : goal.returns-in-Some-clause-some
returns-in-Some-clause-some c =
    let runs = c.args.runs.now in
    let i = c.loop-done.done in
    let d : Run = record { first = pos 0; end = pos 0; verdict = Available } in
    let start : ℤ = to_z w64 (of_z w64 (get_or runs 0 d).first) in
    let within : i < length runs = c.loop-done-test.true in
    let some : 0 < length runs = omega (arith, within) in
    let kept : start ≡ (get_or runs 0 d).first = instant_kept 0 (get_or runs 0 d).first (omega arith) (c.requires.printable 0 d some).first in
    broken_here runs start (to_z w64 c.loop-done.end-bits) i d within c.loop-done.invariant c.requires.printable c.requires.readable
    (get_or runs 0 d) (drop 1 runs) c.line_number-line.result c.in-Some.why (split_at runs 0 d some) kept c.line_number-line.ensures c.in-Some.ensures.some

pub loop-done-preserved : goal.loop-done-preserved
loop-done-preserved c =
    let runs = c.args.runs.now in
    let i = c.loop-done.done in
    let d : Run = record { first = pos 0; end = pos 0; verdict = Available } in
    let start : ℤ = to_z w64 (of_z w64 (get_or runs 0 d).first) in
    let within : i < length runs = c.loop-done-test.true in
    let next = c.in_default-why_not_next.ensures.none in
    let kept : to_z w64 (of_z w64 (get_or runs i d).end) ≡ (get_or runs i d).end = instant_kept 0 (get_or runs i d).end (omega arith) (c.requires.printable i d within).end in
    subst (λ (t : ℤ). ArePassed start t (take (i + 1) runs)) (sym kept)
    (passed_more runs start (to_z w64 c.loop-done.end-bits) i d within c.loop-done.invariant c.requires.printable c.requires.readable next.0 next.1)

pub returns-clause-none : goal.returns-clause-none
returns-clause-none c =
    let runs = c.args.runs.now in
    let d : Run = record { first = pos 0; end = pos 0; verdict = Available } in
    let start : ℤ = to_z w64 (of_z w64 (get_or runs 0 d).first) in
    let all : take c.loop-done.done runs ≡ runs = take_all c.loop-done.done runs c.loop-done-test.false in
    subst IsFlight all (flight_of start (to_z w64 c.loop-done.end-bits) (take c.loop-done.done runs) c.loop-done.invariant.follow c.loop-done.invariant.short
    (All-take (IsPrintable 0) c.loop-done.done runs c.requires.printable) (All-take IsReadable c.loop-done.done runs c.requires.readable))
