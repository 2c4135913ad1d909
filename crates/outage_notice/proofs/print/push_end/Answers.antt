use Rattle.std.proofs.Common.{◌≡◌, ℤ, Option, subst, sym, to_z, of_z, w64}
use Rattle.std.specs.Prelude.{IfSome}
use Rattle.std.specs.Result.{OnOk}
use Rattle.gps_week.specs.GpsTime.{IsInstant, SpellsInstant}
use Rattle.gps_week.proofs.CastLemmas.{instant_kept}
use Rattle.outage_notice.specs.Printing.{IsEndText}
use Rattle.outage_notice.specs.Appended.{Appended}
use Rattle.outage_notice.proofs.print.push_end.Goals as goal

pub returns-in-Some : goal.returns-in-Some
returns-in-Some c =
    let end = c.in-Some.end in
    let instant : IsInstant c.args.leap end = subst (λ (e : Option ℤ). IfSome e (IsInstant c.args.leap)) c.in-Some.is c.requires in
    let kept : to_z w64 (of_z w64 end) ≡ end = instant_kept c.args.leap end c.ranges.leap.fits instant in
    let says : OnOk c.push_time.result (Appended (λ more. SpellsInstant more c.args.leap end) c.args.text.now.items c.push_time.new.text.items) =
    subst (λ (e : ℤ). OnOk c.push_time.result (Appended (λ more. SpellsInstant more c.args.leap e) c.args.text.now.items c.push_time.new.text.items)) kept c.push_time.ensures in
    subst (λ (e : Option ℤ). OnOk c.push_time.result (Appended (IsEndText c.args.leap e) c.args.text.now.items c.push_time.new.text.items)) (sym c.in-Some.is) says
