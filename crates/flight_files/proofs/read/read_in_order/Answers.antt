use Rattle.std.proofs.Common.{Option, refl, subst}
use Rattle.raim_model.specs.declared.FileNo.TheVariants.{Limits, Route, Outages, Almanac}
use Rattle.raim_model.specs.declared.Span.{Span}
use Rattle.raim_model.specs.Route.{flight_of}
use Rattle.raim_base.specs.Calls.{ReadsToEnd}
use Rattle.text_lines.specs.Lines.{Text}
use Rattle.route_interp.specs.Answers.{SayWaypoints}
use Rattle.outage_notice.specs.Answers.{SayOutages}
use Rattle.alm_reader.specs.Almanacs.{RefusesAlmanacs}
use Rattle.flight_files.specs.Paths.{paths_of}
use Rattle.flight_files.specs.Files.{HasLines, AreLimitsOf, IsRouteOf, AreOutagesOf}
use Rattle.flight_files.specs.Stops.{FileCause}
use Rattle.flight_files.specs.Calls.{FileStopCalls}
use Rattle.flight_files.proofs.Steps.{Seen, Reads, at_limits, at_route, at_outages, at_almanac, stopped, calls_at_end, no_flight}
use Rattle.flight_files.proofs.read.read_in_order.Goals as goal

pub returns-in-Err-clause-cause : goal.returns-in-Err-clause-cause
returns-in-Err-clause-cause g c =
    let paths = paths_of c.args.paths.now in
    let s0 : Seen = record { holds = g.D.Desk.holds c.args.desk.now; left = g.D.Desk.left c.args.desk.now; faults = g.D.Desk.faults c.args.desk.now; calls = g.D.Desk.calls c.args.desk.now } in
    let s1 : Seen = record { holds = g.D.Desk.holds c.read_limits_file.new.desk; left = g.D.Desk.left c.read_limits_file.new.desk; faults = g.D.Desk.faults c.read_limits_file.new.desk; calls = g.D.Desk.calls c.read_limits_file.new.desk } in
    let r1 : Reads Limits s0 s1 (FileStopCalls Limits paths.limits c.in-Err.stop) = record { holds = c.in-Err.ensures.holds; later = c.in-Err.ensures.later; others = c.in-Err.ensures.others; calls = c.in-Err.ensures.calls } in
    let a0 = at_limits paths s0 in
    (stopped paths s0 s0 s1 Limits 0 no_flight a0 tt c.in-Err.stop r1 c.in-Err.ensures.cause).cause

pub returns-in-Err-clause-calls : goal.returns-in-Err-clause-calls
returns-in-Err-clause-calls g c =
    let paths = paths_of c.args.paths.now in
    let s0 : Seen = record { holds = g.D.Desk.holds c.args.desk.now; left = g.D.Desk.left c.args.desk.now; faults = g.D.Desk.faults c.args.desk.now; calls = g.D.Desk.calls c.args.desk.now } in
    let s1 : Seen = record { holds = g.D.Desk.holds c.read_limits_file.new.desk; left = g.D.Desk.left c.read_limits_file.new.desk; faults = g.D.Desk.faults c.read_limits_file.new.desk; calls = g.D.Desk.calls c.read_limits_file.new.desk } in
    let r1 : Reads Limits s0 s1 (FileStopCalls Limits paths.limits c.in-Err.stop) = record { holds = c.in-Err.ensures.holds; later = c.in-Err.ensures.later; others = c.in-Err.ensures.others; calls = c.in-Err.ensures.calls } in
    let a0 = at_limits paths s0 in
    (stopped paths s0 s0 s1 Limits 0 no_flight a0 tt c.in-Err.stop r1 c.in-Err.ensures.cause).calls

pub returns-in-Err-read_route_file-clause-cause : goal.returns-in-Err-read_route_file-clause-cause
returns-in-Err-read_route_file-clause-cause g c =
    let paths = paths_of c.args.paths.now in
    let s0 : Seen = record { holds = g.D.Desk.holds c.args.desk.now; left = g.D.Desk.left c.args.desk.now; faults = g.D.Desk.faults c.args.desk.now; calls = g.D.Desk.calls c.args.desk.now } in
    let s1 : Seen = record { holds = g.D.Desk.holds c.read_limits_file.new.desk; left = g.D.Desk.left c.read_limits_file.new.desk; faults = g.D.Desk.faults c.read_limits_file.new.desk; calls = g.D.Desk.calls c.read_limits_file.new.desk } in
    let s2 : Seen = record { holds = g.D.Desk.holds c.read_route_file.new.desk; left = g.D.Desk.left c.read_route_file.new.desk; faults = g.D.Desk.faults c.read_route_file.new.desk; calls = g.D.Desk.calls c.read_route_file.new.desk } in
    let r1 : Reads Limits s0 s1 (ReadsToEnd Limits paths.limits) = record { holds = c.in-Ok.ensures.holds; later = c.in-Ok.ensures.later; others = c.in-Ok.ensures.others; calls = c.in-Ok.ensures.calls } in
    let r2 : Reads Route s1 s2 (FileStopCalls Route paths.route c.in-Err-read_route_file.stop) = record { holds = c.in-Err-read_route_file.ensures.holds; later = c.in-Err-read_route_file.ensures.later; others = c.in-Err-read_route_file.ensures.others; calls = c.in-Err-read_route_file.ensures.calls } in
    let a0 = at_limits paths s0 in
    let a1 = at_route paths s0 s0 s1 a0 r1 in
    let limits = c.in-Ok.limits in
    let b1 : AreLimitsOf s0.holds paths limits.leap = record { limits = limits; accepted = c.in-Ok.ensures.accepted; leap_is = refl } in
    (stopped paths s0 s1 s2 Route limits.leap no_flight a1 b1 c.in-Err-read_route_file.stop r2 c.in-Err-read_route_file.ensures.cause).cause

pub returns-in-Err-read_route_file-clause-calls : goal.returns-in-Err-read_route_file-clause-calls
returns-in-Err-read_route_file-clause-calls g c =
    let paths = paths_of c.args.paths.now in
    let s0 : Seen = record { holds = g.D.Desk.holds c.args.desk.now; left = g.D.Desk.left c.args.desk.now; faults = g.D.Desk.faults c.args.desk.now; calls = g.D.Desk.calls c.args.desk.now } in
    let s1 : Seen = record { holds = g.D.Desk.holds c.read_limits_file.new.desk; left = g.D.Desk.left c.read_limits_file.new.desk; faults = g.D.Desk.faults c.read_limits_file.new.desk; calls = g.D.Desk.calls c.read_limits_file.new.desk } in
    let s2 : Seen = record { holds = g.D.Desk.holds c.read_route_file.new.desk; left = g.D.Desk.left c.read_route_file.new.desk; faults = g.D.Desk.faults c.read_route_file.new.desk; calls = g.D.Desk.calls c.read_route_file.new.desk } in
    let r1 : Reads Limits s0 s1 (ReadsToEnd Limits paths.limits) = record { holds = c.in-Ok.ensures.holds; later = c.in-Ok.ensures.later; others = c.in-Ok.ensures.others; calls = c.in-Ok.ensures.calls } in
    let r2 : Reads Route s1 s2 (FileStopCalls Route paths.route c.in-Err-read_route_file.stop) = record { holds = c.in-Err-read_route_file.ensures.holds; later = c.in-Err-read_route_file.ensures.later; others = c.in-Err-read_route_file.ensures.others; calls = c.in-Err-read_route_file.ensures.calls } in
    let a0 = at_limits paths s0 in
    let a1 = at_route paths s0 s0 s1 a0 r1 in
    let limits = c.in-Ok.limits in
    let b1 : AreLimitsOf s0.holds paths limits.leap = record { limits = limits; accepted = c.in-Ok.ensures.accepted; leap_is = refl } in
    (stopped paths s0 s1 s2 Route limits.leap no_flight a1 b1 c.in-Err-read_route_file.stop r2 c.in-Err-read_route_file.ensures.cause).calls

pub returns-in-Err-read_outages_file-clause-cause : goal.returns-in-Err-read_outages_file-clause-cause
returns-in-Err-read_outages_file-clause-cause g c =
    let paths = paths_of c.args.paths.now in
    let s0 : Seen = record { holds = g.D.Desk.holds c.args.desk.now; left = g.D.Desk.left c.args.desk.now; faults = g.D.Desk.faults c.args.desk.now; calls = g.D.Desk.calls c.args.desk.now } in
    let s1 : Seen = record { holds = g.D.Desk.holds c.read_limits_file.new.desk; left = g.D.Desk.left c.read_limits_file.new.desk; faults = g.D.Desk.faults c.read_limits_file.new.desk; calls = g.D.Desk.calls c.read_limits_file.new.desk } in
    let s2 : Seen = record { holds = g.D.Desk.holds c.read_route_file.new.desk; left = g.D.Desk.left c.read_route_file.new.desk; faults = g.D.Desk.faults c.read_route_file.new.desk; calls = g.D.Desk.calls c.read_route_file.new.desk } in
    let s3 : Seen = record { holds = g.D.Desk.holds c.read_outages_file.new.desk; left = g.D.Desk.left c.read_outages_file.new.desk; faults = g.D.Desk.faults c.read_outages_file.new.desk; calls = g.D.Desk.calls c.read_outages_file.new.desk } in
    let r1 : Reads Limits s0 s1 (ReadsToEnd Limits paths.limits) = record { holds = c.in-Ok.ensures.holds; later = c.in-Ok.ensures.later; others = c.in-Ok.ensures.others; calls = c.in-Ok.ensures.calls } in
    let r2 : Reads Route s1 s2 (ReadsToEnd Route paths.route) = record { holds = c.in-Ok-read_route_file.ensures.holds; later = c.in-Ok-read_route_file.ensures.later; others = c.in-Ok-read_route_file.ensures.others; calls = c.in-Ok-read_route_file.ensures.calls } in
    let r3 : Reads Outages s2 s3 (FileStopCalls Outages paths.outages c.in-Err-read_outages_file.stop) = record { holds = c.in-Err-read_outages_file.ensures.holds; later = c.in-Err-read_outages_file.ensures.later; others = c.in-Err-read_outages_file.ensures.others; calls = c.in-Err-read_outages_file.ensures.calls } in
    let a0 = at_limits paths s0 in
    let a1 = at_route paths s0 s0 s1 a0 r1 in
    let a2 = at_outages paths s0 s1 s2 a1 r2 in
    let limits = c.in-Ok.limits in
    let b1 : AreLimitsOf s0.holds paths limits.leap = record { limits = limits; accepted = c.in-Ok.ensures.accepted; leap_is = refl } in
    let route = c.in-Ok-read_route_file.route in
    let b2 : IsRouteOf s0.holds paths limits.leap (flight_of route) = record { route = route; accepted = subst (λ (told : Option Text). HasLines told (λ lines. SayWaypoints limits.leap lines route)) (a1.holds paths.route) c.in-Ok-read_route_file.ensures.accepted; flight_is = refl } in
    (stopped paths s0 s2 s3 Outages limits.leap (flight_of route) a2 (b1, b2) c.in-Err-read_outages_file.stop r3 c.in-Err-read_outages_file.ensures.cause).cause

pub returns-in-Err-read_outages_file-clause-calls : goal.returns-in-Err-read_outages_file-clause-calls
returns-in-Err-read_outages_file-clause-calls g c =
    let paths = paths_of c.args.paths.now in
    let s0 : Seen = record { holds = g.D.Desk.holds c.args.desk.now; left = g.D.Desk.left c.args.desk.now; faults = g.D.Desk.faults c.args.desk.now; calls = g.D.Desk.calls c.args.desk.now } in
    let s1 : Seen = record { holds = g.D.Desk.holds c.read_limits_file.new.desk; left = g.D.Desk.left c.read_limits_file.new.desk; faults = g.D.Desk.faults c.read_limits_file.new.desk; calls = g.D.Desk.calls c.read_limits_file.new.desk } in
    let s2 : Seen = record { holds = g.D.Desk.holds c.read_route_file.new.desk; left = g.D.Desk.left c.read_route_file.new.desk; faults = g.D.Desk.faults c.read_route_file.new.desk; calls = g.D.Desk.calls c.read_route_file.new.desk } in
    let s3 : Seen = record { holds = g.D.Desk.holds c.read_outages_file.new.desk; left = g.D.Desk.left c.read_outages_file.new.desk; faults = g.D.Desk.faults c.read_outages_file.new.desk; calls = g.D.Desk.calls c.read_outages_file.new.desk } in
    let r1 : Reads Limits s0 s1 (ReadsToEnd Limits paths.limits) = record { holds = c.in-Ok.ensures.holds; later = c.in-Ok.ensures.later; others = c.in-Ok.ensures.others; calls = c.in-Ok.ensures.calls } in
    let r2 : Reads Route s1 s2 (ReadsToEnd Route paths.route) = record { holds = c.in-Ok-read_route_file.ensures.holds; later = c.in-Ok-read_route_file.ensures.later; others = c.in-Ok-read_route_file.ensures.others; calls = c.in-Ok-read_route_file.ensures.calls } in
    let r3 : Reads Outages s2 s3 (FileStopCalls Outages paths.outages c.in-Err-read_outages_file.stop) = record { holds = c.in-Err-read_outages_file.ensures.holds; later = c.in-Err-read_outages_file.ensures.later; others = c.in-Err-read_outages_file.ensures.others; calls = c.in-Err-read_outages_file.ensures.calls } in
    let a0 = at_limits paths s0 in
    let a1 = at_route paths s0 s0 s1 a0 r1 in
    let a2 = at_outages paths s0 s1 s2 a1 r2 in
    let limits = c.in-Ok.limits in
    let b1 : AreLimitsOf s0.holds paths limits.leap = record { limits = limits; accepted = c.in-Ok.ensures.accepted; leap_is = refl } in
    let route = c.in-Ok-read_route_file.route in
    let b2 : IsRouteOf s0.holds paths limits.leap (flight_of route) = record { route = route; accepted = subst (λ (told : Option Text). HasLines told (λ lines. SayWaypoints limits.leap lines route)) (a1.holds paths.route) c.in-Ok-read_route_file.ensures.accepted; flight_is = refl } in
    (stopped paths s0 s2 s3 Outages limits.leap (flight_of route) a2 (b1, b2) c.in-Err-read_outages_file.stop r3 c.in-Err-read_outages_file.ensures.cause).calls

pub returns-in-Err-read_almanac_file-clause-cause : goal.returns-in-Err-read_almanac_file-clause-cause
returns-in-Err-read_almanac_file-clause-cause g c =
    let paths = paths_of c.args.paths.now in
    let s0 : Seen = record { holds = g.D.Desk.holds c.args.desk.now; left = g.D.Desk.left c.args.desk.now; faults = g.D.Desk.faults c.args.desk.now; calls = g.D.Desk.calls c.args.desk.now } in
    let s1 : Seen = record { holds = g.D.Desk.holds c.read_limits_file.new.desk; left = g.D.Desk.left c.read_limits_file.new.desk; faults = g.D.Desk.faults c.read_limits_file.new.desk; calls = g.D.Desk.calls c.read_limits_file.new.desk } in
    let s2 : Seen = record { holds = g.D.Desk.holds c.read_route_file.new.desk; left = g.D.Desk.left c.read_route_file.new.desk; faults = g.D.Desk.faults c.read_route_file.new.desk; calls = g.D.Desk.calls c.read_route_file.new.desk } in
    let s3 : Seen = record { holds = g.D.Desk.holds c.read_outages_file.new.desk; left = g.D.Desk.left c.read_outages_file.new.desk; faults = g.D.Desk.faults c.read_outages_file.new.desk; calls = g.D.Desk.calls c.read_outages_file.new.desk } in
    let s4 : Seen = record { holds = g.D.Desk.holds c.read_almanac_file.new.desk; left = g.D.Desk.left c.read_almanac_file.new.desk; faults = g.D.Desk.faults c.read_almanac_file.new.desk; calls = g.D.Desk.calls c.read_almanac_file.new.desk } in
    let r1 : Reads Limits s0 s1 (ReadsToEnd Limits paths.limits) = record { holds = c.in-Ok.ensures.holds; later = c.in-Ok.ensures.later; others = c.in-Ok.ensures.others; calls = c.in-Ok.ensures.calls } in
    let r2 : Reads Route s1 s2 (ReadsToEnd Route paths.route) = record { holds = c.in-Ok-read_route_file.ensures.holds; later = c.in-Ok-read_route_file.ensures.later; others = c.in-Ok-read_route_file.ensures.others; calls = c.in-Ok-read_route_file.ensures.calls } in
    let r3 : Reads Outages s2 s3 (ReadsToEnd Outages paths.outages) = record { holds = c.in-Ok-read_outages_file.ensures.holds; later = c.in-Ok-read_outages_file.ensures.later; others = c.in-Ok-read_outages_file.ensures.others; calls = c.in-Ok-read_outages_file.ensures.calls } in
    let r4 : Reads Almanac s3 s4 (FileStopCalls Almanac paths.almanac c.in-Err-read_almanac_file.stop) = record { holds = c.in-Err-read_almanac_file.ensures.holds; later = c.in-Err-read_almanac_file.ensures.later; others = c.in-Err-read_almanac_file.ensures.others; calls = c.in-Err-read_almanac_file.ensures.calls } in
    let a0 = at_limits paths s0 in
    let a1 = at_route paths s0 s0 s1 a0 r1 in
    let a2 = at_outages paths s0 s1 s2 a1 r2 in
    let a3 = at_almanac paths s0 s2 s3 a2 r3 in
    let limits = c.in-Ok.limits in
    let b1 : AreLimitsOf s0.holds paths limits.leap = record { limits = limits; accepted = c.in-Ok.ensures.accepted; leap_is = refl } in
    let route = c.in-Ok-read_route_file.route in
    let b2 : IsRouteOf s0.holds paths limits.leap (flight_of route) = record { route = route; accepted = subst (λ (told : Option Text). HasLines told (λ lines. SayWaypoints limits.leap lines route)) (a1.holds paths.route) c.in-Ok-read_route_file.ensures.accepted; flight_is = refl } in
    let outages = c.in-Ok-read_outages_file.outages.items in
    let b3 : AreOutagesOf s0.holds paths limits.leap = record { outages = outages; accepted = subst (λ (told : Option Text). HasLines told (λ lines. SayOutages limits.leap lines outages)) (a2.holds paths.outages) c.in-Ok-read_outages_file.ensures.accepted } in
    (stopped paths s0 s3 s4 Almanac limits.leap (flight_of route) a3 (b1, b2, b3) c.in-Err-read_almanac_file.stop r4 (subst (λ (span : Span). FileCause Almanac (s3.holds paths.almanac) (s3.faults Almanac) (s4.faults Almanac) (RefusesAlmanacs span) c.in-Err-read_almanac_file.stop) c.span.ensures.value c.in-Err-read_almanac_file.ensures.cause)).cause

pub returns-in-Err-read_almanac_file-clause-calls : goal.returns-in-Err-read_almanac_file-clause-calls
returns-in-Err-read_almanac_file-clause-calls g c =
    let paths = paths_of c.args.paths.now in
    let s0 : Seen = record { holds = g.D.Desk.holds c.args.desk.now; left = g.D.Desk.left c.args.desk.now; faults = g.D.Desk.faults c.args.desk.now; calls = g.D.Desk.calls c.args.desk.now } in
    let s1 : Seen = record { holds = g.D.Desk.holds c.read_limits_file.new.desk; left = g.D.Desk.left c.read_limits_file.new.desk; faults = g.D.Desk.faults c.read_limits_file.new.desk; calls = g.D.Desk.calls c.read_limits_file.new.desk } in
    let s2 : Seen = record { holds = g.D.Desk.holds c.read_route_file.new.desk; left = g.D.Desk.left c.read_route_file.new.desk; faults = g.D.Desk.faults c.read_route_file.new.desk; calls = g.D.Desk.calls c.read_route_file.new.desk } in
    let s3 : Seen = record { holds = g.D.Desk.holds c.read_outages_file.new.desk; left = g.D.Desk.left c.read_outages_file.new.desk; faults = g.D.Desk.faults c.read_outages_file.new.desk; calls = g.D.Desk.calls c.read_outages_file.new.desk } in
    let s4 : Seen = record { holds = g.D.Desk.holds c.read_almanac_file.new.desk; left = g.D.Desk.left c.read_almanac_file.new.desk; faults = g.D.Desk.faults c.read_almanac_file.new.desk; calls = g.D.Desk.calls c.read_almanac_file.new.desk } in
    let r1 : Reads Limits s0 s1 (ReadsToEnd Limits paths.limits) = record { holds = c.in-Ok.ensures.holds; later = c.in-Ok.ensures.later; others = c.in-Ok.ensures.others; calls = c.in-Ok.ensures.calls } in
    let r2 : Reads Route s1 s2 (ReadsToEnd Route paths.route) = record { holds = c.in-Ok-read_route_file.ensures.holds; later = c.in-Ok-read_route_file.ensures.later; others = c.in-Ok-read_route_file.ensures.others; calls = c.in-Ok-read_route_file.ensures.calls } in
    let r3 : Reads Outages s2 s3 (ReadsToEnd Outages paths.outages) = record { holds = c.in-Ok-read_outages_file.ensures.holds; later = c.in-Ok-read_outages_file.ensures.later; others = c.in-Ok-read_outages_file.ensures.others; calls = c.in-Ok-read_outages_file.ensures.calls } in
    let r4 : Reads Almanac s3 s4 (FileStopCalls Almanac paths.almanac c.in-Err-read_almanac_file.stop) = record { holds = c.in-Err-read_almanac_file.ensures.holds; later = c.in-Err-read_almanac_file.ensures.later; others = c.in-Err-read_almanac_file.ensures.others; calls = c.in-Err-read_almanac_file.ensures.calls } in
    let a0 = at_limits paths s0 in
    let a1 = at_route paths s0 s0 s1 a0 r1 in
    let a2 = at_outages paths s0 s1 s2 a1 r2 in
    let a3 = at_almanac paths s0 s2 s3 a2 r3 in
    let limits = c.in-Ok.limits in
    let b1 : AreLimitsOf s0.holds paths limits.leap = record { limits = limits; accepted = c.in-Ok.ensures.accepted; leap_is = refl } in
    let route = c.in-Ok-read_route_file.route in
    let b2 : IsRouteOf s0.holds paths limits.leap (flight_of route) = record { route = route; accepted = subst (λ (told : Option Text). HasLines told (λ lines. SayWaypoints limits.leap lines route)) (a1.holds paths.route) c.in-Ok-read_route_file.ensures.accepted; flight_is = refl } in
    let outages = c.in-Ok-read_outages_file.outages.items in
    let b3 : AreOutagesOf s0.holds paths limits.leap = record { outages = outages; accepted = subst (λ (told : Option Text). HasLines told (λ lines. SayOutages limits.leap lines outages)) (a2.holds paths.outages) c.in-Ok-read_outages_file.ensures.accepted } in
    (stopped paths s0 s3 s4 Almanac limits.leap (flight_of route) a3 (b1, b2, b3) c.in-Err-read_almanac_file.stop r4 (subst (λ (span : Span). FileCause Almanac (s3.holds paths.almanac) (s3.faults Almanac) (s4.faults Almanac) (RefusesAlmanacs span) c.in-Err-read_almanac_file.stop) c.span.ensures.value c.in-Err-read_almanac_file.ensures.cause)).calls

pub returns-in-Ok-read_almanac_file-clause-calls : goal.returns-in-Ok-read_almanac_file-clause-calls
returns-in-Ok-read_almanac_file-clause-calls g c =
    let paths = paths_of c.args.paths.now in
    let s0 : Seen = record { holds = g.D.Desk.holds c.args.desk.now; left = g.D.Desk.left c.args.desk.now; faults = g.D.Desk.faults c.args.desk.now; calls = g.D.Desk.calls c.args.desk.now } in
    let s1 : Seen = record { holds = g.D.Desk.holds c.read_limits_file.new.desk; left = g.D.Desk.left c.read_limits_file.new.desk; faults = g.D.Desk.faults c.read_limits_file.new.desk; calls = g.D.Desk.calls c.read_limits_file.new.desk } in
    let s2 : Seen = record { holds = g.D.Desk.holds c.read_route_file.new.desk; left = g.D.Desk.left c.read_route_file.new.desk; faults = g.D.Desk.faults c.read_route_file.new.desk; calls = g.D.Desk.calls c.read_route_file.new.desk } in
    let s3 : Seen = record { holds = g.D.Desk.holds c.read_outages_file.new.desk; left = g.D.Desk.left c.read_outages_file.new.desk; faults = g.D.Desk.faults c.read_outages_file.new.desk; calls = g.D.Desk.calls c.read_outages_file.new.desk } in
    let s4 : Seen = record { holds = g.D.Desk.holds c.read_almanac_file.new.desk; left = g.D.Desk.left c.read_almanac_file.new.desk; faults = g.D.Desk.faults c.read_almanac_file.new.desk; calls = g.D.Desk.calls c.read_almanac_file.new.desk } in
    let r1 : Reads Limits s0 s1 (ReadsToEnd Limits paths.limits) = record { holds = c.in-Ok.ensures.holds; later = c.in-Ok.ensures.later; others = c.in-Ok.ensures.others; calls = c.in-Ok.ensures.calls } in
    let r2 : Reads Route s1 s2 (ReadsToEnd Route paths.route) = record { holds = c.in-Ok-read_route_file.ensures.holds; later = c.in-Ok-read_route_file.ensures.later; others = c.in-Ok-read_route_file.ensures.others; calls = c.in-Ok-read_route_file.ensures.calls } in
    let r3 : Reads Outages s2 s3 (ReadsToEnd Outages paths.outages) = record { holds = c.in-Ok-read_outages_file.ensures.holds; later = c.in-Ok-read_outages_file.ensures.later; others = c.in-Ok-read_outages_file.ensures.others; calls = c.in-Ok-read_outages_file.ensures.calls } in
    let r4 : Reads Almanac s3 s4 (ReadsToEnd Almanac paths.almanac) = record { holds = c.in-Ok-read_almanac_file.ensures.holds; later = c.in-Ok-read_almanac_file.ensures.later; others = c.in-Ok-read_almanac_file.ensures.others; calls = c.in-Ok-read_almanac_file.ensures.calls } in
    let a0 = at_limits paths s0 in
    let a1 = at_route paths s0 s0 s1 a0 r1 in
    let a2 = at_outages paths s0 s1 s2 a1 r2 in
    let a3 = at_almanac paths s0 s2 s3 a2 r3 in
    calls_at_end paths s0 s3 s4 a3 r4
