use Rattle.std.proofs.Common.{arith}
use Rattle.fleet_text.proofs.RouteLemmas.{route_begins, still_within, line_on}
use Rattle.fleet_text.proofs.route.split_route.Goals as goal

pub loop-len-init : goal.loop-len-init
loop-len-init c = record { within = omega arith; before = route_begins c.args.text.now }

pub loop-len-preserved : goal.loop-len-preserved
loop-len-preserved c =
    let l = c.loop-len in
    let found = c.in-Some.ensures in
    record {
      within = still_within c.args.text.now l.end c.in-Some.len c.in-Some.parts l.invariant.within l.invariant.before found.some.1 found.piece found.parts;
      before = line_on c.args.text.now l.end c.in-Some.len c.in-Some.parts l.invariant.within l.invariant.before found.some.1 found.piece found.parts c.if-parts.false;
    }
