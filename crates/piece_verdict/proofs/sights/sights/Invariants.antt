use Rattle.std.proofs.Common.{◌≡◌, ◌≤◌, take, length}
use Rattle.fix_interval.specs.Intervals.{ends}
use Rattle.wgs_position.specs.Frames.{frame_ends}
use Rattle.piece_verdict.specs.Seen.{IsSeen}
use Rattle.piece_verdict.specs.Views.{seen_from, all_seen_from}
use Rattle.piece_verdict.specs.Hidden.{AddsHidden}
use Rattle.piece_verdict.proofs.sights.sights.Given as goal

abbrev pub invariant-loop-satellite : goal.invariant-loop-satellite
invariant-loop-satellite l = record {
  seen : IsSeen l.seen (all_seen_from (frame_ends l.frame) (ends l.mask) l.weights l.outages l.before.places l.first l.last (take l.satellite-index l.satellites));
  known : AddsHidden (seen_from (frame_ends l.frame) (ends l.mask) l.weights l.first l.last) l.satellites l.before.places l.known.places;
  rows : length l.seen.rows.items ≤ l.satellite-index;
  possible : l.seen.possible ≤ l.satellite-index;
}
