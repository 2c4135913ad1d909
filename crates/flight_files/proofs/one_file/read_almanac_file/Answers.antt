use Rattle.flight_files.proofs.AlmanacLemmas.{ranged}
use Rattle.flight_files.proofs.one_file.read_almanac_file.Goals as goal

-- of a file whose bytes are not told some lines were fed
pub returns-in-Ok-finish-clause-ranges : goal.returns-in-Ok-finish-clause-ranges
returns-in-Ok-finish-clause-ranges g c =
    let front = c.feed_lines.ensures.front in
    ranged c.args.flight c.in-Ok.reader c.feed_lines.new.taker front.fed c.in-Ok-finish.almanacs.items c.requires c.in-Ok.ensures c.feed_lines.ensures.made front.follows c.in-Ok-finish.ensures.accepted
