use Rattle.std.proofs.Common.{map}
use Rattle.std.specs.String.{string_bytes}
use Rattle.fleet_run.specs.Words.{paths_in}
use Rattle.fleet_run.proofs.TopLemmas.{Seen, usage, done, write_fault, memory, refused, read_fault, no_overflow, no_too_many, settled, complete}
use Rattle.fleet_run.proofs.fleet.run_fleet.Goals as goal

pub write_note-requires : goal.write_note-requires
write_note-requires g c =
    let s : Seen = record {
      holds = g.D.Desk.holds c.args.desk.now;
      before = g.D.Desk.faults c.args.desk.now;
      now = g.D.Desk.faults c.answer_words-status.new.desk;
      old = g.K.Sink.contents c.args.out.now;
      new = g.K.Sink.contents c.answer_words-status.new.out;
      failed = g.K.Sink.faults c.args.out.now;
      fails = g.K.Sink.faults c.answer_words-status.new.out;
    } in
    no_overflow s (paths_in (map string_bytes c.args.words.now)) c.answer_words-status.result c.answer_words-status.ensures.cause

pub returns-clause-usage : goal.returns-clause-usage
returns-clause-usage g c =
    let s : Seen = record {
      holds = g.D.Desk.holds c.args.desk.now;
      before = g.D.Desk.faults c.args.desk.now;
      now = g.D.Desk.faults c.answer_words-status.new.desk;
      old = g.K.Sink.contents c.args.out.now;
      new = g.K.Sink.contents c.answer_words-status.new.out;
      failed = g.K.Sink.faults c.args.out.now;
      fails = g.K.Sink.faults c.answer_words-status.new.out;
    } in
    usage s (paths_in (map string_bytes c.args.words.now)) c.answer_words-status.result c.answer_words-status.ensures.cause

pub returns-clause-done : goal.returns-clause-done
returns-clause-done g c =
    let s : Seen = record {
      holds = g.D.Desk.holds c.args.desk.now;
      before = g.D.Desk.faults c.args.desk.now;
      now = g.D.Desk.faults c.answer_words-status.new.desk;
      old = g.K.Sink.contents c.args.out.now;
      new = g.K.Sink.contents c.answer_words-status.new.out;
      failed = g.K.Sink.faults c.args.out.now;
      fails = g.K.Sink.faults c.answer_words-status.new.out;
    } in
    done s (paths_in (map string_bytes c.args.words.now)) c.answer_words-status.result c.answer_words-status.ensures.cause

pub returns-clause-write_fault : goal.returns-clause-write_fault
returns-clause-write_fault g c =
    let s : Seen = record {
      holds = g.D.Desk.holds c.args.desk.now;
      before = g.D.Desk.faults c.args.desk.now;
      now = g.D.Desk.faults c.answer_words-status.new.desk;
      old = g.K.Sink.contents c.args.out.now;
      new = g.K.Sink.contents c.answer_words-status.new.out;
      failed = g.K.Sink.faults c.args.out.now;
      fails = g.K.Sink.faults c.answer_words-status.new.out;
    } in
    write_fault s (paths_in (map string_bytes c.args.words.now)) c.answer_words-status.result c.answer_words-status.ensures.cause

pub returns-clause-memory : goal.returns-clause-memory
returns-clause-memory g c =
    let s : Seen = record {
      holds = g.D.Desk.holds c.args.desk.now;
      before = g.D.Desk.faults c.args.desk.now;
      now = g.D.Desk.faults c.answer_words-status.new.desk;
      old = g.K.Sink.contents c.args.out.now;
      new = g.K.Sink.contents c.answer_words-status.new.out;
      failed = g.K.Sink.faults c.args.out.now;
      fails = g.K.Sink.faults c.answer_words-status.new.out;
    } in
    memory s (paths_in (map string_bytes c.args.words.now)) c.answer_words-status.result c.answer_words-status.ensures.cause

pub returns-clause-refused : goal.returns-clause-refused
returns-clause-refused g c =
    let s : Seen = record {
      holds = g.D.Desk.holds c.args.desk.now;
      before = g.D.Desk.faults c.args.desk.now;
      now = g.D.Desk.faults c.answer_words-status.new.desk;
      old = g.K.Sink.contents c.args.out.now;
      new = g.K.Sink.contents c.answer_words-status.new.out;
      failed = g.K.Sink.faults c.args.out.now;
      fails = g.K.Sink.faults c.answer_words-status.new.out;
    } in
    refused s (paths_in (map string_bytes c.args.words.now)) c.answer_words-status.result c.answer_words-status.ensures.cause

pub returns-clause-read_fault : goal.returns-clause-read_fault
returns-clause-read_fault g c =
    let s : Seen = record {
      holds = g.D.Desk.holds c.args.desk.now;
      before = g.D.Desk.faults c.args.desk.now;
      now = g.D.Desk.faults c.answer_words-status.new.desk;
      old = g.K.Sink.contents c.args.out.now;
      new = g.K.Sink.contents c.answer_words-status.new.out;
      failed = g.K.Sink.faults c.args.out.now;
      fails = g.K.Sink.faults c.answer_words-status.new.out;
    } in
    read_fault s (paths_in (map string_bytes c.args.words.now)) c.answer_words-status.result c.answer_words-status.ensures.cause

pub returns-clause-no_overflow : goal.returns-clause-no_overflow
returns-clause-no_overflow g c =
    let s : Seen = record {
      holds = g.D.Desk.holds c.args.desk.now;
      before = g.D.Desk.faults c.args.desk.now;
      now = g.D.Desk.faults c.answer_words-status.new.desk;
      old = g.K.Sink.contents c.args.out.now;
      new = g.K.Sink.contents c.answer_words-status.new.out;
      failed = g.K.Sink.faults c.args.out.now;
      fails = g.K.Sink.faults c.answer_words-status.new.out;
    } in
    no_overflow s (paths_in (map string_bytes c.args.words.now)) c.answer_words-status.result c.answer_words-status.ensures.cause

pub returns-clause-no_too_many : goal.returns-clause-no_too_many
returns-clause-no_too_many g c =
    let s : Seen = record {
      holds = g.D.Desk.holds c.args.desk.now;
      before = g.D.Desk.faults c.args.desk.now;
      now = g.D.Desk.faults c.answer_words-status.new.desk;
      old = g.K.Sink.contents c.args.out.now;
      new = g.K.Sink.contents c.answer_words-status.new.out;
      failed = g.K.Sink.faults c.args.out.now;
      fails = g.K.Sink.faults c.answer_words-status.new.out;
    } in
    no_too_many s (paths_in (map string_bytes c.args.words.now)) c.answer_words-status.result c.answer_words-status.ensures.cause

pub returns-clause-settled : goal.returns-clause-settled
returns-clause-settled g c =
    let s : Seen = record {
      holds = g.D.Desk.holds c.args.desk.now;
      before = g.D.Desk.faults c.args.desk.now;
      now = g.D.Desk.faults c.answer_words-status.new.desk;
      old = g.K.Sink.contents c.args.out.now;
      new = g.K.Sink.contents c.answer_words-status.new.out;
      failed = g.K.Sink.faults c.args.out.now;
      fails = g.K.Sink.faults c.answer_words-status.new.out;
    } in
    settled s (paths_in (map string_bytes c.args.words.now)) c.answer_words-status.result c.answer_words-status.ensures.cause

pub returns-clause-complete : goal.returns-clause-complete
returns-clause-complete g c =
    let s : Seen = record {
      holds = g.D.Desk.holds c.args.desk.now;
      before = g.D.Desk.faults c.args.desk.now;
      now = g.D.Desk.faults c.answer_words-status.new.desk;
      old = g.K.Sink.contents c.args.out.now;
      new = g.K.Sink.contents c.answer_words-status.new.out;
      failed = g.K.Sink.faults c.args.out.now;
      fails = g.K.Sink.faults c.answer_words-status.new.out;
    } in
    complete s (paths_in (map string_bytes c.args.words.now)) c.answer_words-status.result c.answer_words-status.ensures.cause
