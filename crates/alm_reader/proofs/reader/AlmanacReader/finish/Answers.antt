use Rattle.std.proofs.Common.{◌<◌, ◌∙◌, length, arith}
use Rattle.alm_reader.proofs.ReaderLemmas.{done_length, is_reading, end_accepted}
use Rattle.alm_reader.specs.Almanacs.{SayAlmanacs, sections_of}
use Rattle.alm_reader.proofs.RangeLemmas.{each_ranged}
use Rattle.alm_reader.proofs.reader.AlmanacReader.finish.Goals as goal

pub returns-in-Ok-clause-accepted : goal.returns-in-Ok-clause-accepted
returns-in-Ok-clause-accepted c = λ span lines h.
    let old = c.args.self in
    let r = is_reading span old lines c.in_default.is h in
    let a = c.in-Ok.records.items in
    let room : length old.done < 8 = omega (arith, done_length span old lines r, r.few) in
    end_accepted span old lines c.into_vec.result.items a r (c.in-Ok.ensures.accepted span r.section r.taken) (c.into_vec.ensures ∙ (c.try_push.ensures.room room).1)

pub returns-in-Ok-clause-ranges : goal.returns-in-Ok-clause-ranges
returns-in-Ok-clause-ranges c = λ span lines flight h.
    let said : SayAlmanacs span lines c.into_vec.result.items = returns-in-Ok-clause-accepted c span lines h in
    each_ranged span (sections_of lines) c.into_vec.result.items flight said.each
