use Rattle.std.proofs.Common.{codes}
use Rattle.std.specs.Str.Parse.{ParsesUnsigned, ExplainsUnsignedError, HasUnsignedDigitsIfOk}
use Rattle.clap.specs.Words.{found_of}
use Rattle.command_words.proofs.NumberReads.{number_linked, number_got}
use Rattle.command_words.proofs.demonstration.number_of.Goals as goal

pub returns : goal.returns
returns c =
    let has = c.requires in
    number_linked (found_of c.args.matches.now) (codes "number") has.text c.unwrap.result has.read has.number.0
    (number_got _ (λ bs r. ParsesUnsigned 32 10 bs r × ExplainsUnsignedError 10 bs r × HasUnsignedDigitsIfOk bs r) has.text c.get_one.result c.unwrap.result
    (λ u x gives. gives.0) c.unwrap.ensures (c.get_one.ensures.value _ has.read))
