use Rattle.fix_interval.specs.Decimals.{from_dec_of}
use Rattle.fix_interval.proofs.EndDecimals.{from_dec_encloses}
use Rattle.fix_interval.proofs.interval.Iv.from_dec.Goals as goal

pub returns-clause-exact : goal.returns-clause-exact
unfolding from_dec_of
returns-clause-exact c = c.from_dec_over.ensures.exact

pub returns-clause-encloses : goal.returns-clause-encloses
returns-clause-encloses c = from_dec_encloses c.args.d.now (returns-clause-exact c)
