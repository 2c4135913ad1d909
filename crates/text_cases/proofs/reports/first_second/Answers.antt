use Rattle.std.proofs.Common.{rules}
use Rattle.raim_model.specs.declared.verdict.Why.TheVariants.{Few}
use Rattle.raim_model.specs.declared.verdict.Verdict.TheVariants.{Unavailable}
use Rattle.raim_model.specs.Runs.{IsOverflow}
use Rattle.text_cases.proofs.reports.first_second.Goals as goal

calm : ¬ IsOverflow (Unavailable Few)
calm o = let e = o.1 in cc

pub returns : goal.returns
returns c = record { first = search rules; end = search rules; written = calm }
