use Rattle.std.proofs.Common.{ℕ, Vec, Global, Ok, Err}
use Rattle.raim_run.specs.Texts.{four}
use Rattle.raim_run.proofs.PredictLemmas.{texts_settle}
use Rattle.raim_run.proofs.predict.predict_texts.Goals as goal

pub returns-in-Ok-clause-settled : goal.returns-in-Ok-clause-settled
returns-in-Ok-clause-settled g c =
    texts_settle (four c.args.limits.now c.args.almanac.now c.args.outages.now c.args.route.now) (λ (text : Vec ℕ Global). text.items) (Ok c.in-Ok.text) c.in-Ok.ensures.done tt

pub returns-in-Err-clause-settled : goal.returns-in-Err-clause-settled
returns-in-Err-clause-settled g c =
    texts_settle (four c.args.limits.now c.args.almanac.now c.args.outages.now c.args.route.now) (λ (text : Vec ℕ Global). text.items) (Err c.in-Err.ending.status) tt c.in-Err.ensures.cause
