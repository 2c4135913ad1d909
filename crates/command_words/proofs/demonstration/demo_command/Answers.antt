use Rattle.std.proofs.Common.{◌∙◌, ap₂}
use Rattle.std.proofs.lemmas.Result.{IfOk-weaker}
use Rattle.clap.specs.Words.{with_rule}
use Rattle.command_words.proofs.demonstration.demo_command.Goals as goal

pub returns : goal.returns
returns c =
    IfOk-weaker c.arg.result _ _ (λ cmd added. record {
      app = added.shape c.required_number.ensures.local ∙ ap₂ with_rule c.new.ensures.app c.required_number.ensures.rule;
      start = c.new.result;
      arg = c.required_number.result;
      number = c.required_number.ensures;
      added = added;
      empty = (c.new.ensures.empty.0, c.new.ensures.empty.1);
      local = c.new.ensures.local;
      negates = c.new.ensures.negates;
    }) c.arg.ensures
