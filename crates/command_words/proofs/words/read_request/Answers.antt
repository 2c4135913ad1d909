use Rattle.std.proofs.Common.{◌∙◌, ◌≤◌, length, sym, arith}
use Rattle.std.specs.String.{string_bytes}
use Rattle.command_words.proofs.Matched.{no_command}
use Rattle.command_words.proofs.words.read_request.Goals as goal

pub returns-in_default : goal.returns-in_default
returns-in_default c =
    let enough : 2 ≤ length c.args.words.now = omega (arith, c.if-words-lt2.false) in
    sym (no_command string_bytes c.args.words.now c.index-words-1.result enough c.index-words-1.is
    (λ e. c.in_default.not-predict (c.as_str.ensures.value ∙ e)) (λ e. c.in_default.not-demo (c.as_str.ensures.value ∙ e)))
