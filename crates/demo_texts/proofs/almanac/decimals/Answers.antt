use Rattle.std.specs.Prelude.{string_bytes}
use Rattle.demo_texts.specs.Demo.{decimals_text}
use Rattle.demo_texts.proofs.FormatLemmas.{said, decimals_are}
use Rattle.demo_texts.proofs.almanac.decimals.Goals as goal

pub returns : goal.returns
returns c = said string_bytes c.format.result _ (decimals_text c.args.n) c.format.ensures.ok (decimals_are c.args.n)
