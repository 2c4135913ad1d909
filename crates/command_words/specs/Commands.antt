-- The two commands, as simple commands of `clap`: their arguments, and no option of their own.
use Rattle.std.specs.Prelude.{true, Some, codes, pos}
use Rattle.clap.specs.Words.{App, Rule, Text, new_app, new_rule, with_rule}
use Rattle.clap.specs.declared.builder.ArgAction.TheVariants.{Set}
use Rattle.clap.specs.declared.builder.value_parser.ValueParser.{ValueParser}
use Rattle.clap.specs.declared.builder.value_parser.ValueParser.TheVariants.{Signed}

-- a required text
abbrev pub text_rule : Text → Rule
text_rule id = record (new_rule id) { action = Some Set; required = true }

-- whole numbers from 0 to 2^32 - 1
abbrev pub number_parser : ValueParser
number_parser = Signed (pos 0) (pos 4294967295)

-- a required whole number
abbrev pub number_rule : Text → Rule
number_rule id = record (text_rule id) { parser = Some number_parser }

-- `LIMITS ALMANAC OUTAGES ROUTE`
abbrev pub predict_app : App
predict_app = with_rule (with_rule (with_rule (with_rule (new_app (codes "raim"))
    (text_rule (codes "limits"))) (text_rule (codes "almanac")))
    (text_rule (codes "outages"))) (text_rule (codes "route"))

-- `NUMBER`
abbrev pub demo_app : App
demo_app = with_rule (new_app (codes "raim")) (number_rule (codes "number"))
