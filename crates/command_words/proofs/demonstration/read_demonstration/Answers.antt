use Rattle.std.proofs.Common.{◌≢◌, ◌∙◌, [], map, ap, sym, codes, Option, subst}
use Rattle.std.specs.Prelude.{IfNone, IfSome, option_map}
use Rattle.std.specs.String.{string_bytes}
use Rattle.clap.specs.Words.{fault_of, matches_of}
use Rattle.clap.specs.declared.parser.matches.ArgMatches.{ArgMatches}
use Rattle.command_words.specs.Asked.{number_in, number_written}
use Rattle.command_words.specs.Commands.{demo_app}
use Rattle.command_words.specs.Parsed.{AreMatched, HasNumber}
use Rattle.command_words.proofs.Matched.{refused, accepted, value_is, number_is}
use Rattle.command_words.proofs.demonstration.read_demonstration.Goals as goal

pub returns-in_default : goal.returns-in_default
returns-in_default c =
    let words = map string_bytes c.args.words.now in
    let none : fault_of demo_app words ≢ [] = subst (λ (found : Option ArgMatches). IfNone found (fault_of demo_app words ≢ [])) c.in_default.is c.in_ok-matches.ensures.none in
    sym (refused demo_app words number_in none)

pub returns : goal.returns
returns c =
    let m = c.in-Some.matches in
    let words = map string_bytes c.args.words.now in
    let are : AreMatched demo_app words m × HasNumber m = subst (λ (found : Option ArgMatches). IfSome found (λ matches. AreMatched demo_app words matches × HasNumber matches)) c.in-Some.is c.in_ok-matches.ensures.some in
    sym (accepted demo_app words number_in are.0.accepted ∙ number_is (matches_of demo_app words) _
    (ap (option_map number_written) (sym (value_is demo_app words m (codes "number") are.0)) ∙ c.number_of-number.ensures))
