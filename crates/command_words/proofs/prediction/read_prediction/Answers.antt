use Rattle.std.proofs.Common.{◌≢◌, ◌∙◌, [], map, ap, sym, codes, Option, subst}
use Rattle.std.specs.Prelude.{IfNone, IfSome, option_map}
use Rattle.std.specs.String.{string_bytes}
use Rattle.clap.specs.Words.{fault_of, matches_of}
use Rattle.clap.specs.declared.parser.matches.ArgMatches.{ArgMatches}
use Rattle.command_words.specs.Asked.{paths_in}
use Rattle.command_words.specs.Commands.{predict_app}
use Rattle.command_words.specs.Parsed.{AreMatched, HasFour}
use Rattle.command_words.proofs.Matched.{refused, accepted, value_is, four_are}
use Rattle.command_words.proofs.prediction.read_prediction.Goals as goal

pub returns-in_default : goal.returns-in_default
returns-in_default c =
    let words = map string_bytes c.args.words.now in
    let none : fault_of predict_app words ≢ [] = subst (λ (found : Option ArgMatches). IfNone found (fault_of predict_app words ≢ [])) c.in_default.is c.in_ok-matches.ensures.none in
    sym (refused predict_app words paths_in none)

pub returns : goal.returns
returns c =
    let m = c.in-Some.matches in
    let words = map string_bytes c.args.words.now in
    let are : AreMatched predict_app words m × HasFour m = subst (λ (found : Option ArgMatches). IfSome found (λ matches. AreMatched predict_app words matches × HasFour matches)) c.in-Some.is c.in_ok-matches.ensures.some in
    let rows = matches_of predict_app words in
    sym (accepted predict_app words paths_in are.0.accepted ∙ four_are rows _ _ _ _
    (sym (value_is predict_app words m (codes "limits") are.0) ∙ sym c.get_str.ensures ∙ ap (option_map (λ s. s.now)) c.unwrap-limits.ensures)
    (sym (value_is predict_app words m (codes "almanac") are.0) ∙ sym c.get_str-2.ensures ∙ ap (option_map (λ s. s.now)) c.unwrap-almanac.ensures)
    (sym (value_is predict_app words m (codes "outages") are.0) ∙ sym c.get_str-3.ensures ∙ ap (option_map (λ s. s.now)) c.unwrap-outages.ensures)
    (sym (value_is predict_app words m (codes "route") are.0) ∙ sym c.get_str-4.ensures ∙ ap (option_map (λ s. s.now)) c.unwrap-route.ensures))
