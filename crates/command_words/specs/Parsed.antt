-- What the commands are as `clap` builds them, and what a parse leaves.
use Rattle.std.specs.Prelude.{◌≡◌, true, false, List, [], ◌∷◌, Some, is_some, codes, pos}
use Rattle.std.specs.Borrow.{Bor}
use Rattle.clap.specs.Words.{App, Text, rule_of, fault_of, matches_of, first_value, one_text, found_of, without_minus, IsSignedIn, rows_of, args_of, groups_of, app_of, AddsArg, AddsInTurn, IsPlainArg}
use Rattle.clap.specs.declared.builder.command.Command.{Command}
use Rattle.clap.specs.declared.builder.command.Command.TheViews.{out-Command}
use Rattle.clap.specs.declared.parser.matches.ArgMatches.{ArgMatches}
use Rattle.clap.specs.Built.{FitsChain, TakesValue}
use Rattle.clap.specs.declared.builder.arg.Arg.{Arg}
use Rattle.command_words.specs.Commands.{predict_app, demo_app, text_rule, number_rule, number_parser}

-- a required text of this id
pub record IsText (id : Bor Text) (arg : Arg) : Type 0 where
  pub rule : rule_of arg ≡ text_rule id.now
  pub id_is : arg.id ≡ id
  pub local : arg.global ≡ false
  pub takes : TakesValue arg
  pub fits : (arg.id.now ≡ [] → ⊥) → (arg.id.now ≡ codes "help" → ⊥) → (arg.id.now ≡ codes "version" → ⊥) → FitsChain arg

-- the required number
pub record IsNumber (arg : Arg) : Type 0 where
  pub rule : rule_of arg ≡ number_rule (codes "number")
  pub id_is : arg.id.now ≡ codes "number"
  pub local : arg.global ≡ false
  pub plain : IsPlainArg arg
  pub takes : TakesValue arg
  pub parser : arg.value_parser ≡ Some number_parser

-- the command of four texts
pub record IsPredict (command : Command) : Type 0 where
  pub app : app_of command ≡ predict_app
  pub start : Command
  pub first : Arg
  pub second : Arg
  pub third : Arg
  pub fourth : Arg
  pub chain : AddsInTurn AddsArg start (first ∷ second ∷ third ∷ fourth ∷ []) command
  pub empty : (args_of start ≡ []) × (groups_of start ≡ [])
  pub local : (out-Command start).has_globals ≡ false
  pub negates : (out-Command start).subcommand_negates_reqs ≡ false
  pub takes : TakesValue first × TakesValue second × TakesValue third × TakesValue fourth
  pub fits : FitsChain first × FitsChain second × FitsChain third × FitsChain fourth
  pub limits : first.id.now ≡ codes "limits"
  pub almanac : second.id.now ≡ codes "almanac"
  pub outages : third.id.now ≡ codes "outages"
  pub route : fourth.id.now ≡ codes "route"

-- the command of one number
pub record IsDemo (command : Command) : Type 0 where
  pub app : app_of command ≡ demo_app
  pub start : Command
  pub arg : Arg
  pub number : IsNumber arg
  pub added : AddsArg start arg command
  pub empty : (args_of start ≡ []) × (groups_of start ≡ [])
  pub local : (out-Command start).has_globals ≡ false
  pub negates : (out-Command start).subcommand_negates_reqs ≡ false

-- the words match, and the matches are theirs
pub record AreMatched (app : App) (words : List Text) (matches : ArgMatches) : Type 0 where
  pub accepted : fault_of app words ≡ []
  pub rows : rows_of (found_of matches) ≡ matches_of app words

-- each of the four texts has a value
pub record HasFour (matches : ArgMatches) : Type 0 where
  pub limits : is_some (first_value (found_of matches) (codes "limits")) ≡ true
  pub almanac : is_some (first_value (found_of matches) (codes "almanac")) ≡ true
  pub outages : is_some (first_value (found_of matches) (codes "outages")) ≡ true
  pub route : is_some (first_value (found_of matches) (codes "route")) ≡ true

-- the number is read of this text, which is a whole number from 0 to 2^32 - 1
pub record HasNumber (matches : ArgMatches) : Type 0 where
  pub text : Text
  pub read : one_text (found_of matches) (codes "number") ≡ Some (without_minus text)
  pub number : IsSignedIn (pos 0) (pos 4294967295) text
