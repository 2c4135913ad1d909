use Rattle.std.proofs.Common.{rules, ◌≡◌, ◌∙◌, [], codes, refl, ap₂}
use Rattle.std.proofs.lemmas.Result.{IfOk-weaker}
use Rattle.clap.specs.Words.{rule_of, with_rule}
use Rattle.command_words.specs.Commands.{text_rule}
use Rattle.command_words.proofs.FourValues.{differ}
use Rattle.command_words.proofs.prediction.predict_command.Goals as goal

pub returns : goal.returns
returns c =
    let first : c.required_text.result.id.now ≡ codes "limits" = search rules in
    let second : c.required_text-2.result.id.now ≡ codes "almanac" = search rules in
    let third : c.required_text-3.result.id.now ≡ codes "outages" = search rules in
    let fourth : c.required_text-4.result.id.now ≡ codes "route" = search rules in
    let rule1 : rule_of c.required_text.result ≡ text_rule (codes "limits") = search rules in
    let rule2 : rule_of c.required_text-2.result ≡ text_rule (codes "almanac") = search rules in
    let rule3 : rule_of c.required_text-3.result ≡ text_rule (codes "outages") = search rules in
    let rule4 : rule_of c.required_text-4.result ≡ text_rule (codes "route") = search rules in
    IfOk-weaker c.arg-4.result _ _ (λ cmd added. record {
      app = added.shape c.required_text-4.ensures.local ∙ ap₂ with_rule (c.in_ok-arg-3.ensures.shape c.required_text-3.ensures.local
          ∙ ap₂ with_rule (c.in_ok-arg-2.ensures.shape c.required_text-2.ensures.local
          ∙ ap₂ with_rule (c.in_ok-arg.ensures.shape c.required_text.ensures.local ∙ ap₂ with_rule c.new.ensures.app rule1) rule2) rule3) rule4;
      start = c.new.result;
      first = c.required_text.result;
      second = c.required_text-2.result;
      third = c.required_text-3.result;
      fourth = c.required_text-4.result;
      chain = (_, c.in_ok-arg.ensures, (_, c.in_ok-arg-2.ensures, (_, c.in_ok-arg-3.ensures, (_, added, refl))));
      empty = (c.new.ensures.empty.0, c.new.ensures.empty.1);
      local = c.new.ensures.local;
      negates = c.new.ensures.negates;
      takes = (c.required_text.ensures.takes, c.required_text-2.ensures.takes, c.required_text-3.ensures.takes, c.required_text-4.ensures.takes);
      fits = (
        c.required_text.ensures.fits (differ (codes "limits") [] _ first refl) (differ (codes "limits") (codes "help") _ first refl) (differ (codes "limits") (codes "version") _ first refl),
        c.required_text-2.ensures.fits (differ (codes "almanac") [] _ second refl) (differ (codes "almanac") (codes "help") _ second refl) (differ (codes "almanac") (codes "version") _ second refl),
        c.required_text-3.ensures.fits (differ (codes "outages") [] _ third refl) (differ (codes "outages") (codes "help") _ third refl) (differ (codes "outages") (codes "version") _ third refl),
        c.required_text-4.ensures.fits (differ (codes "route") [] _ fourth refl) (differ (codes "route") (codes "help") _ fourth refl) (differ (codes "route") (codes "version") _ fourth refl),
      );
      limits = first;
      almanac = second;
      outages = third;
      route = fourth;
    }) c.arg-4.ensures
