use Rattle.std.proofs.Common.{◌≡◌, ◌∙◌, map, refl, ap, sym, true, subst, inl, inr}
use Rattle.std.specs.String.{string_bytes}
use Rattle.clap.specs.Words.{App, fault_of, matches_of, is_simple, is_simple_and_free, kind_of, IsAmong, Kinds}
use Rattle.clap.proofs.OnLiterals.{clap_on_literals}
use Rattle.command_words.specs.Commands.{predict_app}
use Rattle.command_words.proofs.FourValues.{limits_value, almanac_value, outages_value, route_value}
use Rattle.command_words.proofs.prediction.predict_matches.Goals as goal

simple_and_free : is_simple_and_free predict_app ≡ true
unfolding clap_on_literals
simple_and_free = refl

simple : is_simple predict_app ≡ true
unfolding clap_on_literals
simple = refl

pub returns-in-Ok-clause-some : goal.returns-in-Ok-clause-some
returns-in-Ok-clause-some c =
    let cmd = c.in_ok-predict_command.field-0 in
    let p = c.in_ok-predict_command.ensures in
    let m = c.in-Ok.matches in
    let texts = map string_bytes c.args.words.now in (
      record {
        accepted = ap (λ (a : App). fault_of a texts) (sym p.app) ∙ c.in-Ok.ensures.kinds (ap is_simple_and_free p.app ∙ simple_and_free);
        rows = (c.in-Ok.ensures.matches (ap is_simple p.app ∙ simple)).0 ∙ ap (λ (a : App). matches_of a texts) p.app;
      },
      record {
        limits = limits_value cmd p m c.in-Ok.ensures.parsed;
        almanac = almanac_value cmd p m c.in-Ok.ensures.parsed;
        outages = outages_value cmd p m c.in-Ok.ensures.parsed;
        route = route_value cmd p m c.in-Ok.ensures.parsed;
      },
    )

-- an `Err` that isn't for want of memory has one of the command's faults
pub returns : goal.returns
returns c =
    let p = c.in_ok-predict_command.ensures in
    let texts = map string_bytes c.args.words.now in
    record {
      none = λ e. elim (c.in-Err.ensures.kinds (ap is_simple_and_free p.app ∙ simple_and_free)) [
        | inl memory ↦ c.in_default.not-OutOfMemory (c.kind.ensures ∙ memory)
        | inr among ↦ subst (λ (ks : Kinds). IsAmong (kind_of c.in-Err.error) ks) (ap (λ (a : App). fault_of a texts) p.app ∙ e) among
      ];
      some = tt;
    }
