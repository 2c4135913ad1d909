-- What a fleet prints says something that can be shown.
use Rattle.std.proofs.Common.{◌≡◌, ◌<◌, ◌+◌, ◌*◌, ◌/◌, ◌%◌, ◌==◌, ◌||◌, ◌^◌, ℕ, suc, ℤ, Bool, true, false, not, cond, List, [], ◌∷◌, ◌++◌, length, refl, sym, ap, ◌∙◌, subst, append_assoc, arith, nat_lt}
use Rattle.std.specs.Prelude.{codes, decimal, All, map, pos, ◌-ℤ◌, ◌+ℤ◌}
use Rattle.std.specs.List.{list_all}
use Rattle.std.specs.Char.{digit_value}
use Rattle.std.specs.Str.Parse.{AllDigits}
use Rattle.std.proofs.lemmas.Bool.{eqb-true}
use Rattle.std.proofs.lemmas.Fmt.{decimal_is_IsNumeral}
use Rattle.std.proofs.lemmas.Int.{ints}
use Rattle.std.proofs.lemmas.List.Elements.{All-cons, All-nil}
use Rattle.raim_model.specs.declared.FileNo.{FileNo}
use Rattle.raim_model.specs.declared.FileNo.TheVariants as file
use Rattle.raim_model.specs.declared.TextWhy.{TextWhy}
use Rattle.raim_model.specs.declared.TextWhy.TheVariants as why
use Rattle.raim_model.specs.declared.verdict.Run.{Run}
use Rattle.raim_base.specs.CauseWords.{file_name, why_text, refusal_line}
use Rattle.text_lines.specs.Lines.{Text, is_inside}
use Rattle.text_lines.proofs.Feeds.{all_inside, all_joined}
use Rattle.gps_week.specs.GpsTime.{SpellsInstant}
use Rattle.gps_week.specs.TimeText.{two_digits, three_digits}
use Rattle.report_text.specs.Report.{IsReport, prn_text}
use Rattle.report_text.proofs.CutLemmas.{other}
use Rattle.report_text.proofs.PlainLemmas.{instant_other}
use Rattle.fleet_text.specs.Fleet.{Outcome, Predicted, Refused, Overflows, Manifold, IsBody, IsOverflowLine}
use Rattle.chart_text.specs.Blocks.{Said, Flew, Reason, begins, is_reason, IsBodyOf, IsSayable}
use Rattle.chart_text.specs.Fleets.{AreBodiesOf}
use Rattle.chart_text.specs.Printed.{utc_run, HasShortNumbers, IsPrintedBy, ArePrinted, ReadsFleets}
use Rattle.chart_text.proofs.BeginLemmas.{begins_front}

-- a time is the same text under no leap seconds
utc_time : (text : Text) (leap : ℕ) (ms : ℤ) → SpellsInstant text leap ms → SpellsInstant text 0 (ms -ℤ pos (1000 * leap))
utc_time text leap ms s = record {
  civil = s.civil;
  spelled = s.spelled;
  exists = s.exists;
  not_early = s.not_early;
  value = shift ms _ (1000 * leap) s.value;
}
  where
    shift : (a b : ℤ) (k : ℕ) → a ≡ b +ℤ pos k → a -ℤ pos k ≡ b +ℤ pos (1000 * 0)
    shift a b k e = omega (arith, ints, e)

-- and so is a report
utc_report : (leap : ℕ) (runs : List Run) (text : Text) → IsReport leap runs text → IsReport 0 (map (utc_run leap) runs) text
utc_report leap [] text printed = printed
utc_report leap (run ∷ runs) text printed =
    let is = printed.2 in (
      printed.0,
      printed.1,
      record {
        start = is.start;
        end = is.end;
        starts = utc_time is.start leap run.first is.starts;
        ends = utc_time is.end leap run.end is.ends;
        written = is.written;
        spelled = is.spelled;
      },
      utc_report leap runs printed.1 printed.3,
      printed.4,
    )

-- no digit is a line feed
digits_inside : (ds : Text) → AllDigits 10 ds → list_all is_inside ds ≡ true
digits_inside [] h = refl
digits_inside (d ∷ ds) h = rw (go (d == 10) refl h.0, digits_inside ds h.1) refl
  where
    go : (t : Bool) → (d == 10) ≡ t → digit_value d < 10 → not t ≡ true
    go false e low = refl
    go true e low = let same : d ≡ 10 = eqb-true d 10 e in absurd (let bad : digit_value 10 < 10 = subst (λ (n : ℕ). digit_value n < 10) same low in omega arith)

decimal_inside : (n : ℕ) → n < 2 ^ 32 → list_all is_inside (decimal n) ≡ true
decimal_inside n low = digits_inside (decimal n) (decimal_is_IsNumeral n (omega (arith, low))).0.1

name_inside : (f : FileNo) → list_all is_inside (file_name f) ≡ true
name_inside file.Limits = refl
name_inside file.Almanac = refl
name_inside file.Outages = refl
name_inside file.Route = refl

why_inside : (w : TextWhy) → HasShortNumbers w → list_all is_inside (why_text w) ≡ true
why_inside why.Label h = refl
why_inside why.Word h = refl
why_inside why.Number h = refl
why_inside why.Time h = refl
why_inside why.Range h = refl
why_inside why.Twice h = refl
why_inside why.PrnTwice h = refl
why_inside why.Missing h = refl
why_inside why.BiasGap h = refl
why_inside why.EmptySpan h = refl
why_inside why.NotRising h = refl
why_inside why.TooFew h = refl
why_inside why.TooMany h = refl
why_inside why.TooLong h = refl
why_inside why.Short h = refl
why_inside why.FileTooLong h = refl
why_inside (why.CountDiffers said found) h =
    all_joined is_inside (codes "CountDiffers" ++ codes " " ++ decimal said ++ codes " ") (decimal found)
    (all_joined is_inside (codes "CountDiffers" ++ codes " " ++ decimal said) (codes " ") (all_joined is_inside (codes "CountDiffers" ++ codes " ") (decimal said) refl (decimal_inside said h.0)) refl)
    (decimal_inside found h.1)

-- a line in the place of a report, whose first words are these
record Stands (body : Text) : Type 0 where
  line : Text
  is : body ≡ line ++ 10 ∷ []
  inside : list_all is_inside line ≡ true
  reason : is_reason line ≡ true

refused_reason : (rest : Text) → is_reason (codes "refused " ++ rest) ≡ true
refused_reason rest = first (begins line (codes "refused ")) (begins line (codes "overflow at ")) (begins line (codes "more than ")) (begins_front line (codes "refused ") rest refl)
  where
    line : Text
    line = codes "refused " ++ rest

    first : (a b c : Bool) → a ≡ true → (a || b || c) ≡ true
    first a b c h = rw h refl

overflow_reason : (rest : Text) → is_reason (codes "overflow at " ++ rest) ≡ true
overflow_reason rest = second (begins line (codes "refused ")) (begins line (codes "overflow at ")) (begins line (codes "more than ")) (begins_front line (codes "overflow at ") rest refl)
  where
    line : Text
    line = codes "overflow at " ++ rest

    second : (a b c : Bool) → b ≡ true → (a || b || c) ≡ true
    second true b c h = refl
    second false b c h = rw h refl

refusal_stands : (f : FileNo) (line : ℕ) (w : TextWhy) (body : Text) → line < 2 ^ 32 → HasShortNumbers w → body ≡ codes "refused " ++ refusal_line f line w → Stands body
refusal_stands f line w body low short e = record {
  line = codes "refused " ++ (file_name f ++ codes " line " ++ decimal line ++ codes ": " ++ why_text w);
  is = e ∙ sym (append_assoc (codes "refused ") (file_name f ++ codes " line " ++ decimal line ++ codes ": " ++ why_text w) (10 ∷ []));
  inside = all_joined is_inside (codes "refused ") (file_name f ++ codes " line " ++ decimal line ++ codes ": " ++ why_text w) refl
      (all_joined is_inside (file_name f ++ codes " line " ++ decimal line ++ codes ": ") (why_text w)
      (all_joined is_inside (file_name f ++ codes " line " ++ decimal line) (codes ": ")
      (all_joined is_inside (file_name f ++ codes " line ") (decimal line) (all_joined is_inside (file_name f) (codes " line ") (name_inside f) refl) (decimal_inside line low)) refl)
      (why_inside w short));
  reason = refused_reason (file_name f ++ codes " line " ++ decimal line ++ codes ": " ++ why_text w);
}

prn_inside : (prn : ℕ) → list_all is_inside (prn_text prn) ≡ true
prn_inside prn = go (nat_lt prn 100)
  where
    go : (t : Bool) → list_all is_inside (cond t (two_digits prn) (three_digits prn)) ≡ true
    go true = all_inside is_inside (two_digits prn) (other 10 (48 + prn / 10) (omega arith), (other 10 (48 + prn % 10) (omega arith), tt))
    go false = all_inside is_inside (three_digits prn) (other 10 (48 + prn / 100) (omega arith), (other 10 (48 + prn % 100 / 10) (omega arith), (other 10 (48 + prn % 100 % 10) (omega arith), tt)))

overflow_stands : (leap : ℕ) (at : ℤ) (prn : ℕ) (body : Text) → IsOverflowLine leap at prn body → Stands body
overflow_stands leap at prn body o = record {
  line = codes "overflow at " ++ (o.time ++ codes " PRN " ++ prn_text prn);
  is = o.spelled ∙ ap (λ (t : Text). t ++ 10 ∷ []) (append_assoc (codes "overflow at " ++ o.time) (codes " PRN ") (prn_text prn) ∙ append_assoc (codes "overflow at ") o.time (codes " PRN " ++ prn_text prn)
      ∙ ap (λ (t : Text). codes "overflow at " ++ t) (sym (append_assoc o.time (codes " PRN ") (prn_text prn))));
  inside = all_joined is_inside (codes "overflow at ") (o.time ++ codes " PRN " ++ prn_text prn) refl
      (all_joined is_inside (o.time ++ codes " PRN ") (prn_text prn)
      (all_joined is_inside o.time (codes " PRN ") (all_inside is_inside o.time (instant_other 10 (omega arith) o.time leap at o.spells)) refl) (prn_inside prn));
  reason = overflow_reason (o.time ++ codes " PRN " ++ prn_text prn);
}

-- what a block says, where a line stands in it
record SaysOf (body : Text) : Type 0 where
  said : Said
  is : IsBodyOf said body
  can : IsSayable said

stands_says : (body : Text) → Stands body → SaysOf body
stands_says body s = record { said = Reason s.line; is = s.is; can = (s.inside, s.reason) }

outcome_says : (leap : ℕ) (outcome : Outcome) (body : Text) → IsBody leap outcome body → IsPrintedBy leap outcome → SaysOf body
outcome_says leap (Predicted runs) body is can = record { said = Flew (map (utc_run leap) runs); is = utc_report leap runs body is; can = can }
outcome_says leap (Refused f line w) body is can = stands_says body (refusal_stands f line w body can.0 can.1 is)
outcome_says leap (Overflows at prn) body is can = stands_says body (overflow_stands leap at prn body is)
outcome_says leap Manifold body is can = stands_says body (record { line = codes "more than 65536 intervals"; is = is; inside = refl; reason = refl })

-- so a fleet does
record Says (outcomes : List Outcome) (bodies : List Text) : Type 0 where
  saids : List Said
  are : AreBodiesOf saids bodies
  can : All IsSayable saids
  long : length saids ≡ length outcomes

all_say : (leap : ℕ) (outcomes : List Outcome) (bodies : List Text) → ArePrinted leap outcomes bodies → Says outcomes bodies
all_say leap [] [] printed = record { saids = []; are = tt; can = All-nil IsSayable; long = refl }
all_say leap [] (b ∷ bs) printed = absurd printed
all_say leap (o ∷ os) [] printed = absurd printed
all_say leap (o ∷ os) (b ∷ bs) printed =
    let first = outcome_says leap o b printed.0 printed.1 in
    let rest = all_say leap os bs printed.2 in
    record { saids = first.said ∷ rest.saids; are = (first.is, rest.are); can = All-cons IsSayable first.said rest.saids first.can rest.can; long = ap suc rest.long }

pub fleets_are_read : ReadsFleets
fleets_are_read leap outcomes bodies some printed =
    let all = all_say leap outcomes bodies printed in
    (all.saids, (subst (λ (n : ℕ). 0 < n) (sym all.long) some, (bodies, all.are, refl)), all.can)
