-- Which bytes the line of an outage has: no byte ends a line, and none within a word is a blank.
use Rattle.std.proofs.Common.{◌≡◌, ◌<◌, ◌+◌, ◌/◌, ◌%◌, ◌==◌, ℕ, ℤ, false, Option, Some, None, [], ◌∷◌, ◌++◌, refl, sym, ap, ◌∙◌, arith, subst, append_assoc}
use Rattle.std.specs.Prelude.{codes}
use Rattle.std.proofs.lemmas.Bool.{ne_eqb}
use Rattle.raim_model.specs.declared.Outage.{Outage}
use Rattle.text_lines.specs.Lines.{Text, is_inside, without_return}
use Rattle.text_lines.specs.Words.{is_blank_byte}
use Rattle.text_lines.proofs.Cuts.{AllTrue}
use Rattle.gps_week.specs.declared.civil_time.CivilTime.{CivilTime}
use Rattle.gps_week.specs.TimeText.{two_digits, three_digits, four_digits, text_of}
use Rattle.gps_week.specs.GpsTime.{SpellsInstant}
use Rattle.outage_notice.specs.Printing.{IsEndText, IsLineOf}

-- each byte is above the mark
abbrev pub AllAbove : ℕ → Text → Type 0
AllAbove mark [] = Unit {0}
AllAbove mark (b ∷ bs) = (mark < b) × AllAbove mark bs

-- the same of a text that need not be worked out
record Above (mark : ℕ) (bs : Text) : Type 0 where
  all : AllAbove mark bs

above_none : (mark : ℕ) → Above mark []
above_none mark = record { all = tt }

above_more : (mark b : ℕ) (bs : Text) → mark < b → Above mark bs → Above mark (b ∷ bs)
above_more mark b bs high rest = record { all = (high, rest.all) }

above_two : (n : ℕ) (bs : Text) → Above 44 bs → Above 44 (two_digits n ++ bs)
above_two n bs rest = above_more 44 (48 + n / 10) _ (omega arith) (above_more 44 (48 + n % 10) _ (omega arith) rest)

above_three : (n : ℕ) (bs : Text) → Above 44 bs → Above 44 (three_digits n ++ bs)
above_three n bs rest = above_more 44 (48 + n / 100) _ (omega arith) (above_two (n % 100) bs rest)

above_four : (n : ℕ) (bs : Text) → Above 44 bs → Above 44 (four_digits n ++ bs)
above_four n bs rest = above_more 44 (48 + n / 1000) _ (omega arith) (above_three (n % 1000) bs rest)

-- the bytes of a time are digits, letters, points, colons and hyphens
time_above : (c : CivilTime) → Above 44 (text_of c)
time_above c =
    above_four c.date.year _ (above_more 44 45 _ (omega arith)
    (above_two c.date.month _ (above_more 44 45 _ (omega arith)
    (above_two c.date.day _ (above_more 44 84 _ (omega arith)
    (above_two c.time.hour _ (above_more 44 58 _ (omega arith)
    (above_two c.time.minute _ (above_more 44 58 _ (omega arith)
    (above_two c.time.second _ (above_more 44 46 _ (omega arith)
    (above_three c.time.millisecond _ (above_more 44 90 _ (omega arith) (above_none 44))))))))))))))

pub instant_above : (text : Text) (leap : ℕ) (ms : ℤ) → SpellsInstant text leap ms → AllAbove 44 text
instant_above text leap ms s = subst (AllAbove 44) (sym s.spelled.spelled) (time_above s.civil).all

pub end_above : (leap : ℕ) (end : Option ℤ) (text : Text) → IsEndText leap end text → AllAbove 44 text
end_above leap None text s = subst (AllAbove 44) (sym s) (omega arith, tt)
end_above leap (Some end) text s = instant_above text leap end s

pub prn_above : (prn : ℕ) → AllAbove 44 (two_digits prn)
prn_above prn = (omega arith, (omega arith, tt))

-- a lower mark
lower : (mark low : ℕ) (bs : Text) → low < mark → AllAbove mark bs → AllAbove low bs
lower mark low [] h a = tt
lower mark low (b ∷ bs) h a = (omega (arith, h, a.0), lower mark low bs h a.1)

above_append : (mark : ℕ) (xs ys : Text) → AllAbove mark xs → AllAbove mark ys → AllAbove mark (xs ++ ys)
above_append mark [] ys a b = b
above_append mark (x ∷ xs) ys a b = (a.0, above_append mark xs ys a.1 b)

-- the words of a line, one after another
pub flat : (a b c : Text) → a ++ codes " " ++ b ++ codes " " ++ c ≡ a ++ 32 ∷ (b ++ 32 ∷ c)
flat a b c =
    append_assoc (a ++ codes " " ++ b) (codes " ") c
    ∙ append_assoc (a ++ codes " ") b (codes " " ++ c)
    ∙ append_assoc a (codes " ") (b ++ (codes " " ++ c))

-- one byte in front
above_cons : (mark b : ℕ) (bs : Text) → mark < b → AllAbove mark bs → AllAbove mark (b ∷ bs)
above_cons mark b bs high rest = (high, rest)

-- no byte of a line is a line feed or a carriage return
pub line_above : (leap : ℕ) (o : Outage) (line : Text) → IsLineOf leap o line → AllAbove 13 line
line_above leap o line x =
    let prn : AllAbove 13 (two_digits o.prn) = lower 44 13 (two_digits o.prn) (omega arith) (prn_above o.prn) in
    let start : AllAbove 13 x.start = lower 44 13 x.start (omega arith) (instant_above x.start leap o.start x.starts) in
    let end : AllAbove 13 x.end = lower 44 13 x.end (omega arith) (end_above leap o.end x.end x.ends) in
    let behind : AllAbove 13 (x.start ++ 32 ∷ x.end) = above_append 13 x.start (32 ∷ x.end) start (above_cons 13 32 x.end (omega arith) end) in
    subst (AllAbove 13) (sym (x.spelled ∙ flat (two_digits o.prn) x.start x.end))
    (above_append 13 (two_digits o.prn) (32 ∷ (x.start ++ 32 ∷ x.end)) prn (above_cons 13 32 (x.start ++ 32 ∷ x.end) (omega arith) behind))

pub inside : (bs : Text) → AllAbove 13 bs → AllTrue is_inside bs
inside [] a = tt
inside (b ∷ bs) a =
    let test : (b == 10) ≡ false = ne_eqb b 10 (λ e. omega (arith, e, a.0)) in
    (rw test refl, inside bs a.1)

-- so it has no carriage return to be dropped
pub no_return : (bs : Text) → AllAbove 13 bs → without_return bs ≡ bs
no_return [] a = refl
no_return (b ∷ []) a = let test : (b == 13) ≡ false = ne_eqb b 13 (λ e. omega (arith, e, a.0)) in rw test refl
no_return (b ∷ c ∷ cs) a = ap (λ l. b ∷ l) (no_return (c ∷ cs) a.1)

-- and no byte of a word is a blank
pub no_blank : (b : ℕ) → 44 < b → is_blank_byte b ≡ false
no_blank b high =
    let space : (b == 32) ≡ false = ne_eqb b 32 (λ e. omega (arith, e, high)) in
    let tab : (b == 9) ≡ false = ne_eqb b 9 (λ e. omega (arith, e, high)) in
    rw (space, tab) refl
