-- No byte of a line is a line feed, and no byte of a time is a space.
use Rattle.std.proofs.Common.{◌≡◌, ◌<◌, ◌+◌, ◌/◌, ◌%◌, ◌&&◌, ℕ, ℤ, Bool, true, false, cond, [], ◌∷◌, ◌++◌, refl, sym, ◌∙◌, arith, subst, nat_lt, append_assoc}
use Rattle.std.specs.Prelude.{codes}
use Rattle.std.specs.List.{list_all}
use Rattle.raim_model.specs.declared.verdict.Why.TheVariants.{Few, Singular, Slope}
use Rattle.raim_model.specs.declared.verdict.Cmp.{Cmp}
use Rattle.raim_model.specs.declared.verdict.Cmp.TheVariants as cmp
use Rattle.raim_model.specs.declared.verdict.Verdict.{Verdict}
use Rattle.raim_model.specs.declared.verdict.Verdict.TheVariants.{Available, Unavailable, Undecided, Overflow}
use Rattle.raim_model.specs.declared.verdict.Run.{Run}
use Rattle.text_lines.specs.Lines.{Text}
use Rattle.text_lines.proofs.Cuts.{AllTrue}
use Rattle.gps_week.specs.declared.civil_time.CivilTime.{CivilTime}
use Rattle.gps_week.specs.TimeText.{two_digits, three_digits, four_digits, text_of}
use Rattle.gps_week.specs.GpsTime.{SpellsInstant}
use Rattle.report_text.specs.Marks.{is_other}
use Rattle.report_text.specs.Report.{verdict_text, cmp_text, prn_text, IsLineOf}
use Rattle.report_text.proofs.CutLemmas.{other}

-- two texts without a mark, one behind the other
all_append : (p : ℕ → Bool) (xs ys : Text) → AllTrue p xs → AllTrue p ys → AllTrue p (xs ++ ys)
all_append p [] ys a b = b
all_append p (x ∷ xs) ys a b = (a.0, all_append p xs ys a.1 b)

-- of two tests in one both hold
pub and_parts : (a b : Bool) → (a && b) ≡ true → (a ≡ true) × (b ≡ true)
and_parts true b h = (refl, h)
and_parts false b h = cc

-- a test of each byte, as one test
all_true : (p : ℕ → Bool) (xs : Text) → list_all p xs ≡ true → AllTrue p xs
all_true p [] h = tt
all_true p (x ∷ xs) h = let parts = and_parts (p x) (list_all p xs) h in (parts.0, all_true p xs parts.1)

-- one byte in front
one_more : (p : ℕ → Bool) (x : ℕ) (xs : Text) → p x ≡ true → AllTrue p xs → AllTrue p (x ∷ xs)
one_more p x xs a b = (a, b)

-- no byte of a PRN is a line feed
prn_other : (prn : ℕ) → AllTrue (is_other 10) (prn_text prn)
prn_other prn = go (nat_lt prn 100)
  where
    go : (t : Bool) → AllTrue (is_other 10) (cond t (two_digits prn) (three_digits prn))
    go true = (other 10 (48 + prn / 10) (omega arith), (other 10 (48 + prn % 10) (omega arith), tt))
    go false = (other 10 (48 + prn / 100) (omega arith), (other 10 (48 + prn % 100 / 10) (omega arith), (other 10 (48 + prn % 100 % 10) (omega arith), tt)))

-- nor of a comparison
cmp_other : (c : Cmp) → AllTrue (is_other 10) (cmp_text c)
cmp_other (cmp.Mask prn) = all_append (is_other 10) (codes "Mask ") _ (all_true (is_other 10) (codes "Mask ") refl) (prn_other prn)
cmp_other cmp.Det = all_true (is_other 10) (codes "Det") refl
cmp_other (cmp.Slope prn) = all_append (is_other 10) (codes "Slope ") _ (all_true (is_other 10) (codes "Slope ") refl) (prn_other prn)
cmp_other (cmp.DetWithout left) = all_append (is_other 10) (codes "DetWithout ") _ (all_true (is_other 10) (codes "DetWithout ") refl) (prn_other left)
cmp_other (cmp.SlopeWithout left prn) =
    all_append (is_other 10) (codes "SlopeWithout " ++ prn_text left ++ codes " ") (prn_text prn)
    (all_append (is_other 10) (codes "SlopeWithout " ++ prn_text left) (codes " ") (all_append (is_other 10) (codes "SlopeWithout ") _ (all_true (is_other 10) (codes "SlopeWithout ") refl) (prn_other left)) (all_true (is_other 10) (codes " ") refl))
    (prn_other prn)

-- nor of a verdict
verdict_other : (v : Verdict) → AllTrue (is_other 10) (verdict_text v)
verdict_other Available = all_true (is_other 10) (codes "Available") refl
verdict_other (Unavailable Few) = all_true (is_other 10) (codes "Unavailable Few") refl
verdict_other (Unavailable Singular) = all_true (is_other 10) (codes "Unavailable Singular") refl
verdict_other (Unavailable Slope) = all_true (is_other 10) (codes "Unavailable Slope") refl
verdict_other (Undecided c) = all_append (is_other 10) (codes "Undecided ") _ (all_true (is_other 10) (codes "Undecided ") refl) (cmp_other c)
verdict_other (Overflow prn) = tt

-- a text without a mark, byte by byte
record Others (mark : ℕ) (bs : Text) : Type 0 where
  all : AllTrue (is_other mark) bs

o_none : (mark : ℕ) → Others mark []
o_none mark = record { all = tt }

o_more : (mark b : ℕ) (bs : Text) → mark < b → Others mark bs → Others mark (b ∷ bs)
o_more mark b bs low rest = record { all = (other mark b low, rest.all) }

o_two : (mark n : ℕ) (bs : Text) → mark < 45 → Others mark bs → Others mark (two_digits n ++ bs)
o_two mark n bs low rest = o_more mark (48 + n / 10) _ (omega (arith, low)) (o_more mark (48 + n % 10) _ (omega (arith, low)) rest)

o_three : (mark n : ℕ) (bs : Text) → mark < 45 → Others mark bs → Others mark (three_digits n ++ bs)
o_three mark n bs low rest = o_more mark (48 + n / 100) _ (omega (arith, low)) (o_two mark (n % 100) bs low rest)

o_four : (mark n : ℕ) (bs : Text) → mark < 45 → Others mark bs → Others mark (four_digits n ++ bs)
o_four mark n bs low rest = o_more mark (48 + n / 1000) _ (omega (arith, low)) (o_three mark (n % 1000) bs low rest)

-- the bytes of a time are above the marks
time_others : (mark : ℕ) → mark < 45 → (c : CivilTime) → Others mark (text_of c)
time_others mark low c =
    o_four mark c.date.year _ low (o_more mark 45 _ low
    (o_two mark c.date.month _ low (o_more mark 45 _ low
    (o_two mark c.date.day _ low (o_more mark 84 _ (omega (arith, low))
    (o_two mark c.time.hour _ low (o_more mark 58 _ (omega (arith, low))
    (o_two mark c.time.minute _ low (o_more mark 58 _ (omega (arith, low))
    (o_two mark c.time.second _ low (o_more mark 46 _ (omega (arith, low))
    (o_three mark c.time.millisecond _ low (o_more mark 90 _ (omega (arith, low)) (o_none mark))))))))))))))

-- so no byte of a time is a mark
time_other : (mark : ℕ) → mark < 45 → (c : CivilTime) → AllTrue (is_other mark) (text_of c)
time_other mark low c = (time_others mark low c).all

-- nor of the text of an instant
pub instant_other : (mark : ℕ) → mark < 45 → (text : Text) (leap : ℕ) (ms : ℤ) → SpellsInstant text leap ms → AllTrue (is_other mark) text
instant_other mark low text leap ms s = subst (AllTrue (is_other mark)) (sym s.spelled.spelled) (time_other mark low s.civil)

-- the parts of a line, one after another
pub flat : (a b v : Text) → a ++ codes " " ++ b ++ codes " " ++ v ≡ a ++ 32 ∷ (b ++ 32 ∷ v)
flat a b v =
    append_assoc (a ++ codes " " ++ b) (codes " ") v
    ∙ append_assoc (a ++ codes " ") b (codes " " ++ v)
    ∙ append_assoc a (codes " ") (b ++ (codes " " ++ v))

-- nor of a whole line
pub line_other : (leap : ℕ) (run : Run) (line : Text) → IsLineOf leap run line → AllTrue (is_other 10) line
line_other leap run line x =
    subst (AllTrue (is_other 10)) (sym (x.spelled ∙ flat x.start x.end (verdict_text run.verdict)))
    (all_append (is_other 10) x.start _ (instant_other 10 (omega arith) x.start leap run.first x.starts)
    (one_more (is_other 10) 32 _ refl (all_append (is_other 10) x.end _ (instant_other 10 (omega arith) x.end leap run.end x.ends)
    (one_more (is_other 10) 32 _ refl (verdict_other run.verdict)))))
