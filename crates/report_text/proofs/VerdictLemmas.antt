-- A verdict is what its text spells.
use Rattle.std.proofs.Common.{◌≡◌, ◌<◌, ℕ, Bool, true, false, cond, List, [], ◌∷◌, ◌++◌, length, drop, get_or, Option, Some, refl, sym, ap, ap₂, ◌∙◌, arith, subst, nat_lt}
use Rattle.std.specs.Prelude.{codes, All}
use Rattle.std.specs.List.{find}
use Rattle.std.proofs.lemmas.List.{drop_more}
use Rattle.std.proofs.lemmas.Slice.Eq.{bytes_eq-Decides}
use Rattle.raim_model.specs.declared.verdict.Why.{Why}
use Rattle.raim_model.specs.declared.verdict.Why.TheVariants.{Few, Singular, Slope}
use Rattle.raim_model.specs.declared.verdict.Cmp.{Cmp}
use Rattle.raim_model.specs.declared.verdict.Cmp.TheVariants as cmp
use Rattle.raim_model.specs.declared.verdict.Verdict.{Verdict}
use Rattle.raim_model.specs.declared.verdict.Verdict.TheVariants.{Available, Unavailable, Undecided, Overflow}
use Rattle.raim_model.specs.Runs.{IsOverflow}
use Rattle.text_lines.specs.Lines.{Text}
use Rattle.gps_week.specs.TimeText.{two_digits}
use Rattle.gps_week.specs.TimeReading.{two_at}
use Rattle.gps_week.proofs.TimeReadingLemmas.{two_back}
use Rattle.report_text.specs.Report.{verdict_text, prn_text, prns_of, IsPrn}
use Rattle.report_text.specs.ReportLines.{verdict_of, forms_of, spells}
use Rattle.report_text.proofs.CutLemmas.{some_same}

below : (n m : ℕ) → n < m → nat_lt n m ≡ true
below n m h = grind arith

-- a PRN of two digits at most has two
two_text : (prn : ℕ) → prn < 100 → prn_text prn ≡ two_digits prn
two_text prn few = rw (below prn 100 few) refl

-- the first form that is not skipped is the one that the text spells
found : (v form : Verdict) (text : Text) (rest : Option Verdict) → verdict_text v ≡ text → form ≡ v → cond (spells text form) (Some form) rest ≡ Some v
found v form text rest spelled same = rw (same, (bytes_eq-Decides text (verdict_text v)).1 (sym spelled)) refl

-- the text of a comparison whose PRNs have two digits is read as that
says_cmp : (c : Cmp) → All (λ prn. prn < 100) (prns_of (Undecided c)) → verdict_of (verdict_text (Undecided c)) ≡ Some (Undecided c)
says_cmp (cmp.Mask prn) few =
    let low : prn < 100 = few 0 0 (omega arith) in
    let text : Text = codes "Undecided Mask " ++ two_digits prn in
    let v : Verdict = Undecided (cmp.Mask prn) in
    let spelled : verdict_text v ≡ text = ap (λ d. codes "Undecided Mask " ++ d) (two_text prn low) in
    ap verdict_of spelled ∙ found v (Undecided (cmp.Mask (two_at text 15))) text _ spelled (ap (λ n. Undecided (cmp.Mask n)) (two_back prn low))
says_cmp cmp.Det few = refl
says_cmp (cmp.Slope prn) few =
    let low : prn < 100 = few 0 0 (omega arith) in
    let text : Text = codes "Undecided Slope " ++ two_digits prn in
    let v : Verdict = Undecided (cmp.Slope prn) in
    let spelled : verdict_text v ≡ text = ap (λ d. codes "Undecided Slope " ++ d) (two_text prn low) in
    ap verdict_of spelled ∙ found v (Undecided (cmp.Slope (two_at text 16))) text _ spelled (ap (λ n. Undecided (cmp.Slope n)) (two_back prn low))
says_cmp (cmp.DetWithout left) few =
    let low : left < 100 = few 0 0 (omega arith) in
    let text : Text = codes "Undecided DetWithout " ++ two_digits left in
    let v : Verdict = Undecided (cmp.DetWithout left) in
    let spelled : verdict_text v ≡ text = ap (λ d. codes "Undecided DetWithout " ++ d) (two_text left low) in
    ap verdict_of spelled ∙ found v (Undecided (cmp.DetWithout (two_at text 21))) text _ spelled (ap (λ n. Undecided (cmp.DetWithout n)) (two_back left low))
says_cmp (cmp.SlopeWithout left prn) few =
    let low : left < 100 = few 0 0 (omega arith) in
    let small : prn < 100 = few 1 0 (omega arith) in
    let text : Text = codes "Undecided SlopeWithout " ++ two_digits left ++ codes " " ++ two_digits prn in
    let v : Verdict = Undecided (cmp.SlopeWithout left prn) in
    let spelled : verdict_text v ≡ text = ap₂ (λ d e. codes "Undecided SlopeWithout " ++ d ++ codes " " ++ e) (two_text left low) (two_text prn small) in
    ap verdict_of spelled ∙ found v (Undecided (cmp.SlopeWithout (two_at text 23) (two_at text 26))) text _ spelled
    (ap₂ (λ m n. Undecided (cmp.SlopeWithout m n)) (two_back left low) (two_back prn small))

-- the text of a verdict is read as that
pub verdict_says : (v : Verdict) → ¬ IsOverflow v → All IsPrn (prns_of v) → verdict_of (verdict_text v) ≡ Some v
verdict_says Available w h = refl
verdict_says (Unavailable Few) w h = refl
verdict_says (Unavailable Singular) w h = refl
verdict_says (Unavailable Slope) w h = refl
verdict_says (Undecided c) w h = says_cmp c (λ k d i. let p = h k d i in omega (arith, p.1))
verdict_says (Overflow prn) w h = absurd (w (prn, refl))

-- a fact of each verdict of a list
abbrev AllOf : (Verdict → Type 0) → List Verdict → Type 0
AllOf Q [] = Unit {0}
AllOf Q (x ∷ xs) = Q x × AllOf Q xs

-- what is found in a list passes the test, and has the fact
find_says : (p : Verdict → Bool) (Q : Verdict → Type 0) (xs : List Verdict) (v : Verdict) → AllOf Q xs → find p xs ≡ Some v → (p v ≡ true) × Q v
find_says p Q [] v all h = cc
find_says p Q (x ∷ xs) v all h = go (find_says p Q xs v all.1) (p x) refl h
  where
    go : (find p xs ≡ Some v → (p v ≡ true) × Q v) → (t : Bool) → p x ≡ t → cond t (Some x) (find p xs) ≡ Some v → (p v ≡ true) × Q v
    go again true e k = subst (λ (v : Verdict). (p v ≡ true) × Q v) (some_same x v k) (e, all.0)
    go again false e k = again k

abbrev IsCalm : Verdict → Type 0
IsCalm v = ¬ IsOverflow v

calm_available : IsCalm Available
calm_available o = let e = o.1 in cc

calm_why : (w : Why) → IsCalm (Unavailable w)
calm_why w o = let e = o.1 in cc

calm_cmp : (c : Cmp) → IsCalm (Undecided c)
calm_cmp c o = let e = o.1 in cc

-- no form is an overflow
forms_calm : (text : Text) → AllOf IsCalm (forms_of text)
forms_calm text =
    (calm_available, (calm_why Few, (calm_why Singular, (calm_why Slope, (calm_cmp _, (calm_cmp _, (calm_cmp _, (calm_cmp _, (calm_cmp _, tt)))))))))

-- what is read as a verdict is its text
pub verdict_back : (text : Text) (v : Verdict) → verdict_of text ≡ Some v → (text ≡ verdict_text v) × ¬ IsOverflow v
verdict_back text v h =
    let says = find_says (spells text) IsCalm (forms_of text) v (forms_calm text) h in
    ((bytes_eq-Decides text (verdict_text v)).0 says.0, says.1)

-- the first verdict that passes the test, where it is the next in the list
pub find_next : (p : Verdict → Bool) (xs : List Verdict) (i : ℕ) (d : Verdict) → i < length xs → p (get_or xs i d) ≡ true → find p (drop i xs) ≡ Some (get_or xs i d)
find_next p xs i d below passes = rw (drop_more xs i d below) (rw passes refl)
