-- Numbers and lines, as they are printed.
use Rattle.std.proofs.Common.{◌≡◌, ◌<◌, ◌/◌, ◌%◌, ℕ, ◌∷◌, [], ◌++◌, ◌∙◌, Result, Ok, Err, ap, sym, refl, arith, append_assoc}
use Rattle.std.specs.Prelude.{codes, decimal, IfOk}
use Rattle.std.proofs.lemmas.Fmt.{decimal_digit}
use Rattle.text_lines.specs.Lines.{Text}
use Rattle.gps_week.specs.TimeText.{four_digits}
use Rattle.demo_texts.specs.Demo.{line, decimals_text, record_lines}

-- the same text, said in another way
pub said : {T E : Type 0} (bytes : T → Text) (r : Result T E) (x y : Text) → IfOk r (λ t. bytes t ≡ x) → x ≡ y → IfOk r (λ t. bytes t ≡ y)
said bytes (Ok t) x y h e = h ∙ e
said bytes (Err f) x y h e = tt

-- four digits, printed one after another
digits : (m a b c d : ℕ) → a ≡ m / 1000 → b ≡ m % 1000 / 100 → c ≡ m % 1000 % 100 / 10 → d ≡ m % 1000 % 100 % 10 → m < 10000
    → decimal a ++ (decimal b ++ (decimal c ++ decimal d)) ≡ four_digits m
digits m a b c d p q r s few =
    rw (decimal_digit a (omega (arith, p)), decimal_digit b (omega (arith, q)), decimal_digit c (omega (arith, r)), decimal_digit d (omega (arith, s)))
    (rw (p, q, r, s) refl)

-- a number of ten-thousandths, printed digit by digit
pub decimals_are : (n : ℕ) → decimal (n / 10000) ++ (codes "." ++ (decimal (n / 1000 % 10) ++ (decimal (n / 100 % 10) ++ (decimal (n / 10 % 10) ++ decimal (n % 10))))) ≡ decimals_text n
decimals_are n =
    ap (λ t. decimal (n / 10000) ++ (codes "." ++ t))
    (digits (n % 10000) (n / 1000 % 10) (n / 100 % 10) (n / 10 % 10) (n % 10) (omega arith) (omega arith) (omega arith) (omega arith) (omega arith))
    ∙ sym (append_assoc (decimal (n / 10000)) (codes ".") (four_digits (n % 10000)))

-- a record, printed at once
pub record_flat : (prn node anomaly : Text)
    → prn ++ 10 ∷ (prn ++ 10 ∷ 48 ∷ 10 ∷ (codes "0.01 0.0056 -2.6E-09" ++ 10 ∷ (codes "5153.6 " ++ (node ++ (codes " 0.0" ++ 10 ∷ (anomaly ++ (codes " 0.0 0.0" ++ 10 ∷ 48 ∷ 10 ∷ 57 ∷ 10 ∷ []))))))) ≡ record_lines prn node anomaly
record_flat prn node anomaly = simp append_assoc refl

-- the line of a demonstration, printed at once
pub summary_flat : (number intervals available unavailable undecided : Text)
    → codes "demo " ++ (number ++ (codes " satellites 24 intervals " ++ (intervals ++ (codes " available " ++ (available ++ (codes " unavailable " ++ (unavailable ++ (codes " undecided " ++ (undecided ++ 10 ∷ [])))))))))
    ≡ line (codes "demo " ++ number ++ codes " satellites 24 intervals " ++ intervals ++ codes " available " ++ available ++ codes " unavailable " ++ unavailable ++ codes " undecided " ++ undecided)
summary_flat number intervals available unavailable undecided = simp append_assoc refl
