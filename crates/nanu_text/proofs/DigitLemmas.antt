-- Numbers of so many digits are small.
use Rattle.std.proofs.Common.{◌≡◌, refl, sym, subst, ℕ, ◌+◌, ◌-◌, ◌*◌, ◌^◌, ◌<◌, ◌≤◌, ◌==◌, ◌&&◌, Bool, true, false, not, cond, [], ◌∷◌, length, Option, Some, None, arith, nat_lt, nat_le}
use Rattle.std.specs.Prelude.{fold, IfSome}
use Rattle.std.specs.List.{list_all}
use Rattle.std.specs.Char.{is_ascii_digit}
use Rattle.std.proofs.Math.Nat.{pow-succ', mul-le-mul_right}
use Rattle.std.proofs.lemmas.Bool.{and_parts, eqb-true}
use Rattle.text_lines.specs.Lines.{Text}
use Rattle.text_lines.specs.WholeNumber.{digits_value, number_of}
use Rattle.nanu_text.specs.Values.{digits_of}

digit_low : (b : ℕ) → is_ascii_digit b ≡ true → b - 48 ≤ 9
digit_low b h = grind arith

wider : (a d p rest : ℕ) → d ≤ 9 → rest < (10 * a + d + 1) * p → rest < (a + 1) * (10 * p)
wider a d p rest few below =
    let more : (10 * a + d + 1) * p ≤ (10 * (a + 1)) * p = mul-le-mul_right p (omega (arith, few)) in
    let same : (10 * (a + 1)) * p ≡ (a + 1) * (10 * p) = omega arith in
    omega (arith, below, more, same)

below_from : (a : ℕ) (text : Text) → list_all is_ascii_digit text ≡ true → fold (λ n b. 10 * n + (b - 48)) a text < (a + 1) * 10 ^ length text
below_from a [] all = omega arith
below_from a (b ∷ bs) all =
    let parts = and_parts (is_ascii_digit b) (list_all is_ascii_digit bs) all in
    let rest = below_from (10 * a + (b - 48)) bs parts.1 in
    subst (λ p. fold (λ n b. 10 * n + (b - 48)) (10 * a + (b - 48)) bs < (a + 1) * p) (sym (pow-succ' 10 (length bs)))
    (wider a (b - 48) (10 ^ length bs) _ (digit_low b parts.0) rest)

number-below : (most : ℕ) (text : Text) → IfSome (number_of most text) (λ n. n < 10 ^ length text)
number-below most text = by_test (nat_lt 0 (length text) && nat_le (length text) most) (list_all is_ascii_digit text) refl
  where
    by_test : (a b : Bool) → list_all is_ascii_digit text ≡ b → IfSome (cond (a && b) (Some (digits_value text)) None) (λ n. n < 10 ^ length text)
    by_test false b e = tt
    by_test true false e = tt
    by_test true true e = let below = below_from 0 text e in omega (arith, below)

pub digits-below : (count : ℕ) (text : Text) → IfSome (digits_of count text) (λ n. n < 10 ^ count)
digits-below count text = by_test (length text == count) refl
  where
    by_test : (b : Bool) → (length text == count) ≡ b → IfSome (cond (not b) None (number_of count text)) (λ n. n < 10 ^ count)
    by_test false e = tt
    by_test true e = subst (λ k. IfSome (number_of count text) (λ n. n < 10 ^ k)) (eqb-true (length text) count e) (number-below count text)

pub digits_said : (count : ℕ) (text : Text) (result : Option ℕ) → result ≡ digits_of count text → IfSome result (λ n. n < 10 ^ count)
digits_said count text result is = subst (λ (o : Option ℕ). IfSome o (λ n. n < 10 ^ count)) (sym is) (digits-below count text)
