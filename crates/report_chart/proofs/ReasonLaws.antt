-- A reason is shown as text.
use Rattle.std.proofs.Common.{◌≡◌, ◌≢◌, refl, ℕ, ◌≤◌, ◌<◌, [], ◌∷◌, Bool, true, false, not, arith}
use Rattle.std.specs.Prelude.{All, codes, nat_le, nat_lt, ◌==◌, ◌&&◌, if◌then◌else◌}
use Rattle.std.specs.List.{flat_map}
use Rattle.std.proofs.lemmas.Bool.Decides.{nat_tests}
use Rattle.std.proofs.lemmas.List.Elements.{All-nil, All-cons, All-append}
use Rattle.text_lines.specs.Lines.{Text}
use Rattle.report_chart.specs.Refused.{escaped_byte}
use Rattle.report_chart.specs.Laws.{IsPlain, ReasonsArePlain}

-- the same as a test
abbrev is_plain : ℕ → Bool
is_plain b = (nat_le 32 b && nat_lt b 127) && (not (b == 60) && (not (b == 62) && not (b == 34)))

abbrev are_plain : Text → Bool
are_plain [] = true
are_plain (b ∷ bs) = is_plain b && are_plain bs

both : (p q : Bool) → (p && q) ≡ true → (p ≡ true) × (q ≡ true)
both true true e = (refl, refl)
both true false e = let none = e in cc
both false q e = let none = e in cc

plain_of : (b : ℕ) → is_plain b ≡ true → IsPlain b
plain_of b e =
    let range = both (nat_le 32 b && nat_lt b 127) (not (b == 60) && (not (b == 62) && not (b == 34))) e in
    let ends = both (nat_le 32 b) (nat_lt b 127) range.0 in
    let less = both (not (b == 60)) (not (b == 62) && not (b == 34)) range.1 in
    let greater = both (not (b == 62)) (not (b == 34)) less.1 in
    fields b ends.0 ends.1 less.0 greater.0 greater.1
  where
    low : (b : ℕ) → nat_le 32 b ≡ true → 32 ≤ b
    low b e = grind (arith, nat_tests)

    high : (b : ℕ) → nat_lt b 127 ≡ true → b < 127
    high b e = grind (arith, nat_tests)

    other : (b n : ℕ) → not (b == n) ≡ true → b ≢ n
    other b n e = grind (arith, nat_tests)

    fields : (b : ℕ) → nat_le 32 b ≡ true → nat_lt b 127 ≡ true → not (b == 60) ≡ true → not (b == 62) ≡ true → not (b == 34) ≡ true → IsPlain b
    fields b p q r s t = record { from = low b p; until = high b q; less = other b 60 r; greater = other b 62 s; quote = other b 34 t }

all_plain : (text : Text) → are_plain text ≡ true → All IsPlain text
all_plain [] e = All-nil IsPlain
all_plain (b ∷ bs) e = let parts = both (is_plain b) (are_plain bs) e in All-cons IsPlain b bs (plain_of b parts.0) (all_plain bs parts.1)

-- a byte as it is shown is plain
plain_byte : (b : ℕ) → All IsPlain (escaped_byte b)
plain_byte b = go (b == 38) (b == 60) (b == 62) (b == 34) (nat_le 32 b && nat_lt b 127) refl refl refl refl
  where
    go : (amp less greater quote shown : Bool) → (b == 60) ≡ less → (b == 62) ≡ greater → (b == 34) ≡ quote → (nat_le 32 b && nat_lt b 127) ≡ shown
        → All IsPlain
        (if amp then codes "&amp;" else (if less then codes "&lt;" else (if greater then codes "&gt;" else (if quote then codes "&quot;" else (if shown then b ∷ [] else codes "?")))))
    go true less greater quote shown p q r s = all_plain (codes "&amp;") refl
    go false true greater quote shown p q r s = all_plain (codes "&lt;") refl
    go false false true quote shown p q r s = all_plain (codes "&gt;") refl
    go false false false true shown p q r s = all_plain (codes "&quot;") refl
    go false false false false true p q r s = all_plain (b ∷ []) (rw (p, q, r, s) refl)
    go false false false false false p q r s = all_plain (codes "?") refl

pub plain : ReasonsArePlain
plain [] = All-nil IsPlain
plain (b ∷ line) = All-append IsPlain (escaped_byte b) (flat_map escaped_byte line) (plain_byte b) (plain line)
