-- What the tests of a record make sure of.
use Rattle.std.proofs.Common.{◌≡◌, ◌≤◌, ◌+◌, ◌*◌, ◌/◌, ◌||◌, ℕ, ℤ, pos, unsigned_abs, ◌+ℤ◌, ◌≤ℤ◌, negsuc, Bool, true, false, nat_lt, Ok, refl, subst, arith}
use Rattle.std.proofs.lemmas.Bool.Decides.{nat_tests}
use Rattle.std.proofs.lemmas.Int.{ints}
use Rattle.raim_model.specs.declared.TextWhy.TheVariants.{Range}
use Rattle.raim_model.specs.declared.Span.{Span}
use Rattle.raim_model.specs.Constants.{week_ms}
use Rattle.raim_model.specs.Span.{IsFlight}
use Rattle.raim_model.specs.AlmanacRanges.{ninety_days}
use Rattle.gps_week.specs.Weeks.{full_week_of}
use Rattle.text_lines.specs.Lines.{Text}
use Rattle.text_lines.specs.Fields.{unless, any_whole, in_range, whole_in}
use Rattle.text_lines.proofs.FieldLemmas.{bind_then}
use Rattle.almanac_fields.specs.Times.{toa_of, is_far}

tests_pass : {X : Type 0} (a b : Bool) (x y : X) → unless (a || b) Range (Ok x) ≡ Ok y → (a ≡ false) × (b ≡ false) × (x ≡ y)
tests_pass true b x y h = cc
tests_pass false true x y h = cc
tests_pass false false x y h = (refl, refl, cc)

not_below : (m n : ℕ) → nat_lt m n ≡ false → n ≤ m
not_below m n h = grind (arith, nat_tests)

-- a whole number from low to high
pub whole_within : (low high : ℕ) (word : Text) (n : ℕ) → whole_in low high word ≡ Ok n → (low ≤ n) × (n ≤ high)
whole_within low high word n h =
    let p = bind_then (any_whole word) (in_range low high) n h in
    let t = tests_pass (nat_lt p.0 low) (nat_lt high p.0) p.0 n p.2 in
    subst (λ (k : ℕ). (low ≤ k) × (k ≤ high)) t.2 (not_below p.0 low t.0, not_below high p.0 t.1)

-- two times are at most 90 days apart
abbrev pub AreNear : ℤ → ℤ → Type 0
AreNear toa t = (toa ≤ℤ (t +ℤ ninety_days)) × (t ≤ℤ (toa +ℤ ninety_days))

near : (toa t : ℕ) → nat_lt (t + 7776000000) toa ≡ false → nat_lt (toa + 7776000000) t ≡ false → AreNear (pos toa) (pos t)
near toa t a b =
    let c = not_below (t + 7776000000) toa a in
    let d = not_below (toa + 7776000000) t b in
    (omega (arith, ints, c), omega (arith, ints, d))

or_false : (a b : Bool) → (a || b) ≡ false → (a ≡ false) × (b ≡ false)
or_false true b h = cc
or_false false b h = (refl, h)

both_near : (toa first end : ℕ) (x : ℤ) → unless (is_far toa first) Range (unless (is_far toa end) Range (Ok (pos toa))) ≡ Ok x → AreNear x (pos first) × AreNear x (pos end)
both_near toa first end x h = go (is_far toa first) (is_far toa end) refl refl h
  where
    go : (a b : Bool) → is_far toa first ≡ a → is_far toa end ≡ b → unless a Range (unless b Range (Ok (pos toa))) ≡ Ok x → AreNear x (pos first) × AreNear x (pos end)
    go true b e f k = cc
    go false true e f k = cc
    go false false e f k =
        let same : pos toa ≡ x = cc in
        let p = or_false (nat_lt (first + 7776000000) toa) (nat_lt (toa + 7776000000) first) e in
        let q = or_false (nat_lt (end + 7776000000) toa) (nat_lt (toa + 7776000000) end) f in
        subst (λ (z : ℤ). AreNear z (pos first) × AreNear z (pos end)) same (near toa first p.0 p.1, near toa end q.0 q.1)

-- a time of applicability that passes is near both ends of the flight
pub toa_near : (flight : Span) (time week : ℕ) (x : ℤ) → IsFlight flight → toa_of (unsigned_abs flight.first) (unsigned_abs flight.end) time week ≡ Ok x
    → AreNear x flight.first × AreNear x flight.end
toa_near flight time week x f h =
    let first : pos (unsigned_abs flight.first) ≡ flight.first = abs_pos flight.first f.after_epoch in
    let end : pos (unsigned_abs flight.end) ≡ flight.end = abs_pos flight.end (omega (arith, ints, f.after_epoch, f.some)) in
    let n = both_near (full_week_of week (unsigned_abs flight.first / week_ms) * week_ms + time) (unsigned_abs flight.first) (unsigned_abs flight.end) x h in
    (subst (AreNear x) first n.0, subst (AreNear x) end n.1)
  where
    abs_pos : (z : ℤ) → pos 0 ≤ℤ z → pos (unsigned_abs z) ≡ z
    abs_pos (pos n) h = refl
    abs_pos (negsuc n) h = absurd (omega (arith, ints, h))
