-- A piece between two neighbouring cuts may be judged.
use Rattle.std.specs.Prelude.{◌≡◌, ℕ, zero, suc, ◌-◌, ◌≤◌, ◌<◌, ℤ, pos, ◌-ℤ◌, ◌≤ℤ◌, ◌<ℤ◌, List, [], ◌∷◌, length, slice_index_or, true, false}
use lib.Signed.{le_z, lt_z}
use Rattle.std.proofs.Common.{arith, subst, w64, FitsSigned, to_z, of_z}
use Rattle.std.proofs.lemmas.Int.{ints, to_z-of_z}
use Rattle.raim_model.specs.Cuts.{IsCutTime, AreCutsFrom, AreCuts}

-- the rule holds of what is inside
abbrev pub Inherits : (ℤ → ℤ → Type 0) → Type 0
Inherits rule = (first last a b : ℤ) → rule first last → first ≤ℤ a → a ≤ℤ b → b ≤ℤ last → rule a b

within_from : (rule : ℤ → ℤ → Type 0) → Inherits rule → (from : ℤ) (cuts : List ℤ) → AreCutsFrom rule from cuts → (k : ℕ) (d e : ℤ) → k < length cuts
    → (first last : ℤ) → slice_index_or (from ∷ cuts) k d ≤ℤ first → first ≤ℤ last → last <ℤ slice_index_or cuts k e → rule first last
within_from rule i from [] h k d e p first last low o high = absurd (omega arith)
within_from rule i from (next ∷ cuts) h zero d e p first last low o high = i from (next -ℤ pos 1) first last h.2 low o (omega (arith, ints))
within_from rule i from (next ∷ cuts) h (suc k) d e p first last low o high = within_from rule i next cuts h.3 k d e (omega arith) first last low o high

-- between the cuts at k - 1 and at k
pub rule_within : (rule : ℤ → ℤ → Type 0) → Inherits rule → (cuts : List ℤ) → AreCuts rule cuts → (k : ℕ) (d e : ℤ) → 1 ≤ k → k < length cuts
    → (first last : ℤ) → slice_index_or cuts (k - 1) d ≤ℤ first → first ≤ℤ last → last <ℤ slice_index_or cuts k e → rule first last
rule_within rule i [] h k d e s p first last low o high = absurd h
rule_within rule i (only ∷ []) h k d e s p first last low o high = absurd h
rule_within rule i (from ∷ next ∷ cuts) h zero d e s p first last low o high = absurd (omega arith)
rule_within rule i (from ∷ next ∷ cuts) h (suc k) d e s p first last low o high =
    let m : suc k - 1 ≡ k = omega arith in
    within_from rule i from (next ∷ cuts) h k d e (omega arith) first last (subst (λ n. slice_index_or (from ∷ next ∷ cuts) n d ≤ℤ first) m low) o high

-- each cut has a time that a cut may have
time_from : (rule : ℤ → ℤ → Type 0) (from : ℤ) (cuts : List ℤ) → AreCutsFrom rule from cuts → (k : ℕ) (d : ℤ) → k < length (from ∷ cuts) → IsCutTime (slice_index_or (from ∷ cuts) k d)
time_from rule from [] h zero d p = h
time_from rule from [] h (suc k) d p = absurd (omega arith)
time_from rule from (next ∷ cuts) h zero d p = h.0
time_from rule from (next ∷ cuts) h (suc k) d p = time_from rule next cuts h.3 k d (omega arith)

pub cut_time : (rule : ℤ → ℤ → Type 0) (cuts : List ℤ) → AreCuts rule cuts → (k : ℕ) (d : ℤ) → k < length cuts → IsCutTime (slice_index_or cuts k d)
cut_time rule [] h k d p = absurd h
cut_time rule (only ∷ []) h k d p = absurd h
cut_time rule (from ∷ next ∷ cuts) h k d p = time_from rule from (next ∷ cuts) h k d p

-- ---- as the code reads them
le_is : (x y : ℤ) → le_z x y ≡ true → x ≤ℤ y
le_is x y e = grind (arith, ints)

lt_is : (x y : ℤ) → lt_z x y ≡ true → x <ℤ y
lt_is x y e = grind (arith, ints)

not_lt : (x y : ℤ) → lt_z y x ≡ false → x ≤ℤ y
not_lt x y e = grind (arith, ints)

-- a cut, cast and back
cut_back : (t : ℤ) → IsCutTime t → to_z w64 (of_z w64 t) ≡ t
cut_back t h = let l = h.0 in let u = h.1 in let fits : FitsSigned w64 t = omega (arith, ints) in to_z-of_z w64 t fits

pub judged_within : (rule : ℤ → ℤ → Type 0) → Inherits rule → (cuts : List ℤ) → AreCuts rule cuts → (k : ℕ) (d e : ℤ) → 1 ≤ k → k < length cuts → (first last : ℤ) → lt_z last first ≡ false
    → le_z (to_z w64 (of_z w64 (slice_index_or cuts (k - 1) d))) first ≡ true → lt_z last (to_z w64 (of_z w64 (slice_index_or cuts k e))) ≡ true → rule first last
judged_within rule i cuts h k d e s p first last o low high =
    let a : to_z w64 (of_z w64 (slice_index_or cuts (k - 1) d)) ≡ slice_index_or cuts (k - 1) d = cut_back (slice_index_or cuts (k - 1) d) (cut_time rule cuts h (k - 1) d (omega arith)) in
    let b : to_z w64 (of_z w64 (slice_index_or cuts k e)) ≡ slice_index_or cuts k e = cut_back (slice_index_or cuts k e) (cut_time rule cuts h k e p) in
    rule_within rule i cuts h k d e s p first last (subst (λ x. x ≤ℤ first) a (le_is _ first low)) (not_lt first last o) (subst (λ x. last <ℤ x) b (lt_is last _ high))
