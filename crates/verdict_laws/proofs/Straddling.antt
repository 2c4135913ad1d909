-- The first satellite that straddles: of a list of distinct numbers it is the one record of its number.
use Rattle.std.specs.Prelude.{◌≡◌, ◌≢◌, ℕ, zero, suc, ◌<◌, List, [], ◌∷◌, map, Contains, All, AllPairs, Some, ⊤, refl}
use Rattle.std.specs.List.{AllByRecursion}
use Rattle.std.proofs.Common.{arith, sym, ◌∙◌, subst}
use Rattle.std.proofs.lemmas.List.Elements.{Contains-append_right}
use Rattle.raim_model.specs.declared.almanac.AlmRecord.{AlmRecord}
use Rattle.verdict_laws.specs.Sights.{Sight, Visible, Hidden, Straddles, sighted_over, or_straddling, first_straddling}

-- each record of the number straddles
abbrev pub Straddling : (sight : AlmRecord → Sight) (prn : ℕ) → List AlmRecord → Type 0
Straddling sight prn recs = AllByRecursion (λ rec. rec.prn ≡ prn → sight rec ≡ Straddles) recs

-- no record of the list has the number
abbrev pub Absent : (prn : ℕ) → List AlmRecord → Type 0
Absent prn recs = AllByRecursion (λ rec. rec.prn ≢ prn) recs

-- each record's number is that of no later one
abbrev pub Distinct : List AlmRecord → Type 0
Distinct [] = ⊤
Distinct (rec ∷ recs) = Absent rec.prn recs × Distinct recs

-- a number below all of them is none of them
absent_above : (prn : ℕ) (recs : List AlmRecord) → All (λ rec. prn < rec.prn) recs → Absent prn recs
absent_above prn [] h = tt
absent_above prn (rec ∷ recs) h = let lt : prn < rec.prn = h 0 rec (omega arith) in (λ e. omega arith, absent_above prn recs (λ k d p. h (suc k) d (omega arith)))

-- numbers that rise are distinct
pub distinct_rising : (recs : List AlmRecord) → AllPairs (λ before after. before.prn < after.prn) recs → Distinct recs
distinct_rising [] h = tt
distinct_rising (rec ∷ recs) h = (
  absent_above rec.prn recs (λ k d p. h 0 (suc k) d (omega arith) (omega arith)),
  distinct_rising recs (λ i j d p q. h (suc i) (suc j) d (omega arith) (omega arith)),
)

-- where no record has the number, each that has it straddles
straddling_absent : (sight : AlmRecord → Sight) (prn : ℕ) (recs : List AlmRecord) → Absent prn recs → Straddling sight prn recs
straddling_absent sight prn [] h = tt
straddling_absent sight prn (rec ∷ recs) h = (λ e. absurd (h.0 e), straddling_absent sight prn recs h.1)

-- a number that is there is another than one that is not
absent_not : (prn p : ℕ) (recs : List AlmRecord) → Absent prn recs → Contains (map (λ rec. rec.prn) recs) p → prn ≢ p
absent_not prn p [] h m e = let lt = m.1 in omega arith
absent_not prn p (rec ∷ recs) h (zero, lt, f) e = h.0 (f ∙ sym e)
absent_not prn p (rec ∷ recs) h (suc k, lt, f) e = absent_not prn p recs h.1 (k, omega arith, f) e

-- the first satellite that straddles: its number is there, and each record of that number straddles
pub record FoundStraddling (sight : AlmRecord → Sight) (prn : ℕ) (recs : List AlmRecord) : Type 0 where
  pub there : Contains (map (λ rec. rec.prn) recs) prn
  pub each : Straddling sight prn recs

-- found behind a record of another number
found_later : (sight : AlmRecord → Sight) (prn : ℕ) (rec : AlmRecord) (recs : List AlmRecord) → Absent rec.prn recs → FoundStraddling sight prn recs → FoundStraddling sight prn (rec ∷ recs)
found_later sight prn rec recs a f = record {
  there = Contains-append_right (rec.prn ∷ []) (map (λ r. r.prn) recs) prn f.there;
  each = (λ e. absurd (absent_not rec.prn prn recs a f.there e), f.each);
}

-- found at the first record, or behind it
found_here : (sight : AlmRecord → Sight) (prn : ℕ) (rec : AlmRecord) (recs : List AlmRecord) (w : Sight) → sight rec ≡ w → Absent rec.prn recs → or_straddling rec.prn w (first_straddling (sighted_over sight recs)) ≡ Some prn
    → (first_straddling (sighted_over sight recs) ≡ Some prn → FoundStraddling sight prn recs) → FoundStraddling sight prn (rec ∷ recs)
found_here sight prn rec recs (Visible r) is a h k = found_later sight prn rec recs a (k h)
found_here sight prn rec recs Hidden is a h k = found_later sight prn rec recs a (k h)
found_here sight prn rec recs Straddles is a h k =
    let e : rec.prn ≡ prn = cc in
    record { there = (0, omega arith, e); each = (λ f. is, straddling_absent sight prn recs (subst (λ p. Absent p recs) e a)) }

-- the first that straddles is found
pub found : (sight : AlmRecord → Sight) (prn : ℕ) (recs : List AlmRecord) → Distinct recs → first_straddling (sighted_over sight recs) ≡ Some prn → FoundStraddling sight prn recs
found sight prn [] d h = absurd (cc)
found sight prn (rec ∷ recs) d h = found_here sight prn rec recs (sight rec) refl d.0 h (found sight prn recs d.1)
