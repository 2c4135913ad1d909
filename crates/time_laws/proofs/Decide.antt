-- Two verdicts are one, or they are not.
use Rattle.std.proofs.Common.{◌≡◌, ◌≢◌, ℕ, ◌⊎◌, inl, inr, refl, ap}
use Rattle.std.proofs.lemmas.Bool.{cases_eq}
use Rattle.raim_model.specs.declared.Why.{Why}
use Rattle.raim_model.specs.declared.Why.TheVariants as why
use Rattle.raim_model.specs.declared.Cmp.{Cmp}
use Rattle.raim_model.specs.declared.Cmp.TheVariants as cmp
use Rattle.raim_model.specs.declared.Verdict.{Verdict}
use Rattle.raim_model.specs.declared.Verdict.TheVariants.{Available, Unavailable, Undecided, Overflow}
use Rattle.raim_model.specs.Runs.{IsOverflow}

decide_nat : (a b : ℕ) → (a ≡ b) ⊎ (a ≢ b)
decide_nat a b = cases_eq a b

decide_why : (u v : Why) → (u ≡ v) ⊎ (u ≢ v)
decide_why why.Few why.Few = inl refl
decide_why why.Singular why.Singular = inl refl
decide_why why.Slope why.Slope = inl refl
decide_why u v = inr (λ e. cc)

decide_cmp : (u v : Cmp) → (u ≡ v) ⊎ (u ≢ v)
decide_cmp cmp.Det cmp.Det = inl refl
decide_cmp (cmp.Mask a) (cmp.Mask b) = elim (decide_nat a b) [ inl e ↦ inl (ap cmp.Mask e) | inr n ↦ inr (λ e. n (cc)) ]
decide_cmp (cmp.Slope a) (cmp.Slope b) = elim (decide_nat a b) [ inl e ↦ inl (ap cmp.Slope e) | inr n ↦ inr (λ e. n (cc)) ]
decide_cmp (cmp.DetWithout a) (cmp.DetWithout b) = elim (decide_nat a b) [ inl e ↦ inl (ap cmp.DetWithout e) | inr n ↦ inr (λ e. n (cc)) ]
decide_cmp (cmp.SlopeWithout a i) (cmp.SlopeWithout b j) =
    elim (decide_nat a b) [ inl e ↦ elim (decide_nat i j) [ inl d ↦ inl (cc) | inr n ↦ inr (λ e. n (cc)) ] | inr n ↦ inr (λ e. n (cc)) ]
decide_cmp u v = inr (λ e. cc)

pub decide_verdict : (u v : Verdict) → (u ≡ v) ⊎ (u ≢ v)
decide_verdict Available Available = inl refl
decide_verdict (Unavailable a) (Unavailable b) = elim (decide_why a b) [ inl e ↦ inl (ap Unavailable e) | inr n ↦ inr (λ e. n (cc)) ]
decide_verdict (Undecided a) (Undecided b) = elim (decide_cmp a b) [ inl e ↦ inl (ap Undecided e) | inr n ↦ inr (λ e. n (cc)) ]
decide_verdict (Overflow a) (Overflow b) = elim (decide_nat a b) [ inl e ↦ inl (ap Overflow e) | inr n ↦ inr (λ e. n (cc)) ]
decide_verdict u v = inr (λ e. cc)

pub decide_overflow : (v : Verdict) → IsOverflow v ⊎ (IsOverflow v → ⊥)
decide_overflow (Overflow prn) = inl (prn, refl)
decide_overflow v = inr (λ h. let e = h.1 in cc)
