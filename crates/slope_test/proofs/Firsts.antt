-- The first satellite of a longer list.
use Rattle.std.specs.Prelude.{◌≡◌, ℕ, Bool, true, false, if◌then◌else◌, List, [], ◌∷◌, ◌++◌, Some, None, refl}
use Rattle.std.specs.declared.option.Option.{Option}
use Rattle.slope_laws.specs.declared.Outcome.{Outcome}
use Rattle.slope_laws.specs.Rows.{Removal}
use Rattle.std.proofs.Common.{◌∙◌, ap}
use Rattle.slope_laws.specs.declared.Outcome.TheVariants.{Passes}
use Rattle.slope_laws.specs.Slopes.{first_such}
use Rattle.slope_test.specs.Tallies.{kept_first}

step : (b : Bool) (p : ℕ) (next : Option ℕ) (is : Bool) (prn : ℕ) → (if b then Some p else kept_first next is prn) ≡ kept_first (if b then Some p else next) is prn
step true p next is prn = refl
step false p next is prn = refl

-- one row more
pub first_more : (is : Outcome → Bool) (outcome : Removal → Outcome) (xs : List Removal) (x : Removal)
    → first_such is outcome (xs ++ x ∷ []) ≡ kept_first (first_such is outcome xs) (is (outcome x)) x.row.prn
first_more is outcome [] x = refl
first_more is outcome (y ∷ ys) x = rw (first_more is outcome ys x) (step (is (outcome y)) y.row.prn (first_such is outcome ys) (is (outcome x)) x.row.prn)

same : (first : Option ℕ) (prn : ℕ) → kept_first first false prn ≡ first
same None prn = refl
same (Some p) prn = refl

-- one row more that passes changes nothing
pub first_same : (is : Outcome → Bool) (outcome : Removal → Outcome) (xs : List Removal) (x : Removal) → is Passes ≡ false → outcome x ≡ Passes
    → first_such is outcome (xs ++ x ∷ []) ≡ first_such is outcome xs
first_same is outcome xs x n e = first_more is outcome xs x ∙ ap (λ t. kept_first (first_such is outcome xs) t x.row.prn) (ap is e ∙ n) ∙ same (first_such is outcome xs) x.row.prn
