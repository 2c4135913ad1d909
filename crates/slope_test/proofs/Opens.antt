-- The first verdict of a list of lists that does not pass.
use Rattle.std.specs.Prelude.{◌≡◌, ℕ, ◌+◌, true, false, List, [], ◌∷◌, ◌++◌, take, drop, refl}
use Rattle.std.proofs.Common.{ap, sym, ◌∙◌}
use Rattle.std.proofs.lemmas.List.{take-append-drop}
use Rattle.raim_model.specs.declared.Verdict.{Verdict}
use Rattle.raim_model.specs.declared.Verdict.TheVariants.{Available, Unavailable, Undecided, Overflow}
use Rattle.slope_laws.specs.Rows.{NamedRow, Removal}
use Rattle.slope_laws.specs.Subsets.{named_without, unless_passes, first_open}
use Rattle.slope_test.specs.Named.{is_pass}

pub pass_is : (v : Verdict) → is_pass v ≡ true → v ≡ Available
pass_is Available e = refl
pass_is (Unavailable w) e = absurd (cc)
pass_is (Undecided c) e = absurd (cc)
pass_is (Overflow p) e = absurd (cc)

pub stops : (v next : Verdict) → is_pass v ≡ false → unless_passes v next ≡ v
stops Available next e = absurd (cc)
stops (Unavailable w) next e = refl
stops (Undecided c) next e = refl
stops (Overflow p) next e = refl

-- past lists that pass
past : (v : Verdict) (next : Verdict) → unless_passes v next ≡ Available → (v ≡ Available) × (next ≡ Available)
past Available next e = (refl, e)
past (Unavailable w) next e = absurd (cc)
past (Undecided c) next e = absurd (cc)
past (Overflow p) next e = absurd (cc)

pub open-append : (detected : List NamedRow → Verdict) (ys zs : List Removal) → first_open detected ys ≡ Available → first_open detected (ys ++ zs) ≡ first_open detected zs
open-append detected [] zs e = refl
open-append detected (y ∷ ys) zs e =
    let p = past (named_without y.row.prn (detected y.rest)) (first_open detected ys) e in
    rw p.0 (open-append detected ys zs p.1)

-- one list more that passes
pub open_more : (detected : List NamedRow → Verdict) (ys : List Removal) (x : Removal) → first_open detected ys ≡ Available → named_without x.row.prn (detected x.rest) ≡ Available → first_open detected (ys ++ x ∷ []) ≡ Available
open_more detected ys x e f = open-append detected ys (x ∷ []) e ∙ ap (λ v. unless_passes v Available) f

-- a list that does not pass, after those that do
pub open_stops : (detected : List NamedRow → Verdict) (xs : List Removal) (i : ℕ) (x : Removal) → take (i + 1) xs ≡ take i xs ++ x ∷ [] → first_open detected (take i xs) ≡ Available
    → is_pass (named_without x.row.prn (detected x.rest)) ≡ false → first_open detected xs ≡ named_without x.row.prn (detected x.rest)
open_stops detected xs i x t e f =
    let whole : xs ≡ (take i xs ++ x ∷ []) ++ drop (i + 1) xs = sym (take-append-drop (i + 1) xs) ∙ ap (λ ys. ys ++ drop (i + 1) xs) t in
    ap (first_open detected) (whole ∙ regroup (take i xs) x (drop (i + 1) xs))
    ∙ open-append detected (take i xs) (x ∷ drop (i + 1) xs) e
    ∙ stops (named_without x.row.prn (detected x.rest)) (first_open detected (drop (i + 1) xs)) f
  where
    regroup : (ys : List Removal) (y : Removal) (zs : List Removal) → (ys ++ y ∷ []) ++ zs ≡ ys ++ y ∷ zs
    regroup [] y zs = refl
    regroup (w ∷ ws) y zs = ap (λ t. w ∷ t) (regroup ws y zs)
