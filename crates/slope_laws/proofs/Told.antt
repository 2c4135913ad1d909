-- A decided verdict on a list of rows tells the model's reason for every choice of rows inside.
use Rattle.std.specs.Prelude.{◌≡◌, ℕ, zero, suc, ◌-◌, pos, ◌^◌, ◌<◌, ◌≤◌, ◌≤ℤ◌, ◌<ℤ◌, Bool, true, false, ◌||◌, if◌then◌else◌, List, [], ◌∷◌, length, map, Some, None, refl}
use Rattle.std.specs.declared.option.Option.{Option}
use Rattle.std.proofs.Common.{arith, ap, subst, inl, inr}
use Rattle.std.proofs.lemmas.Int.{ints}
use Rattle.std.proofs.lemmas.Bool.{cases_lt, lt-ltb, le-ltb}
use Rattle.fractions.specs.Fraction.{Fraction, ratio, ◌*ᶠ◌, ◌≤ᶠ◌, ◌<ᶠ◌}
use Rattle.fractions.proofs.Laws.{≤ᶠ_trans}
use Rattle.fractions.proofs.Ratios.{ratio_mono, ratio-same}
use Rattle.fractions.proofs.StrictOrder.{≤ᶠ_<ᶠ_trans, ratio_below}
use Rattle.raim_model.specs.declared.verdict.Why.{Why}
use Rattle.raim_model.specs.declared.verdict.Why.TheVariants as why
use Rattle.raim_model.specs.Constants.{least_determinant}
use Rattle.raim_model.specs.Geometry.{Row, normal_matrix, determinant, inverse_of, SquaredShift}
use Rattle.geometry_laws.specs.Minors.{adjugate}
use Rattle.geometry_laws.specs.Shifts.{IsSquare}
use Rattle.raim_model.specs.PointVerdict.{is_steep, is_some_steep, fault_of, without_one, or_else, first_fault, reason_of}
use Rattle.fix_interval.specs.Ends.{Ends}
use Rattle.fix_interval.specs.Lies.{Lies}
use Rattle.raim_model.specs.declared.verdict.Verdict.{Verdict}
use Rattle.raim_model.specs.declared.verdict.Verdict.TheVariants.{Available, Unavailable, Undecided, Overflow}
use Rattle.slope_laws.specs.Rows.{NamedRow, NamedLies, NamedRowsLie, Removal, behind, removals}
use Rattle.slope_laws.specs.declared.outcome.Outcome.{Outcome}
use Rattle.slope_laws.specs.declared.outcome.Outcome.TheVariants.{Passes, Fails, Straddles, Overflows}
use Rattle.slope_laws.specs.Slopes.{SlopeTest, is_fails, is_straddles, is_overflows, first_such, of_slopes, slopes_of, least_units, of_determinant, detect_by}
use Rattle.slope_laws.specs.Subsets.{named_without, unless_passes, first_open, exclude_by}
use Rattle.slope_laws.specs.Hold.{Certifies, Tells, HoldsSlopes}
use Rattle.slope_laws.proofs.Kept.{some_if, Passing, passing, below_least}
use Rattle.slope_laws.proofs.Steep.{AreRemoved, are_removed, not_steep, steep, below_is, below_is_not}

pub lie_length : (rows : List NamedRow) (gs : List Row) → NamedRowsLie rows gs → length rows ≡ length gs
lie_length [] [] h = refl
lie_length (r ∷ rs) (g ∷ gs) h = ap suc (lie_length rs gs h.1)
lie_length [] (g ∷ gs) h = absurd h
lie_length (r ∷ rs) [] h = absurd h

-- each row and its list without it, in the list's order
abbrev pub RemovalsLie : List Removal → List Row → List (List Row) → Type 0
RemovalsLie [] [] [] = Unit {0}
RemovalsLie (x ∷ xs) (g ∷ gs) (hs ∷ hss) = NamedLies x.row g × NamedRowsLie x.rest hs × RemovalsLie xs gs hss
RemovalsLie xs gs hss = ⊥

behind_lie : (r : NamedRow) (g : Row) → NamedLies r g → (xs : List Removal) (gs : List Row) (hss : List (List Row)) → RemovalsLie xs gs hss → RemovalsLie (map (behind r) xs) gs (map (λ hs. g ∷ hs) hss)
behind_lie r g i [] [] [] h = tt
behind_lie r g i (x ∷ xs) (f ∷ gs) (hs ∷ hss) h = (h.0, (i, h.1), behind_lie r g i xs gs hss h.2)
behind_lie r g i [] [] (hs ∷ hss) h = absurd h
behind_lie r g i [] (f ∷ gs) hss h = absurd h
behind_lie r g i (x ∷ xs) [] hss h = absurd h
behind_lie r g i (x ∷ xs) (f ∷ gs) [] h = absurd h

pub removals_lie : (rows : List NamedRow) (gs : List Row) → NamedRowsLie rows gs → RemovalsLie (removals rows) gs (without_one gs)
removals_lie [] [] h = tt
removals_lie (r ∷ rs) (g ∷ gs) h = (h.0, h.1, behind_lie r g h.0 (removals rs) gs (without_one gs) (removals_lie rs gs h.1))
removals_lie [] (g ∷ gs) h = absurd h
removals_lie (r ∷ rs) [] h = absurd h

-- what the outcomes certify, row by row: the row, and the determinant of the others
abbrev pub AllCertify : (shift : SquaredShift) (outcome : Removal → Outcome) (k : Fraction) (all : List Row) → List Removal → List Row → List (List Row) → Type 0
AllCertify shift outcome k all [] [] [] = Unit {0}
AllCertify shift outcome k all (x ∷ xs) (g ∷ gs) (hs ∷ hss) = Certifies (outcome x) (k *ᶠ shift (adjugate (normal_matrix all)) g) (determinant (normal_matrix all) *ᶠ determinant (normal_matrix hs)) × AllCertify shift outcome k all xs gs hss
AllCertify shift outcome k all xs gs hss = ⊥

all_certify : (shift : SquaredShift) (test : SlopeTest) → HoldsSlopes shift test → (rows : List NamedRow) (kappa : Ends) (all : List Row) (k : Fraction) → NamedRowsLie rows all → Lies kappa 38 k
    → (xs : List Removal) (gs : List Row) (hss : List (List Row)) → RemovalsLie xs gs hss → AllCertify shift (λ x. test.outcome rows x kappa) k all xs gs hss
all_certify shift test holds rows kappa all k l m [] [] [] h = tt
all_certify shift test holds rows kappa all k l m (x ∷ xs) (g ∷ gs) (hs ∷ hss) h = (holds.outcome_certifies rows x kappa all g hs k l h.0 h.1 m, all_certify shift test holds rows kappa all k l m xs gs hss h.2)
all_certify shift test holds rows kappa all k l m [] [] (hs ∷ hss) h = absurd h
all_certify shift test holds rows kappa all k l m [] (g ∷ gs) hss h = absurd h
all_certify shift test holds rows kappa all k l m (x ∷ xs) [] hss h = absurd h
all_certify shift test holds rows kappa all k l m (x ∷ xs) (g ∷ gs) [] h = absurd h

none_steep : (shift : SquaredShift) → IsSquare shift → (outcome : Removal → Outcome) (k : Fraction) (all : List Row) → least_determinant ≤ᶠ determinant (normal_matrix all)
    → (xs : List Removal) (gs : List Row) (hss : List (List Row)) → AllCertify shift outcome k all xs gs hss → AreRemoved all gs hss → Passing outcome xs
    → is_some_steep shift k (inverse_of (normal_matrix all)) gs ≡ false
none_steep shift s outcome k all r [] [] [] c a p = refl
none_steep shift s outcome k all r (x ∷ xs) (g ∷ gs) (hs ∷ hss) c a p =
    let here : k *ᶠ shift (adjugate (normal_matrix all)) g ≤ᶠ determinant (normal_matrix all) *ᶠ determinant (normal_matrix hs) = subst (λ o. Certifies o (k *ᶠ shift (adjugate (normal_matrix all)) g) (determinant (normal_matrix all) *ᶠ determinant (normal_matrix hs))) p.0 c.0 in
    rw (not_steep shift s all hs g k r a.0 here) (none_steep shift s outcome k all r xs gs hss c.1 a.1 p.1)
none_steep shift s outcome k all r [] [] (hs ∷ hss) c a p = absurd c
none_steep shift s outcome k all r [] (g ∷ gs) hss c a p = absurd c
none_steep shift s outcome k all r (x ∷ xs) [] hss c a p = absurd c
none_steep shift s outcome k all r (x ∷ xs) (g ∷ gs) [] c a p = absurd c

certified_fail : (o : Outcome) (left right : Fraction) → is_fails o ≡ true → Certifies o left right → right <ᶠ left
certified_fail Passes left right e c = absurd (cc)
certified_fail Fails left right e c = c
certified_fail Straddles left right e c = absurd (cc)
certified_fail Overflows left right e c = absurd (cc)

or_right : (a b : Bool) → b ≡ true → (a || b) ≡ true
or_right true b e = refl
or_right false b e = e

some_steep : (shift : SquaredShift) → IsSquare shift → (outcome : Removal → Outcome) (k : Fraction) (all : List Row) → least_determinant ≤ᶠ determinant (normal_matrix all)
    → (xs : List Removal) (gs : List Row) (hss : List (List Row)) → AllCertify shift outcome k all xs gs hss → AreRemoved all gs hss
    → (p : ℕ) → first_such is_fails outcome xs ≡ Some p → is_some_steep shift k (inverse_of (normal_matrix all)) gs ≡ true
some_steep shift s outcome k all r [] [] [] c a p h = absurd (cc)
some_steep shift s outcome k all r (x ∷ xs) (g ∷ gs) (hs ∷ hss) c a p h = elim (some_if (is_fails (outcome x)) x.row.prn p (first_such is_fails outcome xs) h) [
  | inl e ↦ rw (steep shift s all hs g k r a.0 (certified_fail (outcome x) (k *ᶠ shift (adjugate (normal_matrix all)) g) (determinant (normal_matrix all) *ᶠ determinant (normal_matrix hs)) e c.0)) refl
  | inr e ↦ or_right (is_steep shift k (inverse_of (normal_matrix all)) g) (is_some_steep shift k (inverse_of (normal_matrix all)) gs) (some_steep shift s outcome k all r xs gs hss c.1 a.1 p e)
]
some_steep shift s outcome k all r [] [] (hs ∷ hss) c a p h = absurd c
some_steep shift s outcome k all r [] (g ∷ gs) hss c a p h = absurd c
some_steep shift s outcome k all r (x ∷ xs) [] hss c a p h = absurd c
some_steep shift s outcome k all r (x ∷ xs) (g ∷ gs) [] c a p h = absurd c

-- the two ways in which the slopes are decided
slopes_tell : (a b c : Option ℕ) (reason : Option Why)
    → (a ≡ None → b ≡ None → c ≡ None → reason ≡ None) → ((p : ℕ) → b ≡ Some p → reason ≡ Some why.Slope) → Tells (of_slopes a b c) reason
slopes_tell (Some p) b c reason pass fail = tt
slopes_tell None (Some p) c reason pass fail = fail p refl
slopes_tell None None (Some p) reason pass fail = tt
slopes_tell None None None reason pass fail = pass refl refl refl

-- a fraction in an interval at scale 38, against the least determinant
below_least_fraction : (d : Ends) (x : Fraction) → Lies d 38 x → d.hi <ℤ least_units → x <ᶠ least_determinant
below_least_fraction d x l h = ≤ᶠ_<ᶠ_trans l.high (ratio_below d.hi (pos 1) (2 ^ 38) 1024 (omega arith) (omega arith) (omega (arith, ints)))

above_least_fraction : (d : Ends) (x : Fraction) → Lies d 38 x → least_units ≤ℤ d.lo → least_determinant ≤ᶠ x
above_least_fraction d x l h = ≤ᶠ_trans (subst (λ t. t ≤ᶠ ratio d.lo (2 ^ 38)) least_is (ratio_mono (2 ^ 38) h)) l.low
  where
    least_is : ratio least_units (2 ^ 38) ≡ least_determinant
    least_is = ratio-same least_units (pos 1) (2 ^ 38) 1024 (omega arith) (omega arith) refl

determinant_tells : (shift : SquaredShift) (d : Ends) (slopes : Verdict) (k : Fraction) (gs : List Row) → Lies d 38 (determinant (normal_matrix gs))
    → (least_determinant ≤ᶠ determinant (normal_matrix gs) → Tells slopes (if is_some_steep shift k (inverse_of (normal_matrix gs)) gs then Some why.Slope else None))
    → Tells (of_determinant d slopes) (fault_of shift k gs)
unfolding fault_of
determinant_tells shift d slopes k gs l h = elim (below_least d.hi) [
  | inl p ↦ rw (p.0, below_is (below_least_fraction d (determinant (normal_matrix gs)) l p.1)) refl
  | inr q ↦ elim (below_least d.lo) [
    | inl p ↦ rw (q.0, p.0) tt
    | inr p ↦
        let r : least_determinant ≤ᶠ determinant (normal_matrix gs) = above_least_fraction d (determinant (normal_matrix gs)) l p.1 in
        rw (q.0, p.0, below_is_not r) (h r)
  ]
]

-- the verdict past the count of rows tells the fault of the rows
pub detect_tells : (shift : SquaredShift) (test : SlopeTest) → HoldsSlopes shift test → (rows : List NamedRow) (kappa : Ends) (gs : List Row) (k : Fraction) → NamedRowsLie rows gs → Lies kappa 38 k
    → 5 ≤ length rows → Tells (detect_by test rows kappa) (fault_of shift k gs)
unfolding detect_by
detect_tells shift test holds rows kappa gs k l m n =
    let f : Removal → Outcome = λ x. test.outcome rows x kappa in
    let c : AllCertify shift f k gs (removals rows) gs (without_one gs) = all_certify shift test holds rows kappa gs k l m (removals rows) gs (without_one gs) (removals_lie rows gs l) in
    rw (le-ltb (length rows) 5 n)
    (determinant_tells shift (test.determinant rows) (slopes_of f (removals rows)) k gs (holds.determinant_encloses rows gs l)
    (λ r. slopes_tell (first_such is_overflows f (removals rows)) (first_such is_fails f (removals rows)) (first_such is_straddles f (removals rows)) _
    (λ a b d. rw (none_steep shift holds.square f k gs r (removals rows) gs (without_one gs) c (are_removed gs) (passing f (removals rows) a b d)) refl)
    (λ p b. rw (some_steep shift holds.square f k gs r (removals rows) gs (without_one gs) c (are_removed gs) p b) refl)))

unless_tells : (verdict next : Verdict) (reason later : Option Why) → Tells verdict reason → Tells next later → Tells (unless_passes verdict next) (or_else reason later)
unless_tells Available next reason later t u = rw t u
unless_tells (Unavailable w) next reason later t u = rw t refl
unless_tells (Undecided c) next reason later t u = tt
unless_tells (Overflow p) next reason later t u = tt

named_tells : (prn : ℕ) (verdict : Verdict) (reason : Option Why) → Tells verdict reason → Tells (named_without prn verdict) reason
named_tells prn Available reason t = t
named_tells prn (Unavailable w) reason t = t
named_tells prn (Undecided c) reason t = tt
named_tells prn (Overflow p) reason t = tt

-- how many rows each list has
abbrev pub RestsHave : ℕ → List Removal → Type 0
RestsHave n [] = Unit {0}
RestsHave n (x ∷ xs) = (length x.rest ≡ n) × RestsHave n xs

behind_have : (r : NamedRow) (n : ℕ) (xs : List Removal) → RestsHave n xs → RestsHave (suc n) (map (behind r) xs)
behind_have r n [] h = tt
behind_have r n (x ∷ xs) h = (ap suc h.0, behind_have r n xs h.1)

pub rests_have : (rows : List NamedRow) (n : ℕ) → length rows ≡ suc n → RestsHave n (removals rows)
rests_have [] n e = tt
rests_have (r ∷ []) n e = (omega arith, tt)
rests_have (r ∷ s ∷ rs) zero e = absurd (omega arith)
rests_have (r ∷ s ∷ rs) (suc m) e = (omega arith, behind_have r m (removals (s ∷ rs)) (rests_have (s ∷ rs) m (omega arith)))

open_tells : (shift : SquaredShift) (detected : List NamedRow → Verdict) (k : Fraction) (n : ℕ) → ((rest : List NamedRow) (hs : List Row) → NamedRowsLie rest hs → length rest ≡ n → Tells (detected rest) (fault_of shift k hs))
    → (xs : List Removal) (gs : List Row) (hss : List (List Row)) → RemovalsLie xs gs hss → RestsHave n xs → Tells (first_open detected xs) (first_fault shift k hss)
open_tells shift detected k n each [] [] [] h s = refl
open_tells shift detected k n each (x ∷ xs) (g ∷ gs) (hs ∷ hss) h s =
    unless_tells (named_without x.row.prn (detected x.rest)) (first_open detected xs) (fault_of shift k hs) (first_fault shift k hss)
    (named_tells x.row.prn (detected x.rest) (fault_of shift k hs) (each x.rest hs h.1 s.0)) (open_tells shift detected k n each xs gs hss h.2 s.1)
open_tells shift detected k n each [] [] (hs ∷ hss) h s = absurd h
open_tells shift detected k n each [] (g ∷ gs) hss h s = absurd h
open_tells shift detected k n each (x ∷ xs) [] hss h s = absurd h
open_tells shift detected k n each (x ∷ xs) (g ∷ gs) [] h s = absurd h

or_else-none : (reason : Option Why) → or_else reason None ≡ reason
or_else-none None = refl
or_else-none (Some why) = refl

detect_few : (test : SlopeTest) (rows : List NamedRow) (kappa : Ends) → length rows < 5 → detect_by test rows kappa ≡ Unavailable why.Few
unfolding detect_by
detect_few test rows kappa p = rw (lt-ltb (length rows) 5 p) refl

-- fault detection
pub detect_reason : (shift : SquaredShift) (test : SlopeTest) → HoldsSlopes shift test → (rows : List NamedRow) (kappa : Ends) (gs : List Row) (k k_less : Fraction) → NamedRowsLie rows gs → Lies kappa 38 k
    → Tells (detect_by test rows kappa) (reason_of shift false k k_less gs)
unfolding reason_of
detect_reason shift test holds rows kappa gs k k_less l m =
    let e : length rows ≡ length gs = lie_length rows gs l in
    elim (cases_lt (length rows) 5) [
      | inl p ↦ rw (detect_few test rows kappa p, lt-ltb (length gs) 5 (omega arith)) refl
      | inr p ↦ rw (le-ltb (length gs) 5 (omega arith), or_else-none (fault_of shift k gs)) (detect_tells shift test holds rows kappa gs k l m p)
    ]

exclude_few : (test : SlopeTest) (rows : List NamedRow) (kappa kappa_less : Ends) → length rows < 6 → exclude_by test rows kappa kappa_less ≡ Unavailable why.Few
unfolding exclude_by
exclude_few test rows kappa kappa_less p = rw (lt-ltb (length rows) 6 p) refl

exclude_tells : (shift : SquaredShift) (test : SlopeTest) → HoldsSlopes shift test → (rows : List NamedRow) (kappa kappa_less : Ends) (gs : List Row) (k k_less : Fraction) → NamedRowsLie rows gs → Lies kappa 38 k → Lies kappa_less 38 k_less
    → (n : ℕ) → length rows ≡ suc n → 5 ≤ n → Tells (exclude_by test rows kappa kappa_less) (or_else (fault_of shift k gs) (first_fault shift k_less (without_one gs)))
unfolding exclude_by
exclude_tells shift test holds rows kappa kappa_less gs k k_less l m m_less n e p =
    rw (le-ltb (length rows) 6 (omega arith))
    (unless_tells (detect_by test rows kappa) (first_open (λ rest. detect_by test rest kappa_less) (removals rows)) (fault_of shift k gs) (first_fault shift k_less (without_one gs))
    (detect_tells shift test holds rows kappa gs k l m (omega arith))
    (open_tells shift (λ rest. detect_by test rest kappa_less) k_less n
    (λ rest hs i j. detect_tells shift test holds rest kappa_less hs k_less i m_less (omega arith))
    (removals rows) gs (without_one gs) (removals_lie rows gs l) (rests_have rows n e)))

-- fault exclusion
pub exclude_reason : (shift : SquaredShift) (test : SlopeTest) → HoldsSlopes shift test → (rows : List NamedRow) (kappa kappa_less : Ends) (gs : List Row) (k k_less : Fraction) → NamedRowsLie rows gs → Lies kappa 38 k → Lies kappa_less 38 k_less
    → Tells (exclude_by test rows kappa kappa_less) (reason_of shift true k k_less gs)
unfolding reason_of
exclude_reason shift test holds rows kappa kappa_less gs k k_less l m m_less =
    let e : length rows ≡ length gs = lie_length rows gs l in
    elim (cases_lt (length rows) 6) [
      | inl p ↦ rw (exclude_few test rows kappa kappa_less p, lt-ltb (length gs) 6 (omega arith)) refl
      | inr p ↦ rw (le-ltb (length gs) 6 (omega arith)) (exclude_tells shift test holds rows kappa kappa_less gs k k_less l m m_less (length rows - 1) (omega arith) (omega arith))
    ]
