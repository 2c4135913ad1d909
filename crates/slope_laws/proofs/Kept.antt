-- A decided verdict on a list of rows is that of each list inside.
use Rattle.std.specs.Prelude.{◌≡◌, ◌≢◌, ℕ, suc, ℤ, ◌≤ℤ◌, ◌<ℤ◌, Bool, true, false, if◌then◌else◌, nat_lt, ◌⊎◌, List, [], ◌∷◌, length, map, Some, None, refl}
use Rattle.std.specs.declared.option.Option.{Option}
use Rattle.std.proofs.Common.{arith, ap, inl, inr}
use Rattle.std.proofs.lemmas.Int.{ints, by_lt_z}
use lib.Signed.{lt_z}
use Rattle.raim_model.specs.declared.verdict.Why.{Why}
use Rattle.raim_model.specs.declared.verdict.Why.TheVariants as why
use Rattle.fix_interval.specs.Ends.{Ends, IsInside}
use Rattle.raim_model.specs.declared.verdict.Verdict.{Verdict}
use Rattle.raim_model.specs.declared.verdict.Verdict.TheVariants.{Available, Unavailable, Undecided, Overflow}
use Rattle.slope_laws.specs.Rows.{NamedRow, NamedInside, NamedRowsInside, Removal, behind, removals}
use Rattle.slope_laws.specs.declared.outcome.Outcome.{Outcome}
use Rattle.slope_laws.specs.declared.outcome.Outcome.TheVariants.{Passes, Fails, Straddles, Overflows}
use Rattle.slope_laws.specs.Slopes.{SlopeTest, is_fails, is_straddles, is_overflows, first_such, of_slopes, slopes_of, least_units, of_determinant, detect_by}
use Rattle.slope_laws.specs.Subsets.{named_without, unless_passes, first_open, exclude_by}
use Rattle.slope_laws.specs.Hold.{LeavesOutcome, LeavesVerdict, HoldsSlopes}
use Rattle.raim_model.specs.Geometry.{SquaredShift}

pub inside_length : (rows wide : List NamedRow) → NamedRowsInside rows wide → length rows ≡ length wide
inside_length [] [] h = refl
inside_length (r ∷ rs) (w ∷ ws) h = ap suc (inside_length rs ws h.1)
inside_length [] (w ∷ ws) h = absurd h
inside_length (r ∷ rs) [] h = absurd h

-- each list without a row inside that of the same place
abbrev pub RemovalsInside : List Removal → List Removal → Type 0
RemovalsInside [] [] = Unit {0}
RemovalsInside (x ∷ xs) (y ∷ ys) = NamedInside x.row y.row × NamedRowsInside x.rest y.rest × RemovalsInside xs ys
RemovalsInside xs ys = ⊥

behind_inside : (r w : NamedRow) → NamedInside r w → (xs ys : List Removal) → RemovalsInside xs ys → RemovalsInside (map (behind r) xs) (map (behind w) ys)
behind_inside r w i [] [] h = tt
behind_inside r w i (x ∷ xs) (y ∷ ys) h = (h.0, (i, h.1), behind_inside r w i xs ys h.2)
behind_inside r w i [] (y ∷ ys) h = absurd h
behind_inside r w i (x ∷ xs) [] h = absurd h

pub removals_inside : (rows wide : List NamedRow) → NamedRowsInside rows wide → RemovalsInside (removals rows) (removals wide)
removals_inside [] [] h = tt
removals_inside (r ∷ rs) (w ∷ ws) h = (h.0, h.1, behind_inside r w h.0 (removals rs) (removals ws) (removals_inside rs ws h.1))
removals_inside [] (w ∷ ws) h = absurd h
removals_inside (r ∷ rs) [] h = absurd h

-- the outcomes of the rows of two lists, pair by pair
abbrev pub Leaves : (wide inside : Removal → Outcome) → (ys xs : List Removal) → Type 0
Leaves wide inside [] [] = Unit {0}
Leaves wide inside (y ∷ ys) (x ∷ xs) = LeavesOutcome (wide y) (inside x) × Leaves wide inside ys xs
Leaves wide inside ys xs = ⊥

leaves_all : (wide inside : Removal → Outcome) → ((x y : Removal) → NamedInside x.row y.row → NamedRowsInside x.rest y.rest → LeavesOutcome (wide y) (inside x))
    → (xs ys : List Removal) → RemovalsInside xs ys → Leaves wide inside ys xs
leaves_all wide inside each [] [] h = tt
leaves_all wide inside each (x ∷ xs) (y ∷ ys) h = (each x y h.0 h.1, leaves_all wide inside each xs ys h.2)
leaves_all wide inside each [] (y ∷ ys) h = absurd h
leaves_all wide inside each (x ∷ xs) [] h = absurd h

leaves_passes : (o i : Outcome) → LeavesOutcome o i → o ≡ Passes → i ≡ Passes
leaves_passes Passes i h e = h
leaves_passes Fails i h e = absurd (cc)
leaves_passes Straddles i h e = absurd (cc)
leaves_passes Overflows i h e = absurd (cc)

leaves_fails : (o i : Outcome) → LeavesOutcome o i → is_fails o ≡ true → is_fails i ≡ true
leaves_fails Passes i h e = absurd (cc)
leaves_fails Fails i h e = rw h refl
leaves_fails Straddles i h e = absurd (cc)
leaves_fails Overflows i h e = absurd (cc)

no_overflow : (i : Outcome) → i ≢ Overflows → is_overflows i ≡ false
no_overflow Passes n = refl
no_overflow Fails n = refl
no_overflow Straddles n = refl
no_overflow Overflows n = absurd (n refl)

leaves_calm : (o i : Outcome) → LeavesOutcome o i → is_overflows o ≡ false → is_overflows i ≡ false
leaves_calm Passes i h e = rw h refl
leaves_calm Fails i h e = rw h refl
leaves_calm Straddles i h e = no_overflow i h
leaves_calm Overflows i h e = absurd (cc)

pub if_none : (b : Bool) (p : ℕ) (next : Option ℕ) → (if b then Some p else next) ≡ None → (b ≡ false) × (next ≡ None)
if_none true p next e = absurd (cc)
if_none false p next e = (refl, e)

pub if_some : (b : Bool) (p : ℕ) (next : Option ℕ) → (b ≡ true) ⊎ ((q : ℕ) × (next ≡ Some q)) → (q : ℕ) × ((if b then Some p else next) ≡ Some q)
if_some true p next h = (p, refl)
if_some false p next (inl e) = absurd (cc)
if_some false p next (inr h) = h

pub some_if : (b : Bool) (p q : ℕ) (next : Option ℕ) → (if b then Some p else next) ≡ Some q → (b ≡ true) ⊎ (next ≡ Some q)
some_if true p q next e = inl refl
some_if false p q next e = inr e

-- each outcome passes
abbrev pub Passing : (Removal → Outcome) → List Removal → Type 0
Passing f [] = Unit {0}
Passing f (x ∷ xs) = (f x ≡ Passes) × Passing f xs

passes_of : (o : Outcome) → is_overflows o ≡ false → is_fails o ≡ false → is_straddles o ≡ false → o ≡ Passes
passes_of Passes a b c = refl
passes_of Fails a b c = absurd (cc)
passes_of Straddles a b c = absurd (cc)
passes_of Overflows a b c = absurd (cc)

pub passing : (f : Removal → Outcome) (xs : List Removal) → first_such is_overflows f xs ≡ None → first_such is_fails f xs ≡ None → first_such is_straddles f xs ≡ None → Passing f xs
passing f [] a b c = tt
passing f (x ∷ xs) a b c =
    let p = if_none (is_overflows (f x)) x.row.prn (first_such is_overflows f xs) a in
    let q = if_none (is_fails (f x)) x.row.prn (first_such is_fails f xs) b in
    let r = if_none (is_straddles (f x)) x.row.prn (first_such is_straddles f xs) c in
    (passes_of (f x) p.0 q.0 r.0, passing f xs p.1 q.1 r.1)

none_passing : (is : Outcome → Bool) → is Passes ≡ false → (f : Removal → Outcome) (xs : List Removal) → Passing f xs → first_such is f xs ≡ None
none_passing is n f [] h = refl
none_passing is n f (x ∷ xs) h = rw (h.0, n) (none_passing is n f xs h.1)

passing_kept : (wide inside : Removal → Outcome) (ys xs : List Removal) → Leaves wide inside ys xs → Passing wide ys → Passing inside xs
passing_kept wide inside [] [] l h = tt
passing_kept wide inside (y ∷ ys) (x ∷ xs) l h = (leaves_passes (wide y) (inside x) l.0 h.0, passing_kept wide inside ys xs l.1 h.1)
passing_kept wide inside [] (x ∷ xs) l h = absurd l
passing_kept wide inside (y ∷ ys) [] l h = absurd l

calm_kept : (wide inside : Removal → Outcome) (ys xs : List Removal) → Leaves wide inside ys xs → first_such is_overflows wide ys ≡ None → first_such is_overflows inside xs ≡ None
calm_kept wide inside [] [] l h = refl
calm_kept wide inside (y ∷ ys) (x ∷ xs) l h =
    let p = if_none (is_overflows (wide y)) y.row.prn (first_such is_overflows wide ys) h in
    rw (leaves_calm (wide y) (inside x) l.0 p.0) (calm_kept wide inside ys xs l.1 p.1)
calm_kept wide inside [] (x ∷ xs) l h = absurd l
calm_kept wide inside (y ∷ ys) [] l h = absurd l

fails_kept : (wide inside : Removal → Outcome) (ys xs : List Removal) → Leaves wide inside ys xs → (p : ℕ) → first_such is_fails wide ys ≡ Some p → (q : ℕ) × (first_such is_fails inside xs ≡ Some q)
fails_kept wide inside [] [] l p h = absurd (cc)
fails_kept wide inside (y ∷ ys) (x ∷ xs) l p h =
    if_some (is_fails (inside x)) x.row.prn (first_such is_fails inside xs)
    (elim (some_if (is_fails (wide y)) y.row.prn p (first_such is_fails wide ys) h) [
      | inl e ↦ inl (leaves_fails (wide y) (inside x) l.0 e)
      | inr e ↦ inr (fails_kept wide inside ys xs l.1 p e)
    ])
fails_kept wide inside [] (x ∷ xs) l p h = absurd l
fails_kept wide inside (y ∷ ys) [] l p h = absurd l

-- the two ways in which a list's slopes are decided
slopes_left : (a b c d e f : Option ℕ)
    → (a ≡ None → b ≡ None → c ≡ None → (d ≡ None) × (e ≡ None) × (f ≡ None))
    → (a ≡ None → (p : ℕ) → b ≡ Some p → (d ≡ None) × ((q : ℕ) × (e ≡ Some q)))
    → LeavesVerdict (of_slopes a b c) (of_slopes d e f)
slopes_left (Some p) b c d e f pass fail = tt
slopes_left None (Some p) c d e f pass fail = let h = fail refl p refl in rw (h.0, h.1.1) refl
slopes_left None None (Some p) d e f pass fail = tt
slopes_left None None None d e f pass fail = let h = pass refl refl refl in rw (h.0, h.1, h.2) refl

pub slopes_kept : (wide inside : Removal → Outcome) (ys xs : List Removal) → Leaves wide inside ys xs → LeavesVerdict (slopes_of wide ys) (slopes_of inside xs)
slopes_kept wide inside ys xs l =
    slopes_left (first_such is_overflows wide ys) (first_such is_fails wide ys) (first_such is_straddles wide ys)
    (first_such is_overflows inside xs) (first_such is_fails inside xs) (first_such is_straddles inside xs)
    (λ a b c. let p = passing_kept wide inside ys xs l (passing wide ys a b c) in
    (none_passing is_overflows refl inside xs p, none_passing is_fails refl inside xs p, none_passing is_straddles refl inside xs p))
    (λ a p b. (calm_kept wide inside ys xs l a, fails_kept wide inside ys xs l p b))

-- the test of an end against the least determinant, with what it tells
pub below_least : (z : ℤ) → ((lt_z z least_units ≡ true) × (z <ℤ least_units)) ⊎ ((lt_z z least_units ≡ false) × (least_units ≤ℤ z))
below_least z = by_lt_z z least_units (λ h. inl (grind (arith, ints), h)) (λ h. inr (grind (arith, ints), h))

above : (z : ℤ) → least_units ≤ℤ z → lt_z z least_units ≡ false
above z h = grind (arith, ints)

under : (z : ℤ) → z <ℤ least_units → lt_z z least_units ≡ true
under z h = grind (arith, ints)

determinant_left : (d e : Ends) (inside wide : Verdict) → IsInside d e → LeavesVerdict wide inside → LeavesVerdict (of_determinant e wide) (of_determinant d inside)
determinant_left d e inside wide i l = elim (below_least e.hi) [
  | inl p ↦ let high = i.high in let lt = p.1 in rw (p.0, under d.hi (omega (arith, ints))) refl
  | inr q ↦ elim (below_least e.lo) [
    | inl p ↦ rw (q.0, p.0) tt
    | inr p ↦
        let low = i.low in let ordered = i.ordered in let le = p.1 in
        rw (q.0, p.0, above d.hi (omega (arith, ints)), above d.lo (omega (arith, ints))) l
  ]
]

pub if_left : (b : Bool) (w : Why) (inside wide : Verdict) → LeavesVerdict wide inside → LeavesVerdict (if b then Unavailable w else wide) (if b then Unavailable w else inside)
if_left true w inside wide l = refl
if_left false w inside wide l = l

pub detect_left : {shift : SquaredShift} (test : SlopeTest) → HoldsSlopes shift test → (rows wide : List NamedRow) (kappa wide_kappa : Ends) → NamedRowsInside rows wide → IsInside kappa wide_kappa
    → LeavesVerdict (detect_by test wide wide_kappa) (detect_by test rows kappa)
unfolding detect_by
detect_left test holds rows wide kappa wide_kappa i k =
    rw (inside_length rows wide i)
    (if_left (nat_lt (length wide) 5) why.Few _ _
    (determinant_left (test.determinant rows) (test.determinant wide) _ _ (holds.determinant_isotone rows wide i)
    (slopes_kept (λ y. test.outcome wide y wide_kappa) (λ x. test.outcome rows x kappa) (removals wide) (removals rows)
    (leaves_all (λ y. test.outcome wide y wide_kappa) (λ x. test.outcome rows x kappa)
    (λ x y r s. holds.outcome_isotone rows wide x y kappa wide_kappa i r s k)
    (removals rows) (removals wide) (removals_inside rows wide i)))))

unless_left : (wide inside wide_next next : Verdict) → LeavesVerdict wide inside → LeavesVerdict wide_next next → LeavesVerdict (unless_passes wide wide_next) (unless_passes inside next)
unless_left Available inside wide_next next l m = rw l m
unless_left (Unavailable w) inside wide_next next l m = rw l refl
unless_left (Undecided c) inside wide_next next l m = tt
unless_left (Overflow p) inside wide_next next l m = tt

named_left : (p q : ℕ) (wide inside : Verdict) → LeavesVerdict wide inside → LeavesVerdict (named_without p wide) (named_without q inside)
named_left p q Available inside l = rw l refl
named_left p q (Unavailable w) inside l = rw l refl
named_left p q (Undecided c) inside l = tt
named_left p q (Overflow r) inside l = tt

open_left : (wide inside : List NamedRow → Verdict) → ((rows wides : List NamedRow) → NamedRowsInside rows wides → LeavesVerdict (wide wides) (inside rows))
    → (xs ys : List Removal) → RemovalsInside xs ys → LeavesVerdict (first_open wide ys) (first_open inside xs)
open_left wide inside each [] [] h = refl
open_left wide inside each (x ∷ xs) (y ∷ ys) h =
    unless_left (named_without y.row.prn (wide y.rest)) (named_without x.row.prn (inside x.rest)) (first_open wide ys) (first_open inside xs)
    (named_left y.row.prn x.row.prn (wide y.rest) (inside x.rest) (each x.rest y.rest h.1)) (open_left wide inside each xs ys h.2)
open_left wide inside each [] (y ∷ ys) h = absurd h
open_left wide inside each (x ∷ xs) [] h = absurd h

pub exclude_left : {shift : SquaredShift} (test : SlopeTest) → HoldsSlopes shift test → (rows wide : List NamedRow) (kappa wide_kappa kappa_less wide_less : Ends) → NamedRowsInside rows wide → IsInside kappa wide_kappa → IsInside kappa_less wide_less
    → LeavesVerdict (exclude_by test wide wide_kappa wide_less) (exclude_by test rows kappa kappa_less)
unfolding exclude_by
exclude_left test holds rows wide kappa wide_kappa kappa_less wide_less i k l =
    rw (inside_length rows wide i)
    (if_left (nat_lt (length wide) 6) why.Few _ _
    (unless_left (detect_by test wide wide_kappa) (detect_by test rows kappa) _ _
    (detect_left test holds rows wide kappa wide_kappa i k)
    (open_left (λ rest. detect_by test rest wide_less) (λ rest. detect_by test rest kappa_less)
    (λ rest wides j. detect_left test holds rest wides kappa_less wide_less j l)
    (removals rows) (removals wide) (removals_inside rows wide i))))
