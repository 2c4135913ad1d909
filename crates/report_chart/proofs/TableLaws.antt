-- The table has the runs that are not Available, and marks the longest.
use Rattle.std.proofs.Common.{◌≡◌, ◌≢◌, ◌∙◌, refl, sym, ℕ, ℤ, max, ◌≤◌, ◌⊎◌, inl, inr, cond, Bool, true, false, List, [], ◌∷◌, arith}
use Rattle.std.specs.Prelude.{All, Contains}
use Rattle.std.specs.List.{filter, fold}
use Rattle.std.proofs.lemmas.Bool.{cases_lt}
use Rattle.std.proofs.lemmas.List.Elements.{All-nil, All-cons, All-weaker, All-filter, All-contains, All-contains_itself, filter_passes, Contains-append_right}
use Rattle.raim_model.specs.declared.verdict.Run.{Run}
use Rattle.raim_model.specs.declared.verdict.Verdict.{Verdict}
use Rattle.raim_model.specs.declared.verdict.Verdict.TheVariants as verdict
use Rattle.report_chart.specs.Band.{ms_of_run}
use Rattle.report_chart.specs.Gaps.{is_gap, gaps_of, longest_of}
use Rattle.report_chart.specs.Laws.{TableHasGaps, LongestIsLongest}

-- the first element is contained
here : {X : Type 0} (x : X) (xs : List X) → Contains (x ∷ xs) x
here x xs = (0, omega arith, refl)

-- what a filter keeps
kept : {X : Type 0} (p : X → Bool) (xs : List X) → All (λ x. p x ≡ true → Contains (filter p xs) x) xs
kept {X} p [] = All-nil (λ x. p x ≡ true → Contains (filter p []) x)
kept {X} p (x ∷ xs) =
    All-cons (λ y. p y ≡ true → Contains (filter p (x ∷ xs)) y) x xs (λ passes. first (p x) passes)
    (All-weaker (λ y. p y ≡ true → Contains (filter p xs) y) (λ y. p y ≡ true → Contains (filter p (x ∷ xs)) y) (λ y h passes. later (p x) y (h passes)) xs (kept p xs))
  where
    first : (b : Bool) → b ≡ true → Contains (cond b (x ∷ filter p xs) (filter p xs)) x
    first true passes = here x (filter p xs)
    first false passes = cc

    later : (b : Bool) (y : X) → Contains (filter p xs) y → Contains (cond b (x ∷ filter p xs) (filter p xs)) y
    later true y has = Contains-append_right (x ∷ []) (filter p xs) y has
    later false y has = has

-- a run is a gap where it is not Available
not_available : (first end : ℤ) (v : Verdict) → is_gap (record { first = first; end = end; verdict = v }) ≡ true → v ≢ verdict.Available
not_available first end verdict.Available gap = λ e. cc
not_available first end (verdict.Unavailable why) gap = λ e. cc
not_available first end (verdict.Undecided cmp) gap = λ e. cc
not_available first end (verdict.Overflow prn) gap = λ e. cc

gap_of : (first end : ℤ) (v : Verdict) → v ≢ verdict.Available → is_gap (record { first = first; end = end; verdict = v }) ≡ true
gap_of first end verdict.Available other = absurd (other refl)
gap_of first end (verdict.Unavailable why) other = refl
gap_of first end (verdict.Undecided cmp) other = refl
gap_of first end (verdict.Overflow prn) other = refl

pub gaps : TableHasGaps
gaps runs run = (
  λ has. (
    All-contains (Contains runs) (gaps_of runs) run (All-filter is_gap (Contains runs) runs (All-contains_itself runs)) has,
    not_available run.first run.end run.verdict (All-contains (λ r. is_gap r ≡ true) (gaps_of runs) run (filter_passes is_gap runs) has),
  ),
  λ both. All-contains (λ r. is_gap r ≡ true → Contains (gaps_of runs) r) runs run (kept is_gap runs) both.0 (gap_of run.first run.end run.verdict both.1),
)

-- a maximum that is carried along a list is no less than where it began, and than each element
carried : (m : ℕ) (runs : List Run) → (m ≤ fold (λ ms run. max ms (ms_of_run run)) m runs) × All (λ run. ms_of_run run ≤ fold (λ ms run. max ms (ms_of_run run)) m runs) runs
carried m [] = (omega arith, All-nil (λ run. ms_of_run run ≤ m))
carried m (run ∷ more) =
    let rest = carried (max m (ms_of_run run)) more in
    (omega (arith, rest.0), All-cons (λ r. ms_of_run r ≤ fold (λ ms run. max ms (ms_of_run run)) (max m (ms_of_run run)) more) run more (omega (arith, rest.0)) rest.1)

-- and is where it began, or an element
reached : (m : ℕ) (runs : List Run) → (fold (λ ms run. max ms (ms_of_run run)) m runs ≡ m)
    ⊎ ((run : Run) × Contains runs run × (ms_of_run run ≡ fold (λ ms run. max ms (ms_of_run run)) m runs))
reached m [] = inl refl
reached m (run ∷ more) = elim (reached (max m (ms_of_run run)) more) [
  | inl same ↦ elim (bigger m (ms_of_run run)) [ inl e ↦ inl (same ∙ e) | inr e ↦ inr (run, here run more, sym (same ∙ e)) ]
  | inr has ↦ inr (has.0, Contains-append_right (run ∷ []) more has.0 has.1, has.2)
]
  where
    bigger : (a b : ℕ) → (max a b ≡ a) ⊎ (max a b ≡ b)
    bigger a b = elim (cases_lt a b) [ inl below ↦ inr (omega (arith, below)) | inr above ↦ inl (omega (arith, above)) ]

-- of runs that are some, the longest is one of them
some_longest : (runs : List Run) → runs ≢ [] → (run : Run) × Contains runs run × (ms_of_run run ≡ longest_of runs)
some_longest [] some = absurd (some refl)
some_longest (run ∷ more) some = elim (reached (max 0 (ms_of_run run)) more) [
  | inl same ↦ (run, here run more, sym (same ∙ first (ms_of_run run)))
  | inr has ↦ (has.0, Contains-append_right (run ∷ []) more has.0 has.1, has.2)
]
  where
    first : (n : ℕ) → max 0 n ≡ n
    first n = omega arith

pub longest : LongestIsLongest
longest runs = ((carried 0 (gaps_of runs)).1, some_longest (gaps_of runs))
