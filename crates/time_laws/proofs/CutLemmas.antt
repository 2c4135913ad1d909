-- Laws of cuts, as a loop over them meets them.
use Rattle.std.proofs.Common.{◌≡◌, ℕ, ◌+◌, ◌-◌, ◌<◌, suc, refl, sym, subst, arith, List, [], ◌∷◌, length, get_or, take, drop, drop-cons, add-one}
use Rattle.std.specs.Prelude.{ℤ, pos, ◌-ℤ◌, ◌≤ℤ◌, ◌<ℤ◌}
use Rattle.std.proofs.lemmas.Int.{ints}
use Rattle.std.proofs.lemmas.List.{take_rest}
use Rattle.raim_model.specs.declared.Verdict.{Verdict}
use Rattle.raim_model.specs.Judgements.{judgements}
use Rattle.raim_model.specs.Cuts.{IsCutTime, AreCutsFrom, AreCuts, first_cut, last_cut, last_from, judgements_from, judgements_of_all}

-- the last cut is not before the first
pub last_from-reach : (rule : ℤ → ℤ → Type 0) (first : ℤ) (cuts : List ℤ) → AreCutsFrom rule first cuts → first ≤ℤ last_from first cuts
last_from-reach rule first [] h = omega (arith, ints)
last_from-reach rule first (next ∷ cuts) h = let rest = last_from-reach rule next cuts h.3 in let lt : first <ℤ next = h.1 in omega (arith, ints)

first_is_time : (rule : ℤ → ℤ → Type 0) (first : ℤ) (cuts : List ℤ) → AreCutsFrom rule first cuts → IsCutTime first
first_is_time rule first [] h = h
first_is_time rule first (next ∷ cuts) h = h.0

-- what is known at the next cut, from what is known of the cuts that are left
pub record NextCut (rule : ℤ → ℤ → Type 0) (w : ℤ → ℤ → Verdict) (first next : ℤ) (left later : List ℤ) : Type 0 where
  pub first_time : IsCutTime first
  pub next_time : IsCutTime next
  pub rises : first <ℤ next
  pub ruled : rule first (next -ℤ pos 1)
  pub cuts : AreCutsFrom rule next later
  pub last : last_from first left ≡ last_from next later
  pub reach : next ≤ℤ last_from first left
  pub judgements_are : judgements_from w first left ≡ judgements w first (next -ℤ pos 1) + judgements_from w next later

next_cut-cons : (rule : ℤ → ℤ → Type 0) (w : ℤ → ℤ → Verdict) (first next : ℤ) (later : List ℤ) → AreCutsFrom rule first (next ∷ later) → NextCut rule w first next (next ∷ later) later
next_cut-cons rule w first next later h = record {
  first_time = h.0;
  next_time = first_is_time rule next later h.3;
  rises = h.1;
  ruled = h.2;
  cuts = h.3;
  last = refl;
  reach = last_from-reach rule next later h.3;
  judgements_are = refl;
}

pub next_cut : (rule : ℤ → ℤ → Type 0) (w : ℤ → ℤ → Verdict) (first : ℤ) (cuts : List ℤ) (i : ℕ) → i < length cuts → AreCutsFrom rule first (drop i cuts) →
    NextCut rule w first (get_or cuts i (pos 0)) (drop i cuts) (drop (i + 1) cuts)
next_cut rule w first cuts i h are =
    let e = drop-cons cuts i (pos 0) h in
    let P : List ℤ → Type 0 = λ left. AreCutsFrom rule first left in
    let Q : List ℤ → Type 0 = λ left. NextCut rule w first (get_or cuts i (pos 0)) left (drop (i + 1) cuts) in
    subst Q (sym e) (rw add-one (next_cut-cons rule w first (get_or cuts i (pos 0)) (drop (suc i) cuts) (subst P e are)))

-- a flight's cuts are its first and those that are left
pub record FirstCut (rule : ℤ → ℤ → Type 0) (w : ℤ → ℤ → Verdict) (cuts : List ℤ) (first : ℤ) (left : List ℤ) : Type 0 where
  pub cuts_left : AreCutsFrom rule first left
  pub first_is : first ≡ first_cut cuts
  pub first_time : IsCutTime first
  pub last : last_from first left ≡ last_cut cuts
  pub judgements_are : judgements_from w first left ≡ judgements_of_all w cuts

pub first_cut-left : (rule : ℤ → ℤ → Type 0) (w : ℤ → ℤ → Verdict) (cuts : List ℤ) → AreCuts rule cuts → FirstCut rule w cuts (get_or cuts 0 (pos 0)) (take (length cuts - 1) (drop 1 cuts))
first_cut-left rule w [] h = absurd h
first_cut-left rule w (only ∷ []) h = absurd h
first_cut-left rule w (first ∷ next ∷ cuts) h =
    let Q : List ℤ → Type 0 = λ left. FirstCut rule w (first ∷ next ∷ cuts) first left in
    subst Q (sym (take_rest (first ∷ next ∷ cuts) 1)) (record { cuts_left = h; first_is = refl; first_time = h.0; last = refl; judgements_are = refl })
