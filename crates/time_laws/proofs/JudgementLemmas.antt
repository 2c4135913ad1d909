-- Laws of halving: what is halved, and how many judgements it takes.
use Rattle.std.proofs.Common.{◌≡◌, ◌≢◌, ◌↔◌, ℕ, ◌+◌, ◌<◌, ◌≤◌, add-one, suc, zero, true, false, refl, ap, sym, subst, ◌∙◌, arith, Bool, cond, not, ◌&&◌}
use Rattle.std.specs.Prelude.{ℤ, pos, ◌+ℤ◌, ◌-ℤ◌, ◌≤ℤ◌, ◌<ℤ◌, unsigned_abs, int_lt}
use Rattle.std.proofs.lemmas.Int.{ints, by_lt_z}
use Rattle.raim_model.specs.declared.Piece.{Piece}
use Rattle.raim_model.specs.declared.Piece.TheVariants.{Decided, Split}
use Rattle.raim_model.specs.declared.Verdict.{Verdict}
use Rattle.raim_model.specs.Judgements.{Answers, is_certain, middle_of, judgements_within, judgements}
use Rattle.raim_model.specs.Runs.{Holds}

-- a piece is to be halved exactly where it has several milliseconds and its verdict is not certain
pub Split-exactly : (first last : ℤ) (v : Verdict) (piece : Piece) → first ≤ℤ last → Answers first last v piece → ((piece ≡ Split) ↔ ((first <ℤ last) × (is_certain v ≡ false)))
Split-exactly first last v Split le answer = (λ e. answer, λ open_. refl)
Split-exactly first last v (Decided d) le answer = (λ e. cc, λ open_. let one = answer.1 open_.1 in let lt : first <ℤ last = open_.0 in absurd (omega (arith, ints)))

-- and of any other piece the verdict is given
pub Decided-otherwise : (first last : ℤ) (v : Verdict) (piece : Piece) → Answers first last v piece → piece ≢ Split → piece ≡ Decided v
Decided-otherwise first last v Split answer other = absurd (other refl)
Decided-otherwise first last v (Decided d) answer other = ap Decided answer.0

-- a settled piece has one verdict throughout
pub settled-Holds : (w : ℤ → ℤ → Verdict) (first last : ℤ) (v : Verdict) → v ≡ w first last → (is_certain (w first last) ≡ false → first ≡ last) →
    (is_certain (w first last) ≡ true → (t : ℤ) → first ≤ℤ t → t ≤ℤ last → w t t ≡ w first last) → Holds w first (last +ℤ pos 1) v
settled-Holds w first last v is one inside =
    by_certain (is_certain (w first last)) refl one inside
  where
    by_certain : (b : Bool) → is_certain (w first last) ≡ b → (is_certain (w first last) ≡ false → first ≡ last) →
        (is_certain (w first last) ≡ true → (t : ℤ) → first ≤ℤ t → t ≤ℤ last → w t t ≡ w first last) → Holds w first (last +ℤ pos 1) v
    by_certain true e one inside = record { each = λ t low high. inside e t low (omega (arith, ints)) ∙ sym is }
    by_certain false e one inside = record {
      each = λ t low high.
          let at : first ≡ last = one e in
          let here : t ≡ first = omega (arith, ints) in
          ap (λ (x : ℤ). w x x) here ∙ ap (w first) at ∙ sym is;
    }

-- a first half begins with its piece and ends before it
middle_low : (first last : ℤ) → first ≤ℤ last → first ≤ℤ middle_of first last
middle_low first last h = omega (arith, ints)

middle_below : (first last : ℤ) → first <ℤ last → middle_of first last <ℤ last
middle_below first last h = omega (arith, ints)

-- a piece that is not certain and longer than a millisecond is judged, and then its halves
pub judgements_within-halved : (bound : ℕ) (w : ℤ → ℤ → Verdict) (first last : ℤ) → is_certain (w first last) ≡ false → first <ℤ last →
    judgements_within (suc bound) w first last ≡ 1 + judgements_within bound w first (middle_of first last) + judgements_within bound w (middle_of first last +ℤ pos 1) last
unfolding judgements_within
judgements_within-halved bound w first last open_ h =
    let lt : int_lt first last ≡ true = grind (arith, ints) in
    rw (open_, lt) refl

-- each piece takes at least one judgement
pub judgements_within-some : (bound : ℕ) (w : ℤ → ℤ → Verdict) (first last : ℤ) → 0 < bound → 1 ≤ judgements_within bound w first last
unfolding judgements_within
judgements_within-some zero w first last h = absurd (omega arith)
judgements_within-some (suc bound) w first last h =
    elim (not (is_certain (w first last)) && int_lt first last) as (λ b. 1 ≤ cond b (1 + judgements_within bound w first (middle_of first last) + judgements_within bound w (middle_of first last +ℤ pos 1) last) 1) [ true ↦ omega arith | false ↦ omega arith ]

and_false : (b : Bool) (m n : ℕ) → cond (b && false) m n ≡ n
and_false true m n = refl
and_false false m n = refl

-- a piece that is certain or has a single millisecond is judged once
judgements_within-certain : (bound : ℕ) (w : ℤ → ℤ → Verdict) (first last : ℤ) → is_certain (w first last) ≡ true → judgements_within (suc bound) w first last ≡ 1
unfolding judgements_within
judgements_within-certain bound w first last certain = rw certain refl

judgements_within-single : (bound : ℕ) (w : ℤ → ℤ → Verdict) (first last : ℤ) → last ≤ℤ first → judgements_within (suc bound) w first last ≡ 1
unfolding judgements_within
judgements_within-single bound w first last h =
    let no_more : int_lt first last ≡ false = grind (arith, ints) in
    rw no_more (and_false (not (is_certain (w first last))) _ _)

-- bounds that are no less than the length give the same judgements
judgements_within-same : (a b : ℕ) (w : ℤ → ℤ → Verdict) (first last : ℤ) → first ≤ℤ last → unsigned_abs (last -ℤ first) < a → unsigned_abs (last -ℤ first) < b → judgements_within a w first last ≡ judgements_within b w first last
judgements_within-same zero b w first last h p q = absurd (omega arith)
judgements_within-same (suc a) zero w first last h p q = absurd (omega arith)
judgements_within-same (suc a) (suc b) w first last h p q = by_lt_z first last (λ lt.
    let low = middle_low first last h in
    let high = middle_below first last lt in
    let left = judgements_within-same a b w first (middle_of first last) low (omega (arith, ints)) (omega (arith, ints)) in
    let right = judgements_within-same a b w (middle_of first last +ℤ pos 1) last (omega (arith, ints)) (omega (arith, ints)) (omega (arith, ints)) in
    by_certain (is_certain (w first last)) refl lt left right)
    (λ le. judgements_within-single a w first last le ∙ sym (judgements_within-single b w first last le))
  where
    by_certain : (c : Bool) → is_certain (w first last) ≡ c → first <ℤ last →
        judgements_within a w first (middle_of first last) ≡ judgements_within b w first (middle_of first last) →
        judgements_within a w (middle_of first last +ℤ pos 1) last ≡ judgements_within b w (middle_of first last +ℤ pos 1) last →
        judgements_within (suc a) w first last ≡ judgements_within (suc b) w first last
    by_certain true e lt left right = judgements_within-certain a w first last e ∙ sym (judgements_within-certain b w first last e)
    by_certain false e lt left right =
        let one = judgements_within-halved a w first last e lt in
        let two = judgements_within-halved b w first last e lt in
        omega arith

-- a piece takes at least one
pub judgements-some : (w : ℤ → ℤ → Verdict) (first last : ℤ) → 1 ≤ judgements w first last
unfolding judgements
judgements-some w first last = judgements_within-some _ w first last (omega arith)

-- the judgements of a piece that is neither certain nor a single millisecond
pub judgements-halved : (w : ℤ → ℤ → Verdict) (first last : ℤ) → is_certain (w first last) ≡ false → first <ℤ last →
    judgements w first last ≡ 1 + judgements w first (middle_of first last) + judgements w (middle_of first last +ℤ pos 1) last
unfolding judgements
judgements-halved w first last split lt =
    let low = middle_low first last (omega (arith, ints)) in
    let high = middle_below first last lt in
    let all = judgements_within-halved (unsigned_abs (last -ℤ first)) w first last split lt in
    let left = judgements_within-same (unsigned_abs (last -ℤ first)) (unsigned_abs (middle_of first last -ℤ first) + 1) w first (middle_of first last) low (omega (arith, ints)) (omega (arith, ints)) in
    let right = judgements_within-same (unsigned_abs (last -ℤ first)) (unsigned_abs (last -ℤ (middle_of first last +ℤ pos 1)) + 1) w (middle_of first last +ℤ pos 1) last (omega (arith, ints)) (omega (arith, ints)) (omega (arith, ints)) in
    rw (add-one (unsigned_abs (last -ℤ first))) (omega (arith, all, left, right))

-- the same, where the middle goes by a name of its own
pub judgements-halves : (w : ℤ → ℤ → Verdict) (first last middle : ℤ) → is_certain (w first last) ≡ false → first <ℤ last → middle ≡ middle_of first last →
    judgements w first last ≡ 1 + judgements w first middle + judgements w (middle +ℤ pos 1) last
judgements-halves w first last middle split lt at =
    subst (λ (m : ℤ). judgements w first last ≡ 1 + judgements w first m + judgements w (m +ℤ pos 1) last) (sym at) (judgements-halved w first last split lt)

-- those of any other piece
pub judgements-certain : (w : ℤ → ℤ → Verdict) (first last : ℤ) → is_certain (w first last) ≡ true → judgements w first last ≡ 1
unfolding judgements
judgements-certain w first last h = rw (add-one (unsigned_abs (last -ℤ first))) (judgements_within-certain _ w first last h)

pub judgements-single : (w : ℤ → ℤ → Verdict) (first : ℤ) → judgements w first first ≡ 1
unfolding judgements
judgements-single w first = rw (add-one (unsigned_abs (first -ℤ first))) (judgements_within-single _ w first first (omega (arith, ints)))
