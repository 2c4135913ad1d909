-- The weight of a satellite, looked up one by one.
use Rattle.std.specs.Prelude.{◌≡◌, ◌≢◌, ℕ, ◌+◌, ◌<◌, ◌≤◌, ◌^◌, pos, ◌≤ℤ◌, List, ◌∷◌, drop, length, slice_index_or, All, refl}
use Rattle.std.proofs.Common.{ap, sym, subst, ◌∙◌}
use Rattle.std.proofs.lemmas.Bool.{eq-eqb, ne_eqb}
use Rattle.std.proofs.lemmas.List.{drop_more, drop_all}
use Rattle.raim_model.specs.declared.limits.Weight.{Weight}
use Rattle.raim_model.specs.Ranges.{IsWeight}
use Rattle.fix_interval.specs.Ends.{Ends}
use Rattle.fix_interval.specs.Decimals.{from_dec_of}
use Rattle.fix_interval.specs.Ranges.{one_ends}
use Rattle.case_laws.specs.SightOver.{weight_over}
use Rattle.case_laws.proofs.Weights.{weight_bounded}

-- at its place
pub weight_found : (ws : List Weight) (prn i : ℕ) (d : Weight) (r : Ends) → i < length ws → (slice_index_or ws i d).prn ≡ prn → r ≡ from_dec_of (slice_index_or ws i d).k
    → weight_over ws prn ≡ weight_over (drop i ws) prn → r ≡ weight_over ws prn
weight_found ws prn i d r p e f h =
    let here : weight_over (slice_index_or ws i d ∷ drop (i + 1) ws) prn ≡ from_dec_of (slice_index_or ws i d).k = rw (eq-eqb (slice_index_or ws i d).prn prn e) refl in
    f ∙ sym (h ∙ ap (λ xs. weight_over xs prn) (drop_more ws i d p) ∙ here)

-- not at this place
pub weight_skip : (ws : List Weight) (prn i : ℕ) (d : Weight) → i < length ws → (slice_index_or ws i d).prn ≢ prn
    → weight_over ws prn ≡ weight_over (drop i ws) prn → weight_over ws prn ≡ weight_over (drop (i + 1) ws) prn
weight_skip ws prn i d p e h =
    let here : weight_over (slice_index_or ws i d ∷ drop (i + 1) ws) prn ≡ weight_over (drop (i + 1) ws) prn = rw (ne_eqb (slice_index_or ws i d).prn prn e) refl in
    h ∙ ap (λ xs. weight_over xs prn) (drop_more ws i d p) ∙ here

-- nowhere
pub weight_none : (ws : List Weight) (prn i : ℕ) (r : Ends) → length ws ≤ i → r ≡ one_ends → weight_over ws prn ≡ weight_over (drop i ws) prn → r ≡ weight_over ws prn
weight_none ws prn i r p e h = e ∙ sym (h ∙ ap (λ xs. weight_over xs prn) (drop_all i ws p))

-- it is from 0 to 1
pub weight_low : (ws : List Weight) (prn : ℕ) (r : Ends) → All IsWeight ws → r ≡ weight_over ws prn → pos 0 ≤ℤ r.lo
weight_low ws prn r h e = subst (λ x. pos 0 ≤ℤ x.lo) (sym e) (weight_bounded ws prn h).low

pub weight_high : (ws : List Weight) (prn : ℕ) (r : Ends) → All IsWeight ws → r ≡ weight_over ws prn → r.hi ≤ℤ pos (2 ^ 38)
weight_high ws prn r h e = subst (λ x. x.hi ≤ℤ pos (2 ^ 38)) (sym e) (weight_bounded ws prn h).high
