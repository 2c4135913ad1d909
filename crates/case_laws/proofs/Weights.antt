-- The weight of a satellite, rounded outward: it holds that of the model, and is from 0 to 1.
use Rattle.std.specs.Prelude.{ℕ, ◌^◌, suc, pos, ◌==◌, All, List, [], ◌∷◌, refl}
use Rattle.std.proofs.Common.{arith, inl, inr}
use Rattle.std.proofs.lemmas.Bool.{cases_Bool}
use Rattle.raim_model.specs.declared.limits.Weight.{Weight}
use Rattle.raim_model.specs.Ranges.{IsWeight}
use Rattle.raim_model.specs.Weights.{weight_of}
use Rattle.fractions.specs.Fraction.{zeroᶠ, ratio, ◌≤ᶠ◌}
use Rattle.fractions.proofs.Laws.{≤ᶠ_trans}
use Rattle.fractions.proofs.StrictOrder.{<ᶠ_at_most}
use Rattle.fractions.proofs.Quote.{quote}
use Rattle.fractions.proofs.Certificates.{constants}
use Rattle.fix_interval.specs.Ends.{IsInside}
use Rattle.fix_interval.specs.Lies.{Lies}
use Rattle.fix_interval.specs.Ranges.{unit_ends}
use Rattle.fix_interval.proofs.EndDecimals.{from_dec_encloses, from_dec_inside}
use Rattle.fix_interval.proofs.EndInsides.{inside_self}
use Rattle.geom_laws.proofs.Rows.{one_lies}
use Rattle.site_laws.proofs.LookEncloses.{lies_ordered}
use Rattle.case_laws.specs.SightOver.{weight_over}

-- the weight of the model lies in it
pub weight_encloses : (ws : List Weight) (prn : ℕ) → Lies (weight_over ws prn) 38 (weight_of ws prn)
weight_encloses [] prn = one_lies
weight_encloses (w ∷ ws) prn = elim (cases_Bool (w.prn == prn)) [
  | inl e ↦ rw e (from_dec_encloses w.k refl)
  | inr e ↦ rw e (weight_encloses ws prn)
]

-- it is an interval
pub weight_self : (ws : List Weight) (prn : ℕ) → IsInside (weight_over ws prn) (weight_over ws prn)
weight_self ws prn = inside_self (weight_over ws prn) (lies_ordered (weight_encloses ws prn))

-- no units are 0
no_units : ratio (pos 0) (2 ^ 38) ≤ᶠ zeroᶠ
no_units = constants (search quote depth 20) tt

-- from 0 to 1
pub weight_bounded : (ws : List Weight) (prn : ℕ) → All IsWeight ws → IsInside (weight_over ws prn) unit_ends
weight_bounded [] prn h = record { low = record { le = tt }; ordered = record { le = tt }; high = record { le = tt } }
weight_bounded (w ∷ ws) prn h =
    let i : IsWeight w = h 0 w (omega arith) in
    elim (cases_Bool (w.prn == prn)) [
      | inl e ↦ rw e (from_dec_inside w.k (pos 0) (pos (2 ^ 38)) (≤ᶠ_trans no_units (<ᶠ_at_most i.above)) (≤ᶠ_trans i.at_most one_lies.high))
      | inr e ↦ rw e (weight_bounded ws prn (λ k d p. h (suc k) d (omega arith)))
    ]
