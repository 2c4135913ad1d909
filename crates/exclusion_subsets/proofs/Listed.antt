-- What is known of lists that pass.
use Rattle.std.specs.Prelude.{◌≡◌, ℕ, Bool, false, List, slice_index_or}
use Rattle.std.proofs.Common.{◌≢◌, ap, sym, inl, inr, ◌∙◌}
use Rattle.fix_interval.specs.Ends.{Ends}
use Rattle.geometry_laws.specs.Without.{without}
use Rattle.slope_laws.specs.declared.Shift.{Shift}
use Rattle.raim_model.specs.declared.Verdict.{Verdict}
use Rattle.raim_model.specs.declared.Verdict.TheVariants.{Available}
use Rattle.slope_laws.specs.Rows.{NamedRow}
use Rattle.slope_laws.specs.Subsets.{named_without}
use Rattle.slope_laws.specs.ShiftSlopes.{detect_of}
use Rattle.slope_test.specs.Marks.{ListsPass}
use Rattle.slope_test.proofs.MarkLemmas.{same_or_not}

-- one more that passes
pub lists_more : (shift : Shift) (rows : List NamedRow) (kappa_less : Ends) (old new : List Bool) (j : ℕ) → ListsPass shift rows kappa_less old → detect_of shift (without j rows) kappa_less ≡ Available
    → ((k : ℕ) → k ≢ j → slice_index_or new k false ≡ slice_index_or old k false) → ListsPass shift rows kappa_less new
lists_more shift rows kappa_less old new j h e others k l t =
    elim (same_or_not k j) [
      | inl q ↦ ap (λ m. detect_of shift (without m rows) kappa_less) q ∙ e
      | inr q ↦ h k l (sym (others k q) ∙ t)
    ]

-- the name of the satellite left out changes nothing in one that passes
pub passes_named : (prn : ℕ) (v : Verdict) → v ≡ Available → Available ≡ named_without prn v
passes_named prn v e = sym (ap (named_without prn) e)
