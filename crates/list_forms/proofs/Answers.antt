-- What is told where there may be no answer, and what the written test is then.
use Rattle.std.specs.Prelude.{◌≡◌, ℕ, ◌<◌, List, Some, None, IfSome, length, slice_index_or, unwrap_or}
use Rattle.std.specs.declared.option.Option.{Option}
use Rattle.std.proofs.Common.{ap, ap₂, sym, subst, ◌∙◌, inl, inr}
use Rattle.std.proofs.lemmas.List.{get_or_default}
use Rattle.raim_model.specs.declared.Verdict.{Verdict}
use Rattle.raim_model.specs.Geometry.{East, North, Up}
use Rattle.geometry_laws.specs.Without.{without}
use Rattle.slope_laws.specs.declared.Shift.{Shift}
use Rattle.slope_laws.specs.declared.Shift.TheVariants.{Horizontal, Vertical}
use Rattle.time_forms.specs.Forms.{Form}
use Rattle.geometry_forms.specs.Rows.{RowForm}
use Rattle.geometry_forms.specs.Matrices.{SymForm}
use Rattle.geometry_forms.specs.Geometry.{gram_form, det_form, inner_form, alpha_form, horizontal_form, vertical_form}
use Rattle.matrix_forms.specs.declared.FormRow.{FormRow}
use Rattle.matrix_forms.specs.Views.{row_of, rows_of}
use Rattle.matrix_forms.specs.Lines.{line_of}
use Rattle.slope_forms.specs.Told.{Told, TellsVerdict}
use Rattle.slope_forms.specs.Slopes.{squared_form, margin_form, margin_told}
use Rattle.list_forms.specs.declared.told.Told.{Told as Answer}
use Rattle.list_forms.specs.declared.told.Told.TheVariants.{Unknown}
use Rattle.list_forms.specs.declared.lines.Lines.{Lines}
use Rattle.list_forms.specs.declared.lines.Lines.TheVariants.{Across, Upward}
use Rattle.list_forms.specs.Views.{told, IsOrUnknown}
use Rattle.list_forms.specs.Lines.{squared_along, slope_along, removal_of}

-- ---- the squared shift along the rows of an adjugate
pub across : (shift : Shift) (adj : SymForm) (east north : FormRow) → shift ≡ Horizontal → row_of east ≡ line_of adj East → row_of north ≡ line_of adj North → (r : RowForm) → squared_along (Across east north) r ≡ squared_form shift adj r
unfolding alpha_form
across shift adj east north s e n r =
    ap₂ horizontal_form (ap (λ (l : RowForm). inner_form l.e l.n l.u l.k r) e) (ap (λ (l : RowForm). inner_form l.e l.n l.u l.k r) n) ∙ ap (λ (t : Shift). squared_form t adj r) (sym s)

pub upward : (shift : Shift) (adj : SymForm) (up : FormRow) → shift ≡ Vertical → row_of up ≡ line_of adj Up → (r : RowForm) → squared_along (Upward up) r ≡ squared_form shift adj r
unfolding alpha_form
upward shift adj up s e r = ap vertical_form (ap (λ (l : RowForm). inner_form l.e l.n l.u l.k r) e) ∙ ap (λ (t : Shift). squared_form t adj r) (sym s)

-- ---- what is told of the slope of the row at a place
pub slope_is : (r : Option Answer) (lines : Lines) (rows : List FormRow) (i : ℕ) (x : FormRow) (d e kappa : Form) → x ≡ slice_index_or rows i x → i < length rows → e ≡ det_form (gram_form (without i (rows_of rows)))
    → IfSome r (λ t. told t ≡ margin_told (margin_form kappa (squared_along lines (row_of x)) d e)) → IfSome r (λ t. (y : FormRow) → told t ≡ slope_along lines d kappa (removal_of rows i y))
slope_is None lines rows i x d e kappa q p f h = tt
slope_is (Some t) lines rows i x d e kappa q p f h = λ y. h ∙ ap₂ (λ (z : FormRow) (m : Form). margin_told (margin_form kappa (squared_along lines (row_of z)) d m)) (q ∙ get_or_default rows i x y p) f

-- ---- nothing is told where there is no answer
pub slope_or_unknown : (r : Option Answer) (t : Answer) (u : FormRow → Told) → IfSome r (λ x. (y : FormRow) → told x ≡ u y) → t ≡ unwrap_or r Unknown → (y : FormRow) → IsOrUnknown (told t) (u y)
slope_or_unknown None t u h e y = inl (ap told e)
slope_or_unknown (Some x) t u h e y = inr (ap told e ∙ h y)

pub list_or_unknown : (r : Option Answer) (t : Answer) (u : Told) → IfSome r (λ x. IsOrUnknown (told x) u) → t ≡ unwrap_or r Unknown → IsOrUnknown (told t) u
list_or_unknown None t u h e = inl (ap told e)
list_or_unknown (Some x) t u h e = subst (λ (y : Answer). IsOrUnknown (told y) u) (sym e) h

-- what is told is so where what the definition tells is
pub tells_so : (t u : Told) (v : Verdict) → IsOrUnknown t u → TellsVerdict u v → TellsVerdict t v
tells_so t u v a p = elim a [
  | inl e ↦ subst (λ (s : Told). TellsVerdict s v) (sym e) tt
  | inr e ↦ subst (λ (s : Told). TellsVerdict s v) (sym e) p
]
