-- The slopes of a list, told one by one: one that surely fails decides, and one of which nothing is told leaves the list open.
use Rattle.std.specs.Prelude.{◌≡◌, ℕ, zero, suc, pos, ◌+◌, ◌<◌, ◌≤◌, Bool, true, false, if◌then◌else◌, List, [], ◌∷◌, length, slice_index_or, refl}
use Rattle.std.proofs.Common.{arith, ap, sym, subst, ◌∙◌, ◌⊎◌, inl, inr, below_more}
use lib.Signed.{le_z, lt_z}
use Rattle.raim_model.specs.declared.verdict.Why.{Why}
use Rattle.raim_model.specs.declared.verdict.Why.TheVariants as why
use Rattle.time_forms.specs.Forms.{Form, least_of, greatest_of}
use Rattle.geometry_forms.specs.Rows.{RowForm}
use Rattle.geometry_forms.specs.Matrices.{SymForm}
use Rattle.geometry_forms.specs.Geometry.{gram_form, det_form}
use Rattle.matrix_forms.specs.declared.FormRow.{FormRow}
use Rattle.matrix_forms.specs.Views.{rows_of}
use Rattle.slope_laws.specs.declared.Shift.{Shift}
use Rattle.slope_forms.specs.Told.{Told, passing, failing, unknown, both_told}
use Rattle.slope_forms.specs.Slopes.{squared_form, margin_form, margin_told, slope_told, slopes_told, RemovalForm, form_removals}
use Rattle.list_forms.specs.declared.lines.Lines.{Lines}
use Rattle.list_forms.specs.Views.{is_failing, IsOrUnknown}
use Rattle.list_forms.specs.Lines.{squared_along, slope_along, removal_of}
use Rattle.list_forms.proofs.Removals.{count, removal_is}

-- ---- a slope fails for no other reason than being too large
abbrev pub FailsBySlope : Told → Type 0
FailsBySlope passing = Unit {0}
FailsBySlope (failing w) = w ≡ why.Slope
FailsBySlope unknown = Unit {0}

margin_by_slope : (m : Form) → FailsBySlope (margin_told m)
margin_by_slope m = chosen (le_z (pos 0) (least_of m)) (lt_z (greatest_of m) (pos 0))
  where
    chosen : (b c : Bool) → FailsBySlope (if b then passing else if c then failing why.Slope else unknown)
    chosen true c = tt
    chosen false true = refl
    chosen false false = tt

pub along_by_slope : (lines : Lines) (d kappa : Form) (x : RemovalForm) → FailsBySlope (slope_along lines d kappa x)
along_by_slope lines d kappa x = margin_by_slope (margin_form kappa (squared_along lines x.row) d (det_form (gram_form x.rest)))

-- ---- all slopes, from those at each place
all_pass : (f : RemovalForm → Told) (xs : List RemovalForm) → ((k : ℕ) (d : RemovalForm) → k < length xs → f (slice_index_or xs k d) ≡ passing) → slopes_told f xs ≡ passing
all_pass f [] h = refl
all_pass f (x ∷ xs) h = rw (h 0 x (omega arith)) (all_pass f xs (λ k d p. h (suc k) d (omega (arith, p))))

before_one : (t : Told) (w : Why) → FailsBySlope t → w ≡ why.Slope → both_told t (failing w) ≡ failing w
before_one passing w s e = refl
before_one (failing v) w s e = ap failing (s ∙ sym e)
before_one unknown w s e = refl

one_fails : (f : RemovalForm → Told) (xs : List RemovalForm) (i : ℕ) (d : RemovalForm) (w : Why) → ((x : RemovalForm) → FailsBySlope (f x)) → i < length xs → f (slice_index_or xs i d) ≡ failing w → slopes_told f xs ≡ failing w
one_fails f [] i d w s p e = absurd (omega (arith, p))
one_fails f (x ∷ xs) zero d w s p e = rw e refl
one_fails f (x ∷ xs) (suc i) d w s p e =
    ap (both_told (f x)) (one_fails f xs i d w s (omega (arith, p)) e)
    ∙ before_one (f x) w (s x) (subst FailsBySlope e (s (slice_index_or xs i d)))

-- ---- the loop
-- nothing is told of a slope before place i, or all of them pass
abbrev pub PassesBefore : Told → (RemovalForm → Told) → List FormRow → ℕ → Type 0
PassesBefore t f rows i = (t ≡ unknown) ⊎ ((t ≡ passing) × ((k : ℕ) (d : FormRow) → k < i → f (removal_of rows k d) ≡ passing))

pub none_before : (f : RemovalForm → Told) (rows : List FormRow) → PassesBefore passing f rows 0
none_before f rows = inr (refl, λ k d p. absurd (omega (arith, p)))

pub slopes_more : (t s new : Told) (f : RemovalForm → Told) (rows : List FormRow) (i : ℕ) → PassesBefore t f rows i → is_failing s ≡ false → ((d : FormRow) → IsOrUnknown s (f (removal_of rows i d))) → new ≡ both_told t s
    → PassesBefore new f rows (i + 1)
slopes_more t passing new f rows i h n a e = elim h [
  | inl u ↦ inl (e ∙ ap (λ (v : Told). both_told v passing) u)
  | inr g ↦ inr (e ∙ ap (λ (v : Told). both_told v passing) g.0, λ k d. below_more (λ k. f (removal_of rows k d) ≡ passing) i (λ k p. g.1 k d p) (same (a d)) k)
]
  where
    same : {u : Told} → IsOrUnknown passing u → u ≡ passing
    same (inl u) = absurd (cc)
    same (inr u) = sym u
slopes_more t (failing w) new f rows i h n a e = absurd (cc)
slopes_more t unknown new f rows i h n a e = elim h [
  | inl u ↦ inl (e ∙ ap (λ (v : Told). both_told v unknown) u)
  | inr g ↦ inl (e ∙ ap (λ (v : Told). both_told v unknown) g.0)
]

pub slopes_all : (t : Told) (f : RemovalForm → Told) (rows : List FormRow) (i : ℕ) → length rows ≤ i → PassesBefore t f rows i → IsOrUnknown t (slopes_told f (form_removals (rows_of rows)))
slopes_all t f rows i p h = elim h [
  | inl u ↦ inl u
  | inr g ↦ inr (g.0 ∙ sym (each rows p g.1))
]
  where
    each : (rows : List FormRow) → length rows ≤ i → ((k : ℕ) (d : FormRow) → k < i → f (removal_of rows k d) ≡ passing) → slopes_told f (form_removals (rows_of rows)) ≡ passing
    each [] p g = refl
    each (r ∷ rs) p g =
        let n = count (r ∷ rs) in
        all_pass f (form_removals (rows_of (r ∷ rs))) (λ k d q. ap f (removal_is (r ∷ rs) k r d (omega (arith, n, q))) ∙ g k r (omega (arith, n, p, q)))

stop_at : (s : Told) (f : RemovalForm → Told) (rows : List FormRow) (i : ℕ) (d : FormRow) → ((x : RemovalForm) → FailsBySlope (f x)) → i < length rows → is_failing s ≡ true → IsOrUnknown s (f (removal_of rows i d))
    → IsOrUnknown s (slopes_told f (form_removals (rows_of rows)))
stop_at passing f rows i d b p n a = absurd (cc)
stop_at unknown f rows i d b p n a = absurd (cc)
stop_at (failing w) f rows i d b p n a = elim a [
  | inl u ↦ absurd (cc)
  | inr g ↦
      let e : RemovalForm = removal_of rows i d in
      let m = count rows in
      inr (sym (one_fails f (form_removals (rows_of rows)) i e w b (omega (arith, m, p)) (ap f (removal_is rows i d e p) ∙ sym g)))
]

pub slopes_stop : (s : Told) (f : RemovalForm → Told) (rows : List FormRow) (i : ℕ) → ((x : RemovalForm) → FailsBySlope (f x)) → i < length rows → is_failing s ≡ true → ((d : FormRow) → IsOrUnknown s (f (removal_of rows i d)))
    → IsOrUnknown s (slopes_told f (form_removals (rows_of rows)))
slopes_stop s f [] i b p n a = absurd (omega (arith, p))
slopes_stop s f (r ∷ rs) i b p n a = stop_at s f (r ∷ rs) i r b p n (a r)

-- ---- along the lines of a shift the slopes are those of the definition
pub along_shift : (shift : Shift) (adj : SymForm) (lines : Lines) (d kappa : Form) → ((r : RowForm) → squared_along lines r ≡ squared_form shift adj r)
    → slope_along lines d kappa ≡ (λ (x : RemovalForm). slope_told shift adj d (det_form (gram_form x.rest)) x.row kappa)
unfolding slope_told
along_shift shift adj lines d kappa h = λ i. λ x. margin_told (margin_form kappa (h x.row i) d (det_form (gram_form x.rest)))
