-- What the program tells along a line is what the definition tells.
use Rattle.std.specs.Prelude.{◌≡◌, ℕ, ℤ, ◌^◌, pos, Bool, true, false, ◌&&◌, if◌then◌else◌, Some, None, IfSome, unwrap_or, refl}
use Rattle.std.specs.declared.option.Option.{Option}
use Rattle.std.proofs.Common.{ap, ap₂, sym, subst, ◌∙◌, inl, inr}
use lib.Signed.{le_z}
use Rattle.fix_interval.specs.Ends.{Ends}
use Rattle.verdict_laws.specs.Sights.{Sight}
use Rattle.time_forms.specs.Forms.{Form, least_of}
use Rattle.time_forms.specs.Operations.{fixed_of, sub_form, mul_form}
use Rattle.time_forms.proofs.Shorts.{both_hold}
use Rattle.orbit_forms.specs.Positions.{VectorForm}
use Rattle.look_forms.specs.Frames.{FrameForm}
use Rattle.look_forms.specs.Looks.{LookTold, told_visible, told_hidden, not_told, sight_told as look_by, line_form, dot_form, squares_form, range_form, line_told, look_told, has_direction, direction_form, weighed_form}
use Rattle.verdict_forms.specs.Sights.{SightTold, sure_visible, sure_hidden, SightHolds, with_direction, sight_form}
use Rattle.sight_forms.specs.declared.time_sight.TimeSight.{TimeSight}
use Rattle.sight_forms.specs.declared.time_sight.TimeSight.TheVariants.{Unsure}
use Rattle.sight_forms.specs.Views.{sight_told, IsOrUnsure}
use Rattle.sight_forms.specs.Sights.{is_hidden, is_visible, sight_along}

-- ---- along a line
-- the forms that the program has of it
pub record AreOf (frame : FrameForm) (d : VectorForm) (mask : Form) (range upward beyond : Form) : Type 0 where
  pub some : le_z (pos 1) (least_of (squares_form d)) ≡ true
  pub is_range : range ≡ range_form d
  pub is_upward : upward ≡ dot_form frame.up d
  pub is_beyond : beyond ≡ sub_form upward (mul_form mask range)

pub are_of : {up : VectorForm} (frame : FrameForm) (d : VectorForm) (mask range upward beyond : Form) → le_z (pos 1) (least_of (squares_form d)) ≡ true → range ≡ range_form d → upward ≡ dot_form up d → up ≡ frame.up
    → beyond ≡ sub_form upward (mul_form mask range) → AreOf frame d mask range upward beyond
are_of frame d mask range upward beyond s r u e b = record { some = s; is_range = r; is_upward = u ∙ ap (λ (v : VectorForm). dot_form v d) e; is_beyond = b }

look_is : (frame : FrameForm) (d : VectorForm) (mask range upward beyond : Form) → AreOf frame d mask range upward beyond → line_told frame d mask ≡ look_by range beyond
unfolding line_told
look_is frame d mask range upward beyond a =
    ap (λ (b : Bool). if b then look_by (range_form d) (sub_form (dot_form frame.up d) (mul_form mask (range_form d))) else not_told) a.some
    ∙ sym (ap₂ look_by a.is_range (a.is_beyond ∙ ap₂ (λ (u r : Form). sub_form u (mul_form mask r)) a.is_upward a.is_range))

pub hidden_along : (frame : FrameForm) (d : VectorForm) (mask range upward beyond k : Form) → AreOf frame d mask range upward beyond → true ≡ is_hidden range beyond → sure_hidden ≡ sight_along frame d mask k
hidden_along frame d mask range upward beyond k a e =
    sym (ap (λ (t : LookTold). with_direction t (has_direction d) (weighed_form (direction_form frame d) k)) (look_is frame d mask range upward beyond a ∙ chosen (is_hidden range beyond) e))
  where
    chosen : (b : Bool) → true ≡ b → (if b then told_hidden else (if is_visible range beyond then told_visible else not_told)) ≡ told_hidden
    chosen b q = rw (sym q) refl

pub visible_along : (frame : FrameForm) (d : VectorForm) (mask range upward beyond k : Form) → AreOf frame d mask range upward beyond → false ≡ is_hidden range beyond → true ≡ is_visible range beyond
    → sure_visible (weighed_form (direction_form frame d) k) ≡ sight_along frame d mask k
visible_along frame d mask range upward beyond k a n e =
    sym (ap₂ (λ (t : LookTold) (b : Bool). with_direction t b (weighed_form (direction_form frame d) k)) (look_is frame d mask range upward beyond a ∙ chosen (is_hidden range beyond) (is_visible range beyond) n e) direct)
  where
    chosen : (b c : Bool) → false ≡ b → true ≡ c → (if b then told_hidden else (if c then told_visible else not_told)) ≡ told_visible
    chosen b c p q = rw (sym p, sym q) refl

    far : le_z (pos (2 ^ 38)) (least_of (range_form d)) ≡ true
    far = ap (λ (r : Form). le_z (pos (2 ^ 38)) (least_of r)) (sym a.is_range) ∙ sym (both_hold (le_z (pos (2 ^ 38)) (least_of range)) (le_z (pos 0) (least_of beyond)) e).0

    direct : has_direction d ≡ true
    direct = ap₂ ◌&&◌ a.some far

-- ---- nothing is told where there is no answer
pub visible_or_unsure : (r : Option TimeSight) (t u : SightTold) → IfSome r (λ s. sight_told s ≡ t) → t ≡ u → IfSome r (λ s. IsOrUnsure (sight_told s) u)
visible_or_unsure None t u h e = tt
visible_or_unsure (Some s) t u h e = inr (h ∙ e)

pub sight_or_unsure : (r : Option TimeSight) (s : TimeSight) (u : SightTold) → IfSome r (λ x. IsOrUnsure (sight_told x) u) → s ≡ unwrap_or r Unsure → IsOrUnsure (sight_told s) u
sight_or_unsure None s u h e = inl (ap sight_told e)
sight_or_unsure (Some x) s u h e = subst (λ (y : TimeSight). IsOrUnsure (sight_told y) u) (sym e) h

-- what is told is so where what the definition tells is
pub tells_so : (h : ℕ) (d : ℤ) (t u : SightTold) (sight : Sight) → IsOrUnsure t u → SightHolds h d u sight → SightHolds h d t sight
tells_so h d t u sight a p = elim a [
  | inl e ↦ subst (λ (s : SightTold). SightHolds h d s sight) (sym e) tt
  | inr e ↦ subst (λ (s : SightTold). SightHolds h d s sight) (sym e) p
]

-- ---- along the line to a satellite it is the look of the definition
pub along-is : (frame : FrameForm) (sat d : VectorForm) (mask k : Ends) (fm fk : Form) → d ≡ line_form frame.position sat → fm ≡ fixed_of mask → fk ≡ fixed_of k → sight_along frame d fm fk ≡ sight_form frame sat mask k
unfolding sight_form look_told
along-is frame sat d mask k fm fk p q r = λ i. sight_along frame (p i) (q i) (r i)
