-- What forms tell of each satellite: surely visible over the piece, in a row of forms; surely hidden; or neither is known.
use Rattle.std.specs.Prelude.{◌≡◌, ℕ, ◌+◌, ℤ, Bool, true, false, ◌||◌, List, [], ◌∷◌}
use Rattle.fix_interval.specs.Ends.{Ends}
use Rattle.verdict_laws.specs.Sights.{Sight, Visible, Hidden, Straddles, Sighted}
use Rattle.time_forms.specs.Operations.{fixed_of}
use Rattle.geometry_forms.specs.Rows.{RowForm, RowHolds}
use Rattle.orbit_forms.specs.Positions.{VectorForm}
use Rattle.look_forms.specs.Frames.{FrameForm}
use Rattle.look_forms.specs.Looks.{line_form, LookTold, told_visible, told_hidden, not_told, look_told, has_direction, direction_form, weighed_form}

pub data SightTold : Type 0 where
  sure_visible : RowForm → SightTold
  sure_hidden : SightTold
  not_sure : SightTold

-- what is told is so of what is seen at d
abbrev pub SightHolds : ℕ → ℤ → SightTold → Sight → Type 0
SightHolds h d (sure_visible f) (Visible r) = RowHolds h d f r
SightHolds h d (sure_visible f) Hidden = ⊥
SightHolds h d (sure_visible f) Straddles = ⊥
SightHolds h d sure_hidden sight = sight ≡ Hidden
SightHolds h d not_sure sight = Unit {0}

-- satellite by satellite
abbrev pub SeenHold : ℕ → ℤ → List SightTold → List Sighted → Type 0
SeenHold h d [] [] = Unit
SeenHold h d (f ∷ fs) (s ∷ ss) = SightHolds h d f s.sight × SeenHold h d fs ss
SeenHold h d fs ss = ⊥

-- ---- of one satellite
-- what is told of the look, with the row of forms where there is a direction
abbrev pub with_direction : LookTold → Bool → RowForm → SightTold
with_direction told_visible true row = sure_visible row
with_direction told_visible false row = not_sure
with_direction told_hidden has row = sure_hidden
with_direction not_told has row = not_sure

-- from a frame, for the sine of the mask and the weight k
unfoldable pub sight_form : FrameForm → (sat : VectorForm) → (mask k : Ends) → SightTold
sight_form frame sat mask k =
    with_direction (look_told frame sat (fixed_of mask)) (has_direction (line_form frame.position sat))
    (weighed_form (direction_form frame (line_form frame.position sat)) (fixed_of k))

-- ---- of all
-- how many may be visible
abbrev pub one_if_told : SightTold → ℕ
one_if_told sure_hidden = 0
one_if_told told = 1

abbrev pub told_possible : List SightTold → ℕ
told_possible [] = 0
told_possible (f ∷ fs) = one_if_told f + told_possible fs

-- whether one is not known
abbrev pub is_unsure : SightTold → Bool
is_unsure not_sure = true
is_unsure told = false

abbrev pub some_unsure : List SightTold → Bool
some_unsure [] = false
some_unsure (f ∷ fs) = is_unsure f || some_unsure fs

-- the rows of the visible ones
abbrev pub with_form : SightTold → List RowForm → List RowForm
with_form (sure_visible row) rows = row ∷ rows
with_form told rows = rows

abbrev pub form_rows : List SightTold → List RowForm
form_rows [] = []
form_rows (f ∷ fs) = with_form f (form_rows fs)
