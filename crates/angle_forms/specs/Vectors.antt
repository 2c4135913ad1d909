-- How contracts see three forms of the program.
use Rattle.std.specs.Prelude.{ℕ, List, [], ◌∷◌}
use Rattle.time_forms.specs.declared.time_form.TimeForm.{TimeForm}
use Rattle.time_forms.specs.Operations.{bounded_of}
use Rattle.time_forms.specs.Programs.{form, IsFormWithin}
use Rattle.orbit_forms.specs.Positions.{VectorForm}

-- an array is a list in contracts, and no list of another length stands for one
abbrev pub vector_form : List TimeForm → VectorForm
vector_form (x ∷ y ∷ z ∷ []) = record { x = form x; y = form y; z = form z }
vector_form _ = record { x = bounded_of 0; y = bounded_of 0; z = bounded_of 0 }

-- the numbers of each have a magnitude of at most m
pub record IsVectorWithin (p : VectorForm) (m : ℕ) : Type 0 where
  pub x : IsFormWithin p.x m
  pub y : IsFormWithin p.y m
  pub z : IsFormWithin p.z m
