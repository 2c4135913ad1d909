-- How contracts see a sine and a cosine of the program.
use Rattle.std.specs.Prelude.{ℕ}
use Rattle.time_forms.specs.Programs.{form, IsFormWithin}
use Rattle.orbit_forms.specs.Positions.{PairForm}
use Rattle.angle_forms.specs.declared.sine_cosine.SineCosine.{SineCosine}

abbrev pub pair_form : SineCosine → PairForm
pair_form p = record { sine = form p.sine; cosine = form p.cosine }

-- the numbers of both forms have a magnitude of at most m
pub record IsPairWithin (p : PairForm) (m : ℕ) : Type 0 where
  pub sine : IsFormWithin p.sine m
  pub cosine : IsFormWithin p.cosine m
