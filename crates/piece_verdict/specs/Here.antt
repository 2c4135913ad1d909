-- Where a piece of a case's flight is: its leg and the almanac in force, by their places.
use Rattle.std.specs.Prelude.{◌≡◌, ◌+◌, ◌<◌, ℤ, ◌≤ℤ◌, ◌<ℤ◌, [], length, slice_index_or, IfSome}
use Rattle.std.specs.declared.option.Option.{Option}
use Rattle.raim_model.specs.AlmanacInForce.{in_force}
use Rattle.raim_model.specs.Route.{time_at}
use Rattle.raim_model.specs.Solution.{Case}
use Rattle.piece_verdict.specs.declared.here.Here.{Here}

-- those of the millisecond t
pub record IsHere (c : Case) (here : Here) (t : ℤ) : Type 0 where
  pub within : here.leg + 1 < length c.route
  pub started : time_at c.route here.leg ≤ℤ t
  pub not_over : t <ℤ time_at c.route (here.leg + 1)
  pub listed : here.almanac < length c.almanacs
  pub serves : slice_index_or c.almanacs here.almanac [] ≡ in_force t c.almanacs

-- where they are known
abbrev pub KnowsHere : Case → Option Here → ℤ → Type 0
KnowsHere c here t = IfSome here (λ h. IsHere c h t)
