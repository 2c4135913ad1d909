-- Sums of wide forms within bounds.
use Rattle.std.specs.Prelude.{ℕ, ◌≤◌}
use Rattle.std.proofs.Common.{arith}
use Rattle.std.proofs.lemmas.Int.{ints}
use Rattle.time_forms.specs.Forms.{Form}
use Rattle.time_forms.specs.Programs.{IsFormWithin}

pub weaken : (f : Form) (m n : ℕ) → m ≤ n → IsFormWithin f m → IsFormWithin f n
weaken f m n p q =
    let cl = q.centre_low in let ch = q.centre_high in let tl = q.turning_low in let th = q.turning_high in let rl = q.remainder_low in let rh = q.remainder_high in
    record {
      centre_low = omega (arith, ints);
      centre_high = omega (arith, ints);
      turning_low = omega (arith, ints);
      turning_high = omega (arith, ints);
      remainder_low = omega (arith, ints);
      remainder_high = omega (arith, ints);
    }
