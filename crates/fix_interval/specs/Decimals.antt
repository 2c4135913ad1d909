-- Decimals as intervals: the fraction that a decimal stands for, rounded outward.
use Rattle.std.specs.Prelude.{ℕ, ◌*◌, ◌^◌}
use Rattle.raim_model.specs.declared.decimal.Dec.{Dec}
use Rattle.raim_model.specs.Decimal.{signed}
use Rattle.fix_interval.specs.Ends.{Ends}
use Rattle.fix_interval.specs.Quotients.{outward_of}

-- d / k at scale 38
unfoldable pub from_dec_over_of : Dec → ℕ → Ends
from_dec_over_of d k = outward_of (signed d.neg d.digits) (10 ^ d.places * k) 38

-- d at scale 38
unfoldable pub from_dec_of : Dec → Ends
from_dec_of d = from_dec_over_of d 1

-- d / 1000 at scale 56
unfoldable pub dec56_milli_of : Dec → Ends
dec56_milli_of d = outward_of (signed d.neg d.digits) (10 ^ d.places * 1000) 56

-- d at scale 76
unfoldable pub dec76_of : Dec → Ends
dec76_of d = outward_of (signed d.neg d.digits) (10 ^ d.places) 76
