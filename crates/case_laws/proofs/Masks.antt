-- The sine of the mask: it holds that of the model, is from -1 to 1, and narrow.
use Rattle.std.specs.Prelude.{◌*◌, ◌^◌, ◌≤ℤ◌, refl}
use lib.Dec.{lit≤}
use Rattle.std.proofs.Common.{arith, mul-pos}
use Rattle.std.proofs.lemmas.Int.{ints}
use Rattle.fractions.specs.Fraction.{Fraction}
use Rattle.raim_model.specs.declared.decimal.Dec.{Dec}
use Rattle.raim_model.specs.declared.limits.Limits.{Limits}
use Rattle.raim_model.specs.Decimal.{signed}
use Rattle.raim_model.specs.Level.{Level}
use Rattle.raim_model.specs.Sine.{IsSine}
use Rattle.raim_model.specs.Receiver.{turns_of_degrees}
use Rattle.fix_interval.specs.Ends.{IsInside, IsNarrow}
use Rattle.fix_interval.specs.Lies.{Lies}
use Rattle.fix_interval.specs.Decimals.{from_dec_over_of}
use Rattle.fix_interval.specs.Pairs.{PairLies}
use Rattle.fix_interval.specs.Ranges.{full_ends}
use Rattle.fix_interval.proofs.EndDecimals.{from_dec_over_encloses, outward_width}
use Rattle.fix_interval.proofs.Powers.{ten_positive}
use Rattle.trig_laws.specs.SinCos.{sin_cos_of}
use Rattle.trig_laws.proofs.Encloses.{sin_cos_encloses, sin_cos_full}
use Rattle.trig_laws.proofs.Narrow.{sin_cos_narrow}
use Rattle.site_laws.proofs.LookEncloses.{lies_ordered}
use Rattle.case_laws.specs.SightOver.{mask_of}

-- the mask in turns
mask_lies : (d : Dec) → Lies (from_dec_over_of d 360) 38 (turns_of_degrees d)
mask_lies d = from_dec_over_encloses d 360 refl (lit≤ tt)

-- it is an interval
mask_ordered : (d : Dec) → (from_dec_over_of d 360).lo ≤ℤ (from_dec_over_of d 360).hi
mask_ordered d = lies_ordered (mask_lies d)

-- at most a unit wide
mask_width : (d : Dec) → IsNarrow (from_dec_over_of d 360) 1
unfolding from_dec_over_of
mask_width d = outward_width (signed d.neg d.digits) (10 ^ d.places * 360) 38 (mul-pos (ten_positive d.places) (lit≤ tt))

-- each sine of the mask that the model admits lies in it
pub mask_encloses : (limits : Limits) (N : Level) (s : Fraction) → IsSine N (turns_of_degrees limits.mask) s → Lies (mask_of limits) 38 s
unfolding mask_of
mask_encloses limits N s i =
    let p : PairLies (sin_cos_of (from_dec_over_of limits.mask 360)) s i.cosine = sin_cos_encloses refl (mask_ordered limits.mask) N (turns_of_degrees limits.mask) s i.cosine (mask_lies limits.mask) i.pair in
    p.sine

-- it is from -1 to 1
pub mask_full : (limits : Limits) → IsInside (mask_of limits) full_ends
unfolding mask_of
mask_full limits = (sin_cos_full (from_dec_over_of limits.mask 360) (mask_ordered limits.mask)).sine

-- it is at most 2^9 units wide
pub mask_narrow : (limits : Limits) → IsNarrow (mask_of limits) (2 ^ 9)
unfolding mask_of
mask_narrow limits =
    let w = (mask_width limits.mask).width in
    let n = (sin_cos_narrow {a = from_dec_over_of limits.mask 360} refl (mask_ordered limits.mask)).0 in
    record { width = omega (arith, ints) }
