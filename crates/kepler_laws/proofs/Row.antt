-- One value, by computing.
use Rattle.std.specs.Prelude.{◌≡◌, pos, ◌^◌, ◌-ℤ◌, neg_ℤ, refl}
use Rattle.fix_interval.specs.Bounds.{hull_of, clamp_of, widen_of}
use Rattle.fix_interval.specs.Ends.{Ends}
use Rattle.fix_interval.specs.Products.{mul_of, mul_wide_of, narrow76_of, sqr_of, sqr_wide_of}
use Rattle.fix_interval.specs.Quotients.{div_int_of, scale_of}
use Rattle.fix_interval.specs.Sums.{sub_of, neg_of}
use Rattle.fix_interval.specs.Pairs.{hull_from, pair_hull}
use Rattle.trig_laws.specs.Quarter.{nested_of, sine_of, cosine_of, left_of}
use Rattle.trig_laws.specs.SinCos.{sin_cos_of, pair_at}
use Rattle.kepler_laws.specs.Anomalies.{anomalies_of, lower_end, mean_of}
use Rattle.kepler_laws.specs.EccentricSine.{ecc_sin_cos_of, wrap_pair, wrapped_of}

zero_ends : Ends
zero_ends = record { lo = pos 0; hi = pos 0 }

at_zero : ecc_sin_cos_of record { lo = pos 0; hi = pos 0 } record { lo = pos 0; hi = pos 0 } ≡ record { sine = record { lo = neg_ℤ (pos 8); hi = pos 8 }; cosine = record { lo = pos (2 ^ 38) -ℤ pos 2; hi = pos (2 ^ 38) } }
unfolding ecc_sin_cos_of hull_from wrap_pair wrapped_of anomalies_of lower_end mean_of sin_cos_of pair_at pair_hull neg_of left_of nested_of sine_of cosine_of sub_of mul_of mul_wide_of narrow76_of sqr_of sqr_wide_of hull_of scale_of div_int_of widen_of clamp_of
at_zero = refl
