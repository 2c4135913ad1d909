-- Where a satellite is over a piece of time, as intervals: the user algorithm of IS-GPS-200 with the almanac's reduced
-- parameters, in axes that turn with the Earth.
use Rattle.std.specs.Prelude.{ℤ, ◌-ℤ◌}
use Rattle.raim_model.specs.declared.almanac.AlmRecord.{AlmRecord}
use Rattle.fix_interval.specs.Ends.{Ends}
use Rattle.fix_interval.specs.Sums.{add_of, sub_of}
use Rattle.fix_interval.specs.Products.{mul_of, narrow76_of, scale_int_of}
use Rattle.fix_interval.specs.Pairs.{PairEnds}
use Rattle.fix_interval.specs.Vectors.{VectorEnds}
use Rattle.trig_laws.specs.SinCos.{sin_cos_of}
use Rattle.kepler_laws.specs.EccentricSine.{ecc_sin_cos_of}
use Rattle.orbit_laws.specs.Elements.{Elements, elements_of}

-- the mean anomaly in turns, from k to l milliseconds after the time of applicability
unfoldable pub mean_anomaly_over : Elements → ℤ → ℤ → Ends
mean_anomaly_over e k l = add_of e.mean_anomaly (narrow76_of (scale_int_of e.motion k l))

-- the longitude of the ascending node in turns
unfoldable pub node_over : Elements → ℤ → ℤ → Ends
node_over e k l = add_of e.node (narrow76_of (sub_of (scale_int_of e.drift k l) e.turned))

-- in the orbit's plane, x to the perigee, for the sine and the cosine of the eccentric anomaly
unfoldable pub perifocal_x_of : Elements → PairEnds → Ends
perifocal_x_of e p = mul_of e.semi_major_axis (sub_of p.cosine e.eccentricity)

unfoldable pub perifocal_y_of : Elements → PairEnds → Ends
perifocal_y_of e p = mul_of e.semi_minor_axis p.sine

-- the same, x to the ascending node: (x, y) turned by the argument of perigee
unfoldable pub in_plane_x_of : Ends → Ends → PairEnds → Ends
in_plane_x_of x y w = sub_of (mul_of x w.cosine) (mul_of y w.sine)

unfoldable pub in_plane_y_of : Ends → Ends → PairEnds → Ends
in_plane_y_of x y w = add_of (mul_of x w.sine) (mul_of y w.cosine)

-- the place of (x, y), which is turned by the inclination i and then by the node o
unfoldable pub place_of : Ends → Ends → (o i : PairEnds) → VectorEnds
place_of x y o i = record {
  x = sub_of (mul_of x o.cosine) (mul_of (mul_of y i.cosine) o.sine);
  y = add_of (mul_of x o.sine) (mul_of (mul_of y i.cosine) o.cosine);
  z = mul_of y i.sine;
}

-- the place, for the sines and cosines of the eccentric anomaly a, the perigee w, the node o and the inclination i
unfoldable pub orbit_place_of : Elements → (a w o i : PairEnds) → VectorEnds
orbit_place_of e a w o i = place_of (in_plane_x_of (perifocal_x_of e a) (perifocal_y_of e a) w) (in_plane_y_of (perifocal_x_of e a) (perifocal_y_of e a) w) o i

-- the place from k to l milliseconds after the time of applicability
unfoldable pub place_over : Elements → ℤ → ℤ → VectorEnds
place_over e k l = orbit_place_of e (ecc_sin_cos_of (mean_anomaly_over e k l) e.in_turns) (sin_cos_of e.perigee) (sin_cos_of (node_over e k l)) (sin_cos_of e.inclination)

-- the satellite's place in megametres from the millisecond first to last
unfoldable pub position_of : AlmRecord → ℤ → ℤ → VectorEnds
position_of rec first last = place_over (elements_of rec) (first -ℤ rec.toa_ms) (last -ℤ rec.toa_ms)
