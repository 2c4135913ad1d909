-- The model admits a place of each satellite at each millisecond, at each level.
use Rattle.std.specs.Prelude.{ℤ, pos, ◌^◌, [], ◌∷◌}
use Rattle.std.proofs.Common.{sym, subst}
use Rattle.fractions.specs.Fraction.{Fraction, ratio, whole, zeroᶠ, oneᶠ, ◌+ᶠ◌, ◌-ᶠ◌, ◌*ᶠ◌, ◌≤ᶠ◌, ◌<ᶠ◌}
use Rattle.fractions.specs.Inverse.{inverse, ◌/ᶠ◌}
use Rattle.fractions.proofs.Certificates.{at_most, constants, constants_below, not_negative}
use Rattle.fractions.proofs.Laws.{≤ᶠ_trans}
use Rattle.fractions.proofs.Quote.{quote}
use Rattle.fractions.proofs.StrictOrder.{<ᶠ_at_most, <ᶠ_≤ᶠ_trans, positive_inverse, positive_product}
use Rattle.raim_model.specs.declared.almanac.AlmRecord.{AlmRecord}
use Rattle.raim_model.specs.AlmanacRanges.{IsAlmRecord}
use Rattle.raim_model.specs.Constants.{tau, mu}
use Rattle.raim_model.specs.Decimal.{value_of, turns_of_angle}
use Rattle.raim_model.specs.Level.{Level}
use Rattle.raim_model.specs.Orbit.{OrbitSolution, semi_major_root, semi_major_axis, eccentricity, mean_anomaly, node}
use Rattle.root_laws.proofs.Exists.{has_root}
use Rattle.series_laws.proofs.Pairs.{has_pair}
use Rattle.trig_laws.specs.Quarter.{turn_parts}
use Rattle.kepler_laws.proofs.Exists.{has_anomaly}
use Rattle.orbit_laws.proofs.Angles.{over_tau-is}

-- the half axis of a record is above 0
axis_positive : (rec : AlmRecord) → IsAlmRecord rec → zeroᶠ <ᶠ semi_major_axis rec
axis_positive rec i =
    let root : zeroᶠ <ᶠ semi_major_root rec = positive_product (value_of rec.sqrt_a) (inverse (whole (pos 1000))) (<ᶠ_≤ᶠ_trans four_thousand i.root.at_least) (positive_inverse (whole (pos 1000)) (constants_below (search quote depth 20) tt)) in
    positive_product (semi_major_root rec) (semi_major_root rec) root root
  where
    four_thousand : zeroᶠ <ᶠ whole (pos 4000)
    four_thousand = constants_below (search quote depth 20) tt

-- the gravitational constant over its cube is not negative
motion_square : (rec : AlmRecord) → IsAlmRecord rec → zeroᶠ ≤ᶠ mu /ᶠ (semi_major_axis rec *ᶠ semi_major_axis rec *ᶠ semi_major_axis rec)
motion_square rec i =
    let a = axis_positive rec i in
    let cube = positive_product (semi_major_axis rec *ᶠ semi_major_axis rec) (semi_major_axis rec) (positive_product (semi_major_axis rec) (semi_major_axis rec) a a) a in
    <ᶠ_at_most (positive_product mu (inverse (semi_major_axis rec *ᶠ semi_major_axis rec *ᶠ semi_major_axis rec)) (constants_below (search quote depth 20) tt) (positive_inverse (semi_major_axis rec *ᶠ semi_major_axis rec *ᶠ semi_major_axis rec) cube))

-- an eccentricity is below 1
ratio_square : (e : Fraction) → zeroᶠ ≤ᶠ e → e ≤ᶠ oneᶠ → zeroᶠ ≤ᶠ oneᶠ -ᶠ e *ᶠ e
ratio_square e n h = at_most (e ∷ []) ((oneᶠ -ᶠ e) *ᶠ oneᶠ +ᶠ e *ᶠ (oneᶠ -ᶠ e)) (search not_negative) (search quote depth 20) tt

most_eccentric : ratio (pos 3125) 100000 ≤ᶠ oneᶠ
most_eccentric = constants (search quote depth 20) tt

-- and over the radians of a turn at most a 128th
in_turns_low : (e : Fraction) → zeroᶠ ≤ᶠ e → zeroᶠ ≤ᶠ e /ᶠ tau
in_turns_low e n = subst (λ t. zeroᶠ ≤ᶠ t) (sym (over_tau-is e)) (search not_negative)

in_turns_high : (e : Fraction) → e ≤ᶠ ratio (pos 3125) 100000 → e /ᶠ tau ≤ᶠ ratio (pos 1) 128
in_turns_high e h =
    let most : ratio (pos (10 ^ 13)) turn_parts *ᶠ ratio (pos 3125) 100000 ≤ᶠ ratio (pos 1) 128 = constants (search quote depth 20) tt in
    let factor : zeroᶠ ≤ᶠ ratio (pos (10 ^ 13)) turn_parts = constants (search quote depth 20) tt in
    subst (λ t. t ≤ᶠ ratio (pos 1) 128) (sym (over_tau-is e))
    (≤ᶠ_trans (at_most (ratio (pos (10 ^ 13)) turn_parts ∷ e ∷ []) (ratio (pos (10 ^ 13)) turn_parts *ᶠ (ratio (pos 3125) 100000 -ᶠ e)) (search not_negative) (search quote depth 20) tt) most)

-- a place at each millisecond and level
pub has_solution : (N : Level) (rec : AlmRecord) (t : ℤ) → IsAlmRecord rec → OrbitSolution N rec t
has_solution N rec t i =
    let n = has_root N (mu /ᶠ (semi_major_axis rec *ᶠ semi_major_axis rec *ᶠ semi_major_axis rec)) (motion_square rec i) in
    let low : zeroᶠ ≤ᶠ eccentricity rec = i.eccentricity.at_least in
    let b = has_root N (oneᶠ -ᶠ eccentricity rec *ᶠ eccentricity rec) (ratio_square (eccentricity rec) low (≤ᶠ_trans i.eccentricity.at_most most_eccentric)) in
    let a = has_anomaly N (mean_anomaly rec t n.0) (eccentricity rec /ᶠ tau) record { low = in_turns_low (eccentricity rec) low; high = in_turns_high (eccentricity rec) i.eccentricity.at_most } in
    let w = has_pair N (turns_of_angle rec.perigee) in
    let o = has_pair N (node rec t) in
    let c = has_pair N (turns_of_angle rec.incl) in
    record {
      motion = n.0;
      motion_root = n.1;
      anomaly = a.anomaly;
      anomaly_solves = a.solves;
      sin_anomaly = a.sine;
      cos_anomaly = a.cosine;
      at_anomaly = a.pair;
      axis_ratio = b.0;
      axis_ratio_root = b.1;
      sin_perigee = w.sine;
      cos_perigee = w.cosine;
      at_perigee = w.pair;
      sin_node = o.sine;
      cos_node = o.cosine;
      at_node = o.pair;
      sin_incl = c.sine;
      cos_incl = c.cosine;
      at_incl = c.pair;
    }
