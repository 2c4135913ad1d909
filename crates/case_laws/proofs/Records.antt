-- The records of a case are accepted ones, for its flight, and their satellites are within reach.
use Rattle.std.specs.Prelude.{ℤ, ◌^◌, ◌≤ℤ◌, ◌<ℤ◌}
use Rattle.std.proofs.Common.{arith}
use Rattle.std.proofs.lemmas.Int.{ints}
use Rattle.std.proofs.lemmas.List.Elements.{All-contains}
use Rattle.raim_model.specs.declared.almanac.AlmRecord.{AlmRecord}
use Rattle.raim_model.specs.AlmanacRanges.{IsAlmRecord, IsApplicable, AreRecords}
use Rattle.raim_model.specs.CaseRanges.{IsCase, IsListed}
use Rattle.raim_model.specs.Route.{flight_of}
use Rattle.raim_model.specs.Solution.{Case}
use Rattle.fix_interval.specs.Ends.{Ends, IsInside, IsBelow}
use Rattle.fix_interval.specs.Ranges.{around}
use Rattle.fix_interval.specs.Vectors.{VectorInside, VectorBelow}
use Rattle.orbit_laws.specs.Positions.{position_of}
use Rattle.orbit_laws.proofs.Positions.{position_isotone, position_below}
use Rattle.site_laws.specs.Sights.{IsInReach}

-- an almanac of a case is an accepted one
listed_records : (c : Case) → IsCase c → (rec : AlmRecord) (m : IsListed c rec) → AreRecords (flight_of c.route) m.almanac
listed_records c i rec m = All-contains (AreRecords (flight_of c.route)) c.almanacs m.almanac i.almanacs.each m.is

-- and so is each of its records
pub record_of : (c : Case) → IsCase c → (rec : AlmRecord) → IsListed c rec → IsAlmRecord rec
record_of c i rec m = let a : AreRecords (flight_of c.route) m.almanac = listed_records c i rec m in All-contains IsAlmRecord m.almanac rec a.each m.has

-- each is applicable throughout the flight, since it is at both ends
pub applicable : (c : Case) → IsCase c → (rec : AlmRecord) → IsListed c rec → (t : ℤ) → (flight_of c.route).first ≤ℤ t → t <ℤ (flight_of c.route).end → IsApplicable rec t
applicable c i rec m t low high =
    let r : AreRecords (flight_of c.route) m.almanac = listed_records c i rec m in
    let a : IsApplicable rec (flight_of c.route).first = All-contains (λ r. IsApplicable r (flight_of c.route).first) m.almanac rec r.at_first m.has in
    let b : IsApplicable rec (flight_of c.route).end = All-contains (λ r. IsApplicable r (flight_of c.route).end) m.almanac rec r.at_end m.has in
    let p = a.not_before in let q = b.not_after in
    record { not_before = omega (arith, ints); not_after = omega (arith, ints) }

-- its satellite is one that is looked at
pub in_reach : (rec : AlmRecord) (first last : ℤ) → IsAlmRecord rec → first ≤ℤ last → IsInReach (position_of rec first last)
in_reach rec first last r o =
    let b : VectorBelow (position_of rec first last) (2 ^ 46) = position_below rec first last r o in
    let v : VectorInside (position_of rec first last) (position_of rec first last) = position_isotone rec first last first last r (omega (arith, ints)) o (omega (arith, ints)) in
    record { x = reach b.x v.x.ordered; y = reach b.y v.y.ordered; z = reach b.z v.z.ordered }
  where
    reach : {a : Ends} → IsBelow a (2 ^ 46) → a.lo ≤ℤ a.hi → IsInside a (around (2 ^ 46))
    reach {a} b o = let l = b.low in let h = b.high in record { low = omega (arith, ints); ordered = o; high = omega (arith, ints) }
