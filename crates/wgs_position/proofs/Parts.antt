-- Vectors and frames that are equal in each part, and the constants of the program.
use Rattle.std.specs.Prelude.{◌≡◌, pos, refl}
use Rattle.fix_interval.specs.Ends.{Ends}
use Rattle.fix_interval.specs.Quotients.{from_ratio_of, outward_of}
use Rattle.fix_interval.specs.Sums.{sub_of}
use Rattle.fix_interval.specs.Ranges.{one_ends}
use Rattle.fix_interval.specs.Vectors.{VectorEnds}
use Rattle.site_laws.specs.Frames.{FrameEnds, eccentricity_ends, axis_ends}

pub same_vector : {a b c x y z : Ends} → a ≡ x → b ≡ y → c ≡ z → (let p : VectorEnds = record { x = a; y = b; z = c } in let q : VectorEnds = record { x = x; y = y; z = z } in p ≡ q)
same_vector p q r = λ i. record { x = p i; y = q i; z = r i }

pub same_frame : {a b c d x y z w : VectorEnds} → a ≡ x → b ≡ y → c ≡ z → d ≡ w
    → (let p : FrameEnds = record { position = a; east = b; north = c; up = d } in let q : FrameEnds = record { position = x; east = y; north = z; up = w } in p ≡ q)
same_frame p q r s = λ i. record { position = p i; east = q i; north = r i; up = s i }

pub eccentricity-is : (let e : Ends = record { lo = pos 1840137159; hi = pos 1840137160 } in e ≡ eccentricity_ends)
unfolding from_ratio_of outward_of
eccentricity-is = refl

pub axis-is : (let e : Ends = record { lo = pos 1753208948762; hi = pos 1753208948763 } in e ≡ axis_ends)
unfolding from_ratio_of outward_of
axis-is = refl

pub rest-is : (let e : Ends = record { lo = pos 273037769784; hi = pos 273037769785 } in e ≡ sub_of one_ends eccentricity_ends)
unfolding sub_of from_ratio_of outward_of
rest-is = refl
