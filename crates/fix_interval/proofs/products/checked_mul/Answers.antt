use Rattle.std.proofs.Common.{◌≡◌, true, rules, ap, ap₂, sym, ◌∙◌, ◌*ℤ◌, FitsSigned, ℤ, Some, to_z, of_z}
use mir.Val.{SFits}
use mir.Syntax.{w128}
use Rattle.std.specs.Option.{option_map}
use Rattle.std.specs.Int.{int_min, int_max}
use Rattle.whole_numbers.specs.Corners.{least_corner, greatest_corner}
use Rattle.whole_numbers.proofs.Casts.{plain}
use Rattle.fix_interval.specs.Intervals.{ends}
use Rattle.fix_interval.specs.Products.{is_i128, mul_wide_of}
use Rattle.fix_interval.proofs.EndSums.{same_ends}
use Rattle.fix_interval.proofs.EndProducts.{mul_wide_encloses, mul_wide_isotone}
use Rattle.fix_interval.proofs.CheckedProducts.{fits-is_i128, unfit-is_i128, checked-some, checked-none_low_low, checked-none_low_high, checked-none_high_low, checked-none_high_high, checked_isotone_some}
use Rattle.fix_interval.proofs.products.checked_mul.Goals as goal

-- a product that does not fit as the program reads it does not fit
unfit : (x y : ℤ) → SFits w128 x → SFits w128 y → (FitsSigned w128 (to_z w128 (of_z w128 x) *ℤ to_z w128 (of_z w128 y)) → ⊥) → FitsSigned w128 (x *ℤ y) → ⊥
unfit x y f g n h = n (rw (plain f, plain g) h)

pub returns-in_err-low_low-clause-exact : goal.returns-in_err-low_low-clause-exact
returns-in_err-low_low-clause-exact c = ap (option_map ends) c.from_residual.ensures ∙ sym (checked-none_low_low (ends c.args.a) (ends c.args.b) (unfit-is_i128 _ (unfit c.args.a.lo c.args.b.lo (search rules) (search rules) (c.in_err-low_low.ensures))))

pub returns-in_err-low_low-clause-isotone_some : goal.returns-in_err-low_low-clause-isotone_some
returns-in_err-low_low-clause-isotone_some c = checked_isotone_some _ (returns-in_err-low_low-clause-exact c)

pub returns-in_err-low_high-clause-exact : goal.returns-in_err-low_high-clause-exact
returns-in_err-low_high-clause-exact c = ap (option_map ends) c.from_residual-in_err-low_high.ensures ∙ sym (checked-none_low_high (ends c.args.a) (ends c.args.b) (unfit-is_i128 _ (unfit c.args.a.lo c.args.b.hi (search rules) (search rules) (c.in_err-low_high.ensures))))

pub returns-in_err-low_high-clause-isotone_some : goal.returns-in_err-low_high-clause-isotone_some
returns-in_err-low_high-clause-isotone_some c = checked_isotone_some _ (returns-in_err-low_high-clause-exact c)

pub returns-in_err-high_low-clause-exact : goal.returns-in_err-high_low-clause-exact
returns-in_err-high_low-clause-exact c = ap (option_map ends) c.from_residual-in_err-high_low.ensures ∙ sym (checked-none_high_low (ends c.args.a) (ends c.args.b) (unfit-is_i128 _ (unfit c.args.a.hi c.args.b.lo (search rules) (search rules) (c.in_err-high_low.ensures))))

pub returns-in_err-high_low-clause-isotone_some : goal.returns-in_err-high_low-clause-isotone_some
returns-in_err-high_low-clause-isotone_some c = checked_isotone_some _ (returns-in_err-high_low-clause-exact c)

pub returns-in_err-high_high-clause-exact : goal.returns-in_err-high_high-clause-exact
returns-in_err-high_high-clause-exact c = ap (option_map ends) c.from_residual-in_err-high_high.ensures ∙ sym (checked-none_high_high (ends c.args.a) (ends c.args.b) (unfit-is_i128 _ (unfit c.args.a.hi c.args.b.hi (search rules) (search rules) (c.in_err-high_high.ensures))))

pub returns-in_err-high_high-clause-isotone_some : goal.returns-in_err-high_high-clause-isotone_some
returns-in_err-high_high-clause-isotone_some c = checked_isotone_some _ (returns-in_err-high_high-clause-exact c)

-- the least product of ends, as the program finds it
low : (c : goal.After-hull_of_four) → c.hull_of_four.result.lo ≡ least_corner c.args.a.lo c.args.a.hi c.args.b.lo c.args.b.hi
low c =
    let al : SFits w128 c.args.a.lo = search rules in
    let ah : SFits w128 c.args.a.hi = search rules in
    let bl : SFits w128 c.args.b.lo = search rules in
    let bh : SFits w128 c.args.b.hi = search rules in
    let fll : SFits w128 c.in_ok-low_low.low_low = search rules in
    let flh : SFits w128 c.in_ok-low_high.low_high = search rules in
    let fhl : SFits w128 c.in_ok-high_low.high_low = search rules in
    let fhh : SFits w128 c.in_ok-high_high.high_high = search rules in
    let ll = plain fll ∙ c.in_ok-low_low.ensures.1 ∙ ap₂ ◌*ℤ◌ (plain al) (plain bl) in
    let lh = plain flh ∙ c.in_ok-low_high.ensures.1 ∙ ap₂ ◌*ℤ◌ (plain al) (plain bh) in
    let hl = plain fhl ∙ c.in_ok-high_low.ensures.1 ∙ ap₂ ◌*ℤ◌ (plain ah) (plain bl) in
    let hh = plain fhh ∙ c.in_ok-high_high.ensures.1 ∙ ap₂ ◌*ℤ◌ (plain ah) (plain bh) in
    c.hull_of_four.ensures.lo ∙ ap₂ int_min (ap₂ int_min ll lh) (ap₂ int_min hl hh)

-- and the greatest
high : (c : goal.After-hull_of_four) → c.hull_of_four.result.hi ≡ greatest_corner c.args.a.lo c.args.a.hi c.args.b.lo c.args.b.hi
high c =
    let al : SFits w128 c.args.a.lo = search rules in
    let ah : SFits w128 c.args.a.hi = search rules in
    let bl : SFits w128 c.args.b.lo = search rules in
    let bh : SFits w128 c.args.b.hi = search rules in
    let fll : SFits w128 c.in_ok-low_low.low_low = search rules in
    let flh : SFits w128 c.in_ok-low_high.low_high = search rules in
    let fhl : SFits w128 c.in_ok-high_low.high_low = search rules in
    let fhh : SFits w128 c.in_ok-high_high.high_high = search rules in
    let ll = plain fll ∙ c.in_ok-low_low.ensures.1 ∙ ap₂ ◌*ℤ◌ (plain al) (plain bl) in
    let lh = plain flh ∙ c.in_ok-low_high.ensures.1 ∙ ap₂ ◌*ℤ◌ (plain al) (plain bh) in
    let hl = plain fhl ∙ c.in_ok-high_low.ensures.1 ∙ ap₂ ◌*ℤ◌ (plain ah) (plain bl) in
    let hh = plain fhh ∙ c.in_ok-high_high.ensures.1 ∙ ap₂ ◌*ℤ◌ (plain ah) (plain bh) in
    c.hull_of_four.ensures.hi ∙ ap₂ int_max (ap₂ int_max ll lh) (ap₂ int_max hl hh)

-- a product that fits as the program reads it passes the test
passes : (x y : ℤ) → SFits w128 x → SFits w128 y → FitsSigned w128 (to_z w128 (of_z w128 x) *ℤ to_z w128 (of_z w128 y)) → is_i128 (x *ℤ y) ≡ true
passes x y f g h = fits-is_i128 (x *ℤ y) (rw (plain f, plain g) at h)

pub returns-clause-exact : goal.returns-clause-exact
unfolding mul_wide_of
returns-clause-exact c =
    let al : SFits w128 c.args.a.lo = search rules in
    let ah : SFits w128 c.args.a.hi = search rules in
    let bl : SFits w128 c.args.b.lo = search rules in
    let bh : SFits w128 c.args.b.hi = search rules in
    ap Some (same_ends (low c) (high c))
    ∙ sym (checked-some (ends c.args.a) (ends c.args.b) (passes c.args.a.lo c.args.b.lo al bl c.in_ok-low_low.ensures.0) (passes c.args.a.lo c.args.b.hi al bh c.in_ok-low_high.ensures.0)
    (passes c.args.a.hi c.args.b.lo ah bl c.in_ok-high_low.ensures.0) (passes c.args.a.hi c.args.b.hi ah bh c.in_ok-high_high.ensures.0))

pub returns-clause-encloses : goal.returns-clause-encloses
unfolding mul_wide_of
returns-clause-encloses c = mul_wide_encloses (same_ends (low c) (high c))

pub returns-clause-isotone : goal.returns-clause-isotone
unfolding mul_wide_of
returns-clause-isotone c = mul_wide_isotone (same_ends (low c) (high c))
