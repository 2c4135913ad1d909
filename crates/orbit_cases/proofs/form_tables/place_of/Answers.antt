use Rattle.std.proofs.Common.{rules, arith, sym, subst, pos, ◌+ℤ◌, ◌-ℤ◌}
use mir.Val.{SFits}
use mir.Syntax.{w64}
use Rattle.std.proofs.lemmas.Int.{ints}
use Rattle.raim_model.specs.AlmanacRanges.{IsApplicable}
use Rattle.trig_enclose.proofs.Casts.{plain}
use Rattle.orbit_cases.proofs.Applied.{applies}
use Rattle.orbit_cases.proofs.form_tables.place_of.Goals as goal

pub position-requires-clause-applicable : goal.position-requires-clause-applicable
position-requires-clause-applicable c =
    let m : SFits w64 c.args.middle = search rules in
    let t : SFits w64 c.args.rec.now.toa_ms = search rules in
    let e = c.requires.early in
    let n = c.requires.late in
    let d : SFits w64 (c.args.rec.now.toa_ms -ℤ pos 7776000000) = omega (arith, ints) in
    let s : SFits w64 (c.args.rec.now.toa_ms +ℤ pos 7776000000) = omega (arith, ints) in
    let low = simp (plain t, plain m, plain d) at c.if-toa-middle.true in
    let high = simp (plain t, plain m, plain s) at c.if-middle-toa.true in
    let a = applies c.args.rec.now.toa_ms c.args.middle (omega (arith, ints)) (omega (arith, ints)) in
    rw (plain m) (subst (λ rec. IsApplicable rec c.args.middle) (sym c.prepare.ensures) record { not_before = a.0; not_after = a.1 })
