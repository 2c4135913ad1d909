use Rattle.std.proofs.Common.{rules, arith, sym, subst, ℤ, pos, ◌+ℤ◌, ◌-ℤ◌, ◌≤ℤ◌, to_z, of_z}
use mir.Val.{SFits}
use mir.Syntax.{w64}
use Rattle.std.proofs.lemmas.Int.{ints}
use Rattle.raim_model.specs.AlmanacRanges.{IsApplicable}
use Rattle.trig_enclose.proofs.Casts.{plain}
use Rattle.orbit_cases.proofs.Applied.{applies}
use Rattle.orbit_cases.proofs.position_table.place_of.Goals as goal

pub position-place-requires-clause-first_applicable : goal.position-place-requires-clause-first_applicable
position-place-requires-clause-first_applicable c =
    let f : SFits w64 c.args.first = search rules in
    let l : SFits w64 c.args.last = search rules in
    let t : SFits w64 c.args.rec.now.toa_ms = search rules in
    let e = c.requires.early in
    let n = c.requires.late in
    let d : SFits w64 (c.args.rec.now.toa_ms -ℤ pos 7776000000) = omega (arith, ints) in
    let s : SFits w64 (c.args.rec.now.toa_ms +ℤ pos 7776000000) = omega (arith, ints) in
    let low = simp (plain t, plain f, plain d) at c.if-toa-first.true in
    let mid = simp (plain f, plain l) at c.if-first-last.true in
    let high = simp (plain t, plain l, plain s) at c.if-last-toa.true in
    let a = applies c.args.rec.now.toa_ms c.args.first (omega (arith, ints)) (omega (arith, ints)) in
    rw (plain f) (subst (λ rec. IsApplicable rec c.args.first) (sym c.prepare.ensures) record { not_before = a.0; not_after = a.1 })

pub position-place-requires-clause-last_applicable : goal.position-place-requires-clause-last_applicable
position-place-requires-clause-last_applicable c =
    let f : SFits w64 c.args.first = search rules in
    let l : SFits w64 c.args.last = search rules in
    let t : SFits w64 c.args.rec.now.toa_ms = search rules in
    let e = c.requires.early in
    let n = c.requires.late in
    let d : SFits w64 (c.args.rec.now.toa_ms -ℤ pos 7776000000) = omega (arith, ints) in
    let s : SFits w64 (c.args.rec.now.toa_ms +ℤ pos 7776000000) = omega (arith, ints) in
    let low = simp (plain t, plain f, plain d) at c.if-toa-first.true in
    let mid = simp (plain f, plain l) at c.if-first-last.true in
    let high = simp (plain t, plain l, plain s) at c.if-last-toa.true in
    let a = applies c.args.rec.now.toa_ms c.args.last (omega (arith, ints)) (omega (arith, ints)) in
    rw (plain l) (subst (λ rec. IsApplicable rec c.args.last) (sym c.prepare.ensures) record { not_before = a.0; not_after = a.1 })
