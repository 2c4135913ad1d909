use Rattle.std.proofs.Common.{◌≡◌, ◌+◌, ◌∷◌, ℕ, List, [], IfSome, IfNone, refl, subst, arith}
use Rattle.std.specs.declared.option.Option.{Option}
use Rattle.std.specs.Borrow.{Bor}
use Rattle.fleet_text.specs.Routes.{routes_of}
use Rattle.fleet_run.specs.Texts.{texts_of}
use Rattle.fleet_run.proofs.WriteLemmas.{begins, later_routes, none_is, numbered, goes_on, all_written, cut_off, steps_end}
use Rattle.fleet_run.proofs.writing.write_blocks.Goals as goal

pub loop-status-init : goal.loop-status-init
loop-status-init g c =
    record { so_far = begins (texts_of c.args.texts) (g.K.Sink.contents c.args.out.now) c.args.steps.now; later = omega arith }

pub overflow_add-number : goal.overflow_add-number
overflow_add-number g c =
    let i = c.loop-status.invariant in
    omega (arith, numbered (texts_of c.args.texts) (g.K.Sink.contents c.args.out.now) (g.K.Sink.contents c.loop-status.out) c.args.steps.now c.loop-status.steps c.loop-status.rest.now c.loop-status.number i.so_far c.requires)

-- a block was not written whole
pub returns-in-Err-clause-cause : goal.returns-in-Err-clause-cause
returns-in-Err-clause-cause g c =
    let i = c.loop-status.invariant in
    let s = c.split_route.result in
    let next = later_routes (λ (r : Bor (List ℕ)). r.now) c.loop-status.rest.now s.0.now s.1 c.split_route.ensures.last c.split_route.ensures.first in
    cut_off (texts_of c.args.texts) (g.K.Sink.contents c.args.out.now) (g.K.Sink.contents c.loop-status.out) c.args.steps.now c.loop-status.steps c.loop-status.rest.now c.loop-status.number i.so_far
    (g.K.Sink.contents c.write_block.new.out) c.write_block.new.steps s.0.now next.0 next.1 c.in-Err.ensures.steps
    (g.K.Sink.faults c.args.out.now) (g.K.Sink.faults c.loop-status.out) (g.K.Sink.faults c.write_block.new.out) i.later c.in-Err.status c.in-Err.ensures.cause

pub returns-in-Err-clause-steps : goal.returns-in-Err-clause-steps
returns-in-Err-clause-steps g c =
    let i = c.loop-status.invariant in
    let s = c.split_route.result in
    let next = later_routes (λ (r : Bor (List ℕ)). r.now) c.loop-status.rest.now s.0.now s.1 c.split_route.ensures.last c.split_route.ensures.first in
    steps_end (texts_of c.args.texts) (g.K.Sink.contents c.args.out.now) (g.K.Sink.contents c.loop-status.out) c.args.steps.now c.loop-status.steps c.loop-status.rest.now c.loop-status.number i.so_far
    (g.K.Sink.contents c.write_block.new.out) c.write_block.new.steps s.0.now next.0 next.1 c.in-Err.ensures.steps

-- one block more
pub loop-status-preserved : goal.loop-status-preserved
loop-status-preserved g c =
    let i = c.loop-status.invariant in
    let s = c.split_route.result in
    let first = subst (λ (o : Option (Bor (List ℕ))). IfSome o (λ r. routes_of c.loop-status.rest.now ≡ s.0.now ∷ routes_of r.now)) c.in-Some.is c.split_route.ensures.first in
    let wrote = c.in_default.ensures.ok in
    record {
      so_far = goes_on (texts_of c.args.texts) (g.K.Sink.contents c.args.out.now) (g.K.Sink.contents c.loop-status.out) c.args.steps.now c.loop-status.steps c.loop-status.rest.now c.loop-status.number i.so_far
          (g.K.Sink.contents c.write_block.new.out) c.write_block.new.steps s.0.now (routes_of c.in-Some.next.now) first c.in_default.ensures.steps wrote.0 wrote.1 c.in-Some.next.now (c.loop-status.number + 1) refl refl wrote.2;
      later = omega (arith, i.later, c.in_default.ensures.later);
    }

-- the last block
pub returns-in_default-after-clause-cause : goal.returns-in_default-after-clause-cause
returns-in_default-after-clause-cause g c =
    let i = c.loop-status.invariant in
    let s = c.split_route.result in
    let none = none_is s.1 c.in_default-after.not-Some in
    let last = subst (λ (o : Option (Bor (List ℕ))). IfNone o (routes_of c.loop-status.rest.now ≡ s.0.now ∷ [])) none c.split_route.ensures.last in
    let wrote = c.in_default.ensures.ok in
    all_written (texts_of c.args.texts) (g.K.Sink.contents c.args.out.now) (g.K.Sink.contents c.loop-status.out) c.args.steps.now c.loop-status.steps c.loop-status.rest.now c.loop-status.number i.so_far
    (g.K.Sink.contents c.write_block.new.out) c.write_block.new.steps s.0.now [] last c.in_default.ensures.steps wrote.0 wrote.1 refl (g.K.Sink.faults c.args.out.now) (g.K.Sink.faults c.write_block.new.out) wrote.2

pub returns-in_default-after-clause-steps : goal.returns-in_default-after-clause-steps
returns-in_default-after-clause-steps g c =
    let i = c.loop-status.invariant in
    let s = c.split_route.result in
    let next = later_routes (λ (r : Bor (List ℕ)). r.now) c.loop-status.rest.now s.0.now s.1 c.split_route.ensures.last c.split_route.ensures.first in
    steps_end (texts_of c.args.texts) (g.K.Sink.contents c.args.out.now) (g.K.Sink.contents c.loop-status.out) c.args.steps.now c.loop-status.steps c.loop-status.rest.now c.loop-status.number i.so_far
    (g.K.Sink.contents c.write_block.new.out) c.write_block.new.steps s.0.now next.0 next.1 c.in_default.ensures.steps
