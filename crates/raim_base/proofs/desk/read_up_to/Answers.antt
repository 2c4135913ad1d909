use Rattle.std.proofs.Common.{rules, ◌≡◌, ℕ, [], ◌∷◌, Some, None, subst, arith, inr}
use Rattle.std.proofs.lemmas.Grind.{common_steps}
use Rattle.raim_base.specs.Calls.{Makes, reading}
use Rattle.raim_base.proofs.Calls.{reads_more, reads_last}
use Rattle.raim_base.proofs.desk.read_up_to.Goals as goal

-- the read that fails is the last call
pub returns-in_default-clause-calls : goal.returns-in_default-clause-calls
returns-in_default-clause-calls g c =
    let made = reads_last (g.D.Desk.calls c.args.desk.now) (g.D.Desk.calls c.loop-file.desk) (g.D.Desk.calls c.read.new.self) c.args.file c.args.path.now (reading c.args.file None ∷ []) c.loop-file.invariant.calls c.in_default.ensures.calls in
    (made.0, made.1, inr made.2)

-- so is the one that finds the end
pub returns-then-ended-clause-calls : goal.returns-then-ended-clause-calls
returns-then-ended-clause-calls g c =
    let zero : c.in-Ok.count ≡ 0 = grind arith in
    let end = subst (λ (n : ℕ). Makes (g.D.Desk.calls c.loop-file.desk) (g.D.Desk.calls c.read.new.self) (reading c.args.file (Some n) ∷ [])) zero c.in-Ok.ensures.calls in
    reads_last (g.D.Desk.calls c.args.desk.now) (g.D.Desk.calls c.loop-file.desk) (g.D.Desk.calls c.read.new.self) c.args.file c.args.path.now (reading c.args.file (Some 0) ∷ []) c.loop-file.invariant.calls end

pub returns-then-is_err-2-clause-calls : goal.returns-then-is_err-2-clause-calls
returns-then-is_err-2-clause-calls g c =
    reads_more (g.D.Desk.calls c.args.desk.now) (g.D.Desk.calls c.loop-file.desk) (g.D.Desk.calls c.read.new.self) c.args.file c.args.path.now c.in-Ok.count c.loop-file.invariant.calls c.in-Ok.ensures.calls (grind arith)

-- a read that gives some bytes goes on
pub loop-file-preserved : goal.loop-file-preserved
loop-file-preserved g c = record {
  holds = search rules;
  read = grind (arith, common_steps);
  short = search rules;
  later = search rules;
  others = search rules;
  calls = reads_more (g.D.Desk.calls c.args.desk.now) (g.D.Desk.calls c.loop-file.desk) (g.D.Desk.calls c.read.new.self) c.args.file c.args.path.now c.in-Ok.count c.loop-file.invariant.calls c.in-Ok.ensures.calls (grind arith);
}
