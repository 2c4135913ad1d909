use Rattle.std.proofs.Common.{rules, ◌≡◌, zero, suc, refl, [], ◌∷◌, Some, None, inr, ◌<◌, ◌≤◌, ◌+◌, ◌-◌, ℕ, min, length-take, ◌++◌, take, drop, length, ◌∙◌, subst, arith, length-append}
use Rattle.std.proofs.lemmas.List.{take-append-le}
use Rattle.std.proofs.lemmas.Grind.{common_steps}
use Rattle.std.proofs.KnownBytes.{Consumes-trans}
use Rattle.text_lines.specs.Lines.{Text, lines_of}
use Rattle.raim_base.specs.Calls.{Makes, reading}
use Rattle.raim_base.specs.Sizes.{longest_file}
use Rattle.raim_base.specs.Feeding.{Follows, Feeds, FeedsFront}
use Rattle.raim_base.proofs.Calls.{reads_more, reads_last}
use Rattle.raim_base.proofs.FeedLemmas.{feeds_piece, front_piece, told_front, end_front}
use Rattle.raim_base.proofs.line_taker.feed_lines.Goals as goal

within : (given count most : ℕ) (new buf : Text) → length new ≡ length (take most buf) → most ≡ min 4096 (longest_file + 1 - given) → count ≤ length new → given ≤ longest_file → given + count ≤ longest_file + 1
within given count most new buf e m le few = let t = length-take most buf in omega (arith, t, e, m, le, few)

some_bytes : (n : ℕ) → (n ≡ 0 → ⊥) → 0 < n
some_bytes zero h = absurd (h refl)
some_bytes (suc n) h = omega arith

-- the read that fails is the last call
pub returns-in_default-clause-calls : goal.returns-in_default-clause-calls
returns-in_default-clause-calls g c =
    let made = reads_last (g.D.Desk.calls c.args.desk.now) (g.D.Desk.calls c.loop-given.desk) (g.D.Desk.calls c.read.new.self) c.args.file c.args.path.now (reading c.args.file None ∷ []) c.loop-given.invariant.9 c.in_default.ensures.calls in
    (made.0, made.1, inr made.2)

-- so is the one that finds the end
pub returns-then-count-eq0-clause-calls : goal.returns-then-count-eq0-clause-calls
returns-then-count-eq0-clause-calls g c =
    let end = subst (λ (n : ℕ). Makes (g.D.Desk.calls c.loop-given.desk) (g.D.Desk.calls c.read.new.self) (reading c.args.file (Some n) ∷ [])) c.if-count-eq0.true c.in-Ok.ensures.calls in
    reads_last (g.D.Desk.calls c.args.desk.now) (g.D.Desk.calls c.loop-given.desk) (g.D.Desk.calls c.read.new.self) c.args.file c.args.path.now (reading c.args.file (Some 0) ∷ []) c.loop-given.invariant.9 end

pub returns-in-Err-clause-calls : goal.returns-in-Err-clause-calls
returns-in-Err-clause-calls g c =
    reads_more (g.D.Desk.calls c.args.desk.now) (g.D.Desk.calls c.loop-given.desk) (g.D.Desk.calls c.read.new.self) c.args.file c.args.path.now c.in-Ok.count c.loop-given.invariant.9 c.in-Ok.ensures.calls (some_bytes c.in-Ok.count c.if-count-eq0.false)

-- what is given and fed is kept
pub loop-given-preserved : goal.loop-given-preserved
loop-given-preserved g c =
    let i = c.loop-given.invariant in
    let count = c.in-Ok.count in
    let piece = take count c.read.new.buf in
    let old = g.T.LineTaker.stands c.args.taker.now in
    let mid = g.T.LineTaker.stands c.loop-given.taker in
    let new = g.T.LineTaker.stands c.feed_piece.new.taker in
    let carried = c.loop-given.carried.items in
    let next = c.feed_piece.new.carried.items in
    let same : take count (c.read.new.buf ++ drop c.min-most.result c.loop-given.buf) ≡ piece = take-append-le count c.read.new.buf (drop c.min-most.result c.loop-given.buf) c.in-Ok.ensures.count.0 in (
      i.0 ++ piece,
      omega (arith, length-append i.0 piece, i.1, c.in-Ok.ensures.count.1),
      Consumes-trans (g.D.Desk.holds c.args.desk.now c.args.path.now) (g.D.Desk.left c.loop-given.desk c.args.file) (g.D.Desk.left c.read.new.self c.args.file) i.0 piece i.2 c.in-Ok.ensures.bytes.0,
      feeds_piece old mid new i.0 piece carried next i.3 (subst (λ (t : Text). Feeds mid new (carried ++ t) next) same c.in_default-feed_piece.ensures.fed),
      within c.loop-given.given count c.min-most.result c.read.new.buf c.loop-given.buf c.read.auto.buf c.min-most.ensures c.in-Ok.ensures.count.0 c.loop-given-test.true,
      λ p. c.read.ensures.holds p ∙ i.5 p,
      omega (arith, i.6, c.read.ensures.cause.later),
      λ f ne. let a = c.read.ensures.others f ne in let b = i.7 f ne in (a.0 ∙ b.0, a.1 ∙ b.1),
      c.in_default-feed_piece.ensures.made ∙ i.8,
      reads_more (g.D.Desk.calls c.args.desk.now) (g.D.Desk.calls c.loop-given.desk) (g.D.Desk.calls c.read.new.self) c.args.file c.args.path.now count i.9 c.in-Ok.ensures.calls (some_bytes count c.if-count-eq0.false),
    )

pub returns-then-count-eq0-clause-front : goal.returns-then-count-eq0-clause-front
returns-then-count-eq0-clause-front g c =
    let i = c.loop-given.invariant in
    let piece = take c.in-Ok.count c.read.new.buf in
    let none : length piece ≡ 0 = omega (arith, c.in-Ok.ensures.count.1, c.if-count-eq0.true) in
    let some : 0 < length c.read.new.buf = search (rules, common_steps) in
    end_front (g.T.LineTaker.stands c.args.taker.now) (g.T.LineTaker.stands c.loop-given.taker) (g.T.LineTaker.stands c.feed_last.new.taker)
    (g.D.Desk.holds c.args.desk.now c.args.path.now) (g.D.Desk.left c.loop-given.desk c.args.file) (g.D.Desk.left c.read.new.self c.args.file) i.0 piece c.loop-given.carried.items
    i.2 c.in-Ok.ensures.bytes.0 none (c.in-Ok.ensures.bytes.1 c.if-count-eq0.true some) i.3
    (subst (λ (t : Text). Follows (g.T.LineTaker.stands c.loop-given.taker) (g.T.LineTaker.stands c.feed_last.new.taker) (lines_of t)) c.as_slice.ensures.value c.feed_last.ensures.fed)

pub returns-in-Err-clause-front : goal.returns-in-Err-clause-front
returns-in-Err-clause-front g c =
    let i = c.loop-given.invariant in
    let count = c.in-Ok.count in
    let piece = take count c.read.new.buf in
    let old = g.T.LineTaker.stands c.args.taker.now in
    let mid = g.T.LineTaker.stands c.loop-given.taker in
    let new = g.T.LineTaker.stands c.feed_piece.new.taker in
    let carried = c.loop-given.carried.items in
    let same : take count (c.read.new.buf ++ drop c.min-most.result c.loop-given.buf) ≡ piece = take-append-le count c.read.new.buf (drop c.min-most.result c.loop-given.buf) c.in-Ok.ensures.count.0 in
    let told = g.D.Desk.holds c.args.desk.now c.args.path.now in
    told_front old new told (g.D.Desk.left c.read.new.self c.args.file) (i.0 ++ piece)
    (Consumes-trans told (g.D.Desk.left c.loop-given.desk c.args.file) (g.D.Desk.left c.read.new.self c.args.file) i.0 piece i.2 c.in-Ok.ensures.bytes.0)
    (front_piece old mid new i.0 piece carried i.3 (subst (λ (t : Text). FeedsFront mid new (carried ++ t)) same c.in-Err.ensures.front))
