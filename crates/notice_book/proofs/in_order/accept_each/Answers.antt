use Rattle.std.proofs.Common.{◌∙◌, List, subst, sym, arith}
use Rattle.std.specs.Prelude.{All}
use Rattle.std.proofs.lemmas.List.{take_more}
use Rattle.std.proofs.lemmas.List.Elements.{All-push}
use Rattle.notice_model.specs.declared.notice.Notice.{Notice}
use Rattle.notice_model.specs.Notices.{IsWellFormed}
use Rattle.notice_book.specs.Gains.{Gains}
use Rattle.notice_book.proofs.KeptLemmas.{gains_more}
use Rattle.notice_book.proofs.in_order.accept_each.Goals as goal

pub loop-notice-preserved : goal.loop-notice-preserved
loop-notice-preserved g c = record {
  count = omega (arith, c.loop-notice.invariant.count);
  later = omega (arith, c.loop-notice.invariant.later, c.apply.ensures.cause.later);
  started = c.apply.ensures.started ∙ c.loop-notice.invariant.started;
  formed =
      let more = take_more c.args.list.now c.loop-notice.notice-index _ c.loop-notice-test.true in
      subst (All IsWellFormed) (sym more) (All-push IsWellFormed _ _ c.loop-notice.invariant.formed c.in-Ok.ensures.formed);
  held =
      let more = take_more c.args.list.now c.loop-notice.notice-index _ c.loop-notice-test.true in
      subst (λ (l : List Notice). Gains (g.Q.Keeper.tables c.args.keeper.now) l (g.Q.Keeper.tables c.apply.new.keeper)) (sym more)
      (gains_more _ _ _ _ _ c.loop-notice.invariant.held c.in-Ok.ensures.accepted);
}
