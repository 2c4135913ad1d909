use Rattle.std.proofs.Common.{rules, [], ◌∷◌}
use Rattle.notice_book.proofs.KeptLemmas.{told_gained, gains_kept}
use Rattle.notice_book.proofs.accept.answer.Goals as goal

pub returns-in-Ok-commit-clause-accepted : goal.returns-in-Ok-commit-clause-accepted
returns-in-Ok-commit-clause-accepted g c =
    told_gained _ _ _ _ c.args.notice.now c.in-Ok.last c.in_ok-change.change c.requires c.last.ensures.same c.change.ensures.same (search rules) c.in-Ok.ensures.value (search rules)
    c.in_ok-change.ensures.value c.in-Ok-commit.ensures.done

pub returns-in-Ok-commit-clause-again : goal.returns-in-Ok-commit-clause-again
returns-in-Ok-commit-clause-again g c =
    gains_kept _ (c.args.notice.now ∷ []) _
    (told_gained _ _ _ _ c.args.notice.now c.in-Ok.last c.in_ok-change.change c.requires c.last.ensures.same c.change.ensures.same (search rules) c.in-Ok.ensures.value (search rules)
    c.in_ok-change.ensures.value c.in-Ok-commit.ensures.done)
