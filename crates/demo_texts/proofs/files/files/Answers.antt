use Rattle.demo_texts.proofs.files.files.Goals as goal

pub returns-clause-limits : goal.returns-clause-limits
returns-clause-limits c = c.in_ok-limits.ensures
