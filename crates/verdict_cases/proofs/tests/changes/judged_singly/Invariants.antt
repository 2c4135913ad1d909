use Rattle.verdict_cases.proofs.tests.changes.judged_singly.Given as goal

-- the ledger is the one that the blank names
abbrev pub ghosts-split_each_afresh : goal.ghosts-split_each_afresh
ghosts-split_each_afresh a = record { name = a.blank.name; parts = a.blank.parts }
