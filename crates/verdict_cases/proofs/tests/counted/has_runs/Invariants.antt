use Rattle.verdict_cases.proofs.tests.counted.has_runs.Given as goal

-- the ledger is the one that the blank names
abbrev pub ghosts-split_afresh : goal.ghosts-split_afresh
ghosts-split_afresh a = record { name = a.blank.name; parts = a.blank.parts }

abbrev pub ghosts-split_told_afresh : goal.ghosts-split_told_afresh
ghosts-split_told_afresh a = record { name = a.blank.name; parts = a.blank.parts }
