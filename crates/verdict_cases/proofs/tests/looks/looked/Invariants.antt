use Rattle.verdict_cases.proofs.tests.looks.looked.Given as goal

-- the ledger is the one that the blank names
abbrev pub ghosts-looked_counted : goal.ghosts-looked_counted
ghosts-looked_counted a = record { name = a.blank.name; parts = a.blank.parts }
