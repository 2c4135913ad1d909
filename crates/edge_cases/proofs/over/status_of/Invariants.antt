use Rattle.edge_cases.proofs.over.status_of.Given as goal

-- the ledger is the one that the blank names
abbrev pub ghosts-status_counted : goal.ghosts-status_counted
ghosts-status_counted a = record { name = a.blank.name; parts = a.blank.parts }
