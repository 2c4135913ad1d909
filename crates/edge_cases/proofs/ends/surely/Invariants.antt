use Rattle.edge_cases.proofs.ends.surely.Given as goal

-- the ledger is the one that the blank names
abbrev pub ghosts-surely_counted : goal.ghosts-surely_counted
ghosts-surely_counted a = record { name = a.blank.name; parts = a.blank.parts }
