use Rattle.edge_cases.proofs.forecasts.predict.Given as goal

-- the ledger is the one that the blank names
abbrev pub ghosts-predict_counted : goal.ghosts-predict_counted
ghosts-predict_counted a = record { name = a.blank.name; parts = a.blank.parts }
