use Rattle.call_bench.proofs.halvings.runs_of.Given as goal

-- the ledger is the one that the blank names
abbrev pub ghosts-split_afresh : goal.ghosts-split_afresh
ghosts-split_afresh g a = record { name = a.blank.name; parts = a.blank.parts }
