use Rattle.cache_trials.proofs.together.many_cells_and_rows.Given as goal

-- the history that was just made
abbrev pub ghosts-hold : goal.ghosts-hold
ghosts-hold g a = record { history = a.seats.history }
