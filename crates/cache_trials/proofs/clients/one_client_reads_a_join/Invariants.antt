use Rattle.cache_trials.proofs.clients.one_client_reads_a_join.Given as goal

-- the history that was just made
abbrev pub ghosts-run : goal.ghosts-run
ghosts-run g a = record { history = a.seats.history }
